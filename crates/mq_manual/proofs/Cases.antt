-- The cases of commands.
use Rattle.std.proofs.Common.{◌≡◌, ◌+◌, ◌<◌, ◌++◌, ◌∷◌, [], ℕ, List, codes, length, take, drop, get_or, refl, sym, ap, subst, ◌∙◌, append_assoc, append-nil}
use Rattle.std.proofs.lemmas.List.{drop_more, flat_map_more, take_more}
use Rattle.std.specs.List.{list_any}
use Rattle.std.specs.Str.{trim_start}
use Rattle.clap.specs.Simple.{is_positional}
use Rattle.clap.specs.Words.{Shape, Text}
use Rattle.clap.specs.declared.builder.command.Command.{Command}
use Rattle.mq_manual.specs.Completion.{AreCases, Completes, IsCase, IsScript, case_text, first_line, help_line, offer, options, own_name, script_text, spaced_name, spaced_names}
use Rattle.mq_manual.specs.declared.completion.TheConstants.{END, SHELLS, START}

-- ---- A case

-- the case of a command, as it was appended
pub one_case : (command : Shape) (old first second third new values : Text) → first ≡ old ++ (codes "    *:" ++ (own_name command.name ++ codes ")\n")) → second ≡ first ++ values
    → third ≡ second ++ offer (list_any is_positional command.rules) (trim_start (options command)) → new ≡ third ++ codes "        ;;\n" → new ≡ old ++ case_text command values
one_case command old first second third new values begins valued offered ends = rw (ends, offered, valued, begins) (simp append_assoc)

-- ---- Commands in turn

-- the next command of two lists that end alike
pub same_next : (items commands : List Command) (k : ℕ) (d e : Command) → k < length items → k < length commands → drop k items ≡ drop k commands → get_or items k d ≡ get_or commands k e
same_next items commands k d e within below left =
    let first = drop_more items k d within in
    let second = drop_more commands k e below in
    cc

one_more : (commands : List Command) (k : ℕ) (x : Command) → k < length commands → x ≡ get_or commands k x → take k commands ++ x ∷ [] ≡ take (k + 1) commands
one_more commands k x below at = ap (λ (c : Command). take k commands ++ c ∷ []) at ∙ sym (take_more commands k x below)

pub next_named : (commands : List Command) (k : ℕ) (x : Command) (start old new : Text) → k < length commands → x ≡ get_or commands k x → old ≡ start ++ spaced_names (take k commands) → new ≡ old ++ spaced_name x
    → new ≡ start ++ spaced_names (take (k + 1) commands)
next_named commands k x start old new below at before added =
    added ∙ ap (λ (t : Text). t ++ spaced_name x) before ∙ flat_map_more spaced_name start (take k commands) x ∙ ap (λ (cs : List Command). start ++ spaced_names cs) (one_more commands k x below at)

cases_more : (commands : List Command) (command : Command) (text case : Text) → AreCases commands text → IsCase command case → AreCases (commands ++ command ∷ []) (text ++ case)
cases_more [] command text case none is = (case, [], is, refl, ap (λ (t : Text). t ++ case) none ∙ sym (append-nil case))
cases_more (first ∷ rest) command text case h is =
    (h.0, h.1 ++ case, h.2, cases_more rest command h.1 case h.3 is, ap (λ (t : Text). t ++ case) h.4 ∙ append_assoc h.0 h.1 case)

pub next_listed : (commands : List Command) (k : ℕ) (x : Command) (start old new : Text) → k < length commands → x ≡ get_or commands k x → (text : Text) × AreCases (take k commands) text × (old ≡ start ++ text)
    → (case : Text) × IsCase x case × (new ≡ old ++ case) → (text : Text) × AreCases (take (k + 1) commands) text × (new ≡ start ++ text)
next_listed commands k x start old new below at h more = (
  h.0 ++ more.0,
  subst (λ (cs : List Command). AreCases cs (h.0 ++ more.0)) (one_more commands k x below at) (cases_more (take k commands) x h.0 more.0 h.1 more.1),
  more.2 ∙ ap (λ (t : Text). t ++ more.0) h.2 ∙ append_assoc start h.0 more.0,
)

-- ---- The script

pub is_script : (program : Command) (commands : List Command) (complete : Shape) (listed own cases named text : Text) → Completes program complete → listed ≡ [] ++ spaced_names commands → own ≡ options complete
    → AreCases commands named → cases ≡ [] ++ named → text ≡ script_text listed own cases → IsScript program commands text
is_script program commands complete listed own cases named text completes names have are cased is = record {
  complete = complete;
  completes = completes;
  cases = named;
  are_cases = are;
  text_is = is ∙ rw (names, have, cased) refl;
}

-- the script, as it was appended
pub whole_text : (commands own cases start first second third fourth new : Text) → start ≡ START.now → first ≡ start ++ first_line commands own → second ≡ first ++ help_line (trim_start commands)
    → third ≡ second ++ SHELLS.now → fourth ≡ third ++ cases → new ≡ fourth ++ END.now → new ≡ script_text commands own cases
whole_text commands own cases start first second third fourth new begin one two three four five =
    let last : (((((START.now ++ first_line commands own) ++ help_line (trim_start commands)) ++ SHELLS.now) ++ cases) ++ END.now) ≡ script_text commands own cases =
    append_assoc ((((START.now ++ first_line commands own) ++ help_line (trim_start commands)) ++ SHELLS.now)) cases END.now
    ∙ append_assoc ((START.now ++ first_line commands own) ++ help_line (trim_start commands)) SHELLS.now (cases ++ END.now)
    ∙ append_assoc (START.now ++ first_line commands own) (help_line (trim_start commands)) (SHELLS.now ++ (cases ++ END.now))
    ∙ append_assoc START.now (first_line commands own) (help_line (trim_start commands) ++ (SHELLS.now ++ (cases ++ END.now))) in
    rw (five, four, three, two, one, begin) last
