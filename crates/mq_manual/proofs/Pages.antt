-- The parts of the manual page.
use Rattle.std.proofs.Common.{◌≡◌, ◌+◌, ◌<◌, ◌++◌, ◌∷◌, [], ℕ, Bool, true, false, List, codes, length, take, get_or, refl, sym, ap, subst, ◌∙◌, append_assoc, append-nil, cond}
use Rattle.std.specs.Prelude.{filter}
use Rattle.std.proofs.lemmas.List.{take_more}
use Rattle.std.proofs.lemmas.List.Elements.{filter_more}
use Rattle.clap.specs.Words.{Text, rule_of}
use Rattle.clap.specs.declared.builder.arg.Arg.{Arg}
use Rattle.clap.specs.declared.builder.command.Command.{Command}
use Rattle.mq_manual.specs.Manual.{AreEntries, AreSections, HasEntries, IsCompleted, IsEntry, IsPage, IsSection, about_of, help_of, tag}
use Rattle.mq_manual.specs.Roff.{italic, plain_line, request}

-- ---- Arguments

entries_more : (args : List Arg) (arg : Arg) (text entry : Text) → AreEntries args text → IsEntry arg entry → AreEntries (args ++ arg ∷ []) (text ++ entry)
entries_more [] arg text entry none is = (entry, [], is, refl, ap (λ (t : Text). t ++ entry) none ∙ sym (append-nil entry))
entries_more (first ∷ rest) arg text entry h is =
    (h.0, h.1 ++ entry, h.2, entries_more rest arg h.1 entry h.3 is, ap (λ (t : Text). t ++ entry) h.4 ∙ append_assoc h.0 h.1 entry)

-- an argument that is listed
pub next_entry : (p : Arg → Bool) (args : List Arg) (k : ℕ) (x : Arg) (start old new : Text) → k < length args → x ≡ get_or args k x → p x ≡ true → (text : Text) × AreEntries (filter p (take k args)) text × (old ≡ start ++ text)
    → (entry : Text) × IsEntry x entry × (new ≡ old ++ entry) → (text : Text) × AreEntries (filter p (take (k + 1) args)) text × (new ≡ start ++ text)
next_entry p args k x start old new below at listed h more =
    let here : p (get_or args k x) ≡ true = ap p (sym at) ∙ listed in
    let longer : filter p (take k args) ++ x ∷ [] ≡ filter p (take (k + 1) args) =
    ap (λ (a : Arg). filter p (take k args) ++ a ∷ []) at ∙ sym (filter_more p args k x below ∙ ap (λ (b : Bool). filter p (take k args) ++ cond b (get_or args k x ∷ []) []) here) in (
      h.0 ++ more.0,
      subst (λ (listed : List Arg). AreEntries listed (h.0 ++ more.0)) longer (entries_more (filter p (take k args)) x h.0 more.0 h.1 more.1),
      more.2 ∙ ap (λ (t : Text). t ++ more.0) h.2 ∙ append_assoc start h.0 more.0,
    )

-- another argument
pub next_other : (p : Arg → Bool) (args : List Arg) (k : ℕ) (x : Arg) (start old : Text) → k < length args → x ≡ get_or args k x → p x ≡ false → (text : Text) × AreEntries (filter p (take k args)) text × (old ≡ start ++ text)
    → (text : Text) × AreEntries (filter p (take (k + 1) args)) text × (old ≡ start ++ text)
next_other p args k x start old below at other h =
    let here : p (get_or args k x) ≡ false = ap p (sym at) ∙ other in
    let same : filter p (take k args) ≡ filter p (take (k + 1) args) =
    sym (append-nil (filter p (take k args))) ∙ sym (filter_more p args k x below ∙ ap (λ (b : Bool). filter p (take k args) ++ cond b (get_or args k x ∷ []) []) here) in
    subst (λ (listed : List Arg). (text : Text) × AreEntries listed text × (old ≡ start ++ text)) same h

-- ---- Commands

sections_more : (commands : List Command) (command : Command) (text section : Text) → AreSections commands text → IsSection command section → AreSections (commands ++ command ∷ []) (text ++ section)
sections_more [] command text section none is = (section, [], is, refl, ap (λ (t : Text). t ++ section) none ∙ sym (append-nil section))
sections_more (first ∷ rest) command text section h is =
    (h.0, h.1 ++ section, h.2, sections_more rest command h.1 section h.3 is, ap (λ (t : Text). t ++ section) h.4 ∙ append_assoc h.0 h.1 section)

pub next_section : (commands : List Command) (k : ℕ) (x : Command) (start old new : Text) → k < length commands → x ≡ get_or commands k x → (text : Text) × AreSections (take k commands) text × (old ≡ start ++ text)
    → (section : Text) × IsSection x section × (new ≡ old ++ section) → (text : Text) × AreSections (take (k + 1) commands) text × (new ≡ start ++ text)
next_section commands k x start old new below at h more =
    let longer : take k commands ++ x ∷ [] ≡ take (k + 1) commands = ap (λ (c : Command). take k commands ++ c ∷ []) at ∙ sym (take_more commands k x below) in (
      h.0 ++ more.0,
      subst (λ (cs : List Command). AreSections cs (h.0 ++ more.0)) longer (sections_more (take k commands) x h.0 more.0 h.1 more.1),
      more.2 ∙ ap (λ (t : Text). t ++ more.0) h.2 ∙ append_assoc start h.0 more.0,
    )

-- ---- Texts, as they were appended

pub one_entry : (arg : Arg) (old first second third fourth new value : Text) → first ≡ old ++ codes ".TP\n" → second ≡ first ++ tag (rule_of arg).short (rule_of arg).long → third ≡ second ++ italic value → fourth ≡ third ++ codes "\n"
    → new ≡ fourth ++ plain_line (help_of arg) → (entry : Text) × IsEntry arg entry × (new ≡ old ++ entry)
one_entry arg old first second third fourth new value begins named valued broken ends = (_, record { value = value; text_is = refl }, rw (ends, broken, valued, named, begins) (simp append_assoc))

pub one_section : (command complete : Command) (old first second third fourth new usage : Text) → IsCompleted command complete → first ≡ old ++ request (codes "SS") usage → second ≡ first ++ plain_line (about_of complete)
    → (words : Text) × HasEntries true complete words × (third ≡ second ++ words) → (options : Text) × HasEntries false complete options × (fourth ≡ third ++ options) → (end : Text) × (new ≡ fourth ++ end)
    → (section : Text) × IsSection command section × (new ≡ old ++ section)
one_section command complete old first second third fourth new usage completed begins described words options end = (
  _,
  record {
    complete = complete;
    completed = completed;
    usage = usage;
    words = words.0;
    are_words = words.1;
    options = options.0;
    are_options = options.1;
    end = end.0;
    text_is = refl;
  },
  rw (end.1, options.2, words.2, described, begins) (simp append_assoc),
)

pub is_page : (program complete : Command) (commands : List Command) (start first second third fourth fifth sixth new : Text) → IsCompleted program complete → (title : Text) × (first ≡ start ++ title) → second ≡ first ++ codes ".SH OPTIONS\n"
    → (options : Text) × HasEntries false complete options × (third ≡ second ++ options) → fourth ≡ third ++ codes ".SH COMMANDS\n" → (sections : Text) × AreSections commands sections × (fifth ≡ fourth ++ sections)
    → sixth ≡ fifth ++ codes ".SH NOTES\n" → (notes : Text) × (new ≡ sixth ++ notes) → IsPage program commands new
is_page program complete commands start first second third fourth fifth sixth new completed title two options four sections six notes = record {
  complete = complete;
  completed = completed;
  front = first;
  options = options.0;
  are_options = options.1;
  sections = sections.0;
  are_sections = sections.1;
  notes = notes.0;
  text_is = rw (notes.1, six, sections.2, four, options.2, two) (simp append_assoc);
}
