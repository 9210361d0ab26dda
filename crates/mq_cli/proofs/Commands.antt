-- The commands of the program by their names.
use Rattle.std.proofs.Common.{◌≡◌, ◌+◌, ◌<◌, ◌++◌, ◌∷◌, [], ℕ, Bool, true, false, List, Option, Some, None, Result, Ok, Err, IfOk, length, take, get_or, map, refl, sym, ap, subst, ◌∙◌, zero, suc, arith}
use Rattle.std.specs.Prelude.{IfSome, find}
use Rattle.std.specs.List.{AllByRecursion}
use Rattle.std.specs.Str.{bytes_eq}
use Rattle.std.proofs.lemmas.List.{get_or-map, length-map, map_more, map_push}
use Rattle.std.proofs.lemmas.Slice.Eq.{bytes_eq-Decides}
use Rattle.clap.specs.Words.{App, Shape, Text, app_of, shape_of}
use Rattle.clap.specs.declared.builder.command.Command.{Command}
use Rattle.mq_cli.specs.Grammar.{program_words}
use Rattle.mq_cli.specs.Inside.Grammar.{command_named}

-- a command that was made is the one of its name
pub shown : {E : Type 0} (name word : Text) (words : App) (made result : Result Command E) → name ≡ word → command_named word ≡ Some words.top → IfOk made (λ c. app_of c ≡ words)
    → ((shape : Shape) → IfOk made (λ c. shape_of c ≡ shape) → IfOk result (λ c. shape_of c ≡ shape)) → IfOk result (λ c. IfSome (command_named name) (λ shape. shape_of c ≡ shape))
shown name word words (Ok c) (Ok d) is found same kept = rw (is, found) (kept words.top (ap (λ (a : App). a.top) same))
shown name word words (Err e) (Ok d) is found same kept = rw (is, found) (kept words.top tt)
shown name word words made (Err e) is found same kept = tt

decided : {P : Type 0} (r : Bool) → (r ≡ true → P) → ¬ P → r ≡ false
decided true holds fails = absurd (fails (holds refl))
decided false holds fails = refl

-- a text is not this word
pub differs : (word name : Text) → (name ≡ word → ⊥) → bytes_eq word name ≡ false
differs word name other = decided (bytes_eq word name) (bytes_eq-Decides word name).0 (λ e. other (sym e))

-- no command has this name
missing : (name : Text) (shapes : List Shape) → AllByRecursion (λ s. bytes_eq s.name name ≡ false) shapes → find (λ s. bytes_eq s.name name) shapes ≡ None
missing name [] h = refl
missing name (s ∷ rest) h = rw h.0 (missing name rest h.1)

pub unnamed : {E : Type 0} (name : Text) (result : Result Command E) → AllByRecursion (λ s. bytes_eq s.name name ≡ false) program_words.subs → IfOk result (λ c. IfSome (command_named name) (λ shape. shape_of c ≡ shape))
unfolding command_named
unnamed name (Ok c) h = rw (missing name program_words.subs h) tt
unnamed name (Err e) h = tt

-- each command is found by its name
pub all_found : AllByRecursion (λ s. command_named s.name ≡ Some s) program_words.subs
unfolding command_named
all_found = (refl, (refl, (refl, (refl, (refl, (refl, (refl, (refl, (refl, (refl, (refl, (refl, (refl, (refl, tt))))))))))))))

at_place : (P : Shape → Type 0) (shapes : List Shape) (k : ℕ) (d : Shape) → AllByRecursion P shapes → k < length shapes → P (get_or shapes k d)
at_place P [] k d h below = absurd (omega arith)
at_place P (s ∷ rest) zero d h below = h.0
at_place P (s ∷ rest) (suc k) d h below = at_place P rest k d h.1 (omega arith)

-- The command that is made for the name of a subcommand has its shape.
pub same_shape : (subs : List Command) (k : ℕ) (sub made : Command) → map shape_of subs ≡ program_words.subs → k < length subs → sub ≡ get_or subs k sub → IfSome (command_named (shape_of sub).name) (λ shape. shape_of made ≡ shape)
    → shape_of made ≡ shape_of sub
same_shape subs k sub made all below at named =
    let shape = shape_of sub in
    let P : Shape → Type 0 = λ s. command_named s.name ≡ Some s in
    let within : k < length program_words.subs = subst (λ (n : ℕ). k < n) (sym (length-map subs shape_of) ∙ ap length all) below in
    let here : get_or program_words.subs k shape ≡ shape = ap (λ (ss : List Shape). get_or ss k shape) (sym all) ∙ get_or-map shape_of subs k sub shape below ∙ ap shape_of (sym at) in
    let found : command_named shape.name ≡ Some shape = subst P here (at_place P program_words.subs k shape all_found within) in
    subst (λ (o : Option Shape). IfSome o (λ s. shape_of made ≡ s)) found named

-- one more subcommand
pub next_listed : (subs old new : List Command) (k : ℕ) (sub made : Command) → new ≡ old ++ made ∷ [] → map shape_of old ≡ map shape_of (take k subs) → shape_of made ≡ shape_of sub → sub ≡ get_or subs k sub → k < length subs
    → map shape_of new ≡ map shape_of (take (k + 1) subs)
next_listed subs old new k sub made pushed before same at below =
    ap (map shape_of) pushed ∙ map_push shape_of old made ∙ ap (λ (ss : List Shape). ss ++ shape_of made ∷ []) before ∙ ap (λ (s : Shape). map shape_of (take k subs) ++ s ∷ []) (same ∙ ap shape_of at)
    ∙ sym (map_more shape_of subs k sub below)
