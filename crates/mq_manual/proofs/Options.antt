-- The options of commands.
use Rattle.std.proofs.Common.{◌≡◌, ◌&&◌, ◌||◌, ◌+◌, ◌<◌, ℕ, Bool, true, false, not, List, Option, Some, None, length, take, get_or, map, refl, sym, ap, ◌∙◌}
use Rattle.std.specs.Prelude.{is_some, option_map}
use Rattle.std.specs.List.{list_any}
use Rattle.std.proofs.lemmas.List.Folds.{list_any_at, list_any_more}
use Rattle.clap.proofs.WalkLemmas.{list_any-map}
use Rattle.clap.specs.Simple.{is_positional}
use Rattle.clap.specs.Words.{rule_of}
use Rattle.clap.specs.declared.builder.arg.Arg.{Arg}

-- an argument without a name
abbrev pub is_unnamed : Arg → Bool
is_unnamed a = is_positional (rule_of a)

is_mapped : {X Y : Type 0} (f : X → Y) (o : Option X) → is_some (option_map f o) ≡ is_some o
is_mapped f (Some x) = refl
is_mapped f None = refl

-- the test of an argument, and that of its rule
pub same_test : (a : Arg) → (not (is_some a.long) && not (is_some a.short)) ≡ is_unnamed a
same_test a = ap (λ (b : Bool). not b && not (is_some a.short)) (sym (is_mapped (λ s. s.now) a.long))

-- an argument without a name is found
pub one_unnamed : (args : List Arg) (k : ℕ) (a : Arg) → k < length args → a ≡ get_or args k a → (not (is_some a.long) && not (is_some a.short)) ≡ true → list_any is_positional (map rule_of args) ≡ true
one_unnamed args k a below at is =
    sym (list_any-map is_positional rule_of args) ∙ list_any_at is_unnamed args k a below (ap is_unnamed (sym at) ∙ (sym (same_test a) ∙ is))

-- an argument with a name is passed
pub next_named : (args : List Arg) (k : ℕ) (a : Arg) → k < length args → a ≡ get_or args k a → (not (is_some a.long) && not (is_some a.short)) ≡ false → list_any is_unnamed (take k args) ≡ false
    → list_any is_unnamed (take (k + 1) args) ≡ false
next_named args k a below at is before =
    list_any_more is_unnamed args k a below ∙ (ap (λ (b : Bool). b || is_unnamed (get_or args k a)) before ∙ (ap is_unnamed (sym at) ∙ (sym (same_test a) ∙ is)))

pub none_unnamed : (args : List Arg) → list_any is_unnamed args ≡ false → list_any is_positional (map rule_of args) ≡ false
none_unnamed args is = sym (list_any-map is_positional rule_of args) ∙ is
