-- Look-ups in a map by hash and by text.
use Rattle.std.proofs.Common.{◌≡◌, ◌==◌, ℕ, Bool, true, false, cond, List, [], ◌∷◌, length, Option, Some, None, IsSome}
use Rattle.std.proofs.Common.{Result, Ok, Err, OnOk, OnErr, Global, IsTrue, ◌↔◌, refl, sym, ap, subst, ◌∙◌, eqb-true, eq-eqb}
use Rattle.std.specs.Arc.{arc_str_bytes}
use Rattle.std.specs.Bool.{MatchBool}
use Rattle.std.specs.Cmp.Lexicographic.{slice_cmp}
use Rattle.std.specs.Map.{KeepsOthers, lookup}
use Rattle.std.specs.Option.{option_map_or, option_or}
use Rattle.std.specs.Ordering.{eq_by_cmp, is_eq, nat_cmp}
use Rattle.std.specs.String.{string_bytes, string_cmp}
use Rattle.std.specs.declared.string.String.{String}
use Rattle.std.proofs.lemmas.Map.Text.{is_eq-slice_cmp}
use Rattle.mq_topic.specs.LevelNumber.{AreNumbered, level_number}
use Rattle.mq_topic.specs.NodeView.{mapped_child, own_child}
use Rattle.mq_topic.specs.Inside.NodeView.{is_own}
use Rattle.mq_topic.specs.declared.level_map.Child.{Child}
use Rattle.mq_topic.specs.declared.level_map.LevelMap.{LevelMap}
use Rattle.mq_topic.specs.declared.trie_nodes.NodeId.{NodeId}
use Rattle.mq_topic.proofs.Inside.{empty, other_own}
use Rattle.mq_topic.proofs.Nodes.{bytes_differ}
use Rattle.mq_topic.proofs.Standard.{bytes_eq-itself, same_bytes}

-- ---- by texts

abbrev pub has_text : {Z : Type 0} → List ℕ → String Z → Bool
has_text l k = is_eq (slice_cmp nat_cmp l (string_bytes k))

text_is : (l m : List ℕ) → is_eq (slice_cmp nat_cmp l m) ≡ true → l ≡ m
text_is l m e = same_bytes l m (sym (is_eq-slice_cmp l m) ∙ e)

-- Look-ups at another level than the one that changes.
pub other_text : {Z X : Type 0} (level l : List ℕ) (old new : List (String Z × X)) → KeepsOthers (eq_by_cmp string_cmp) (has_text level) old new
    → (l ≡ level → ⊥) → lookup (has_text l) new ≡ lookup (has_text l) old
unfolding KeepsOthers
other_text level l old new keeps ne =
    keeps (has_text l)
    (λ x y e. ap (λ z. is_eq (slice_cmp nat_cmp z (string_bytes y))) (text_is l (string_bytes x) e))
    (λ k e. is_eq-slice_cmp l (string_bytes k) ∙ bytes_differ l (string_bytes k) (λ same. ne (same ∙ sym (text_is level (string_bytes k) e))))

-- ---- by numbers

abbrev pub at_number : ℕ → List (ℕ × Child) → Option Child
at_number n es = lookup (λ k. n == k) es

abbrev pub fits_number : ℕ → Option Child → Bool
fits_number n o = option_map_or (λ (c : Child). level_number (arc_str_bytes c.level) == n) o true

-- one number has another child, or none
abbrev pub ChangedAt : ℕ → Option Child → List (ℕ × Child) → List (ℕ × Child) → Type 0
ChangedAt n child old new = (m : ℕ) → at_number m new ≡ cond (n == m) child (at_number m old)

fits-by : (n m : ℕ) (b : Bool) (child there : Option Child) → (n == m) ≡ b → fits_number n child ≡ true → fits_number m there ≡ true
    → fits_number m (cond b child there) ≡ true
fits-by n m true child there e new old = subst (λ k. fits_number k child ≡ true) (eqb-true n m e) new
fits-by n m false child there e new old = old

pub still_numbered : (n : ℕ) (child : Option Child) (old new : List (ℕ × Child)) → AreNumbered old → fits_number n child ≡ true
    → ChangedAt n child old new → AreNumbered new
still_numbered n child old new are fits changed m =
    ap (fits_number m) (changed m) ∙ fits-by n m (n == m) child (at_number m old) refl fits (are m)

own-by : (n m : ℕ) (b : Bool) (level l : List ℕ) (child : Option Child) (es : List (ℕ × Child)) → (n == m) ≡ b
    → is_own level (at_number n es) ≡ true → own_child l child ≡ None → (l ≡ level → ⊥)
    → own_child l (cond b child (at_number m es)) ≡ own_child l (at_number m es)
own-by n m true level l child es e own none ne =
    none ∙ sym (other_own (at_number m es) level l (subst (λ k. is_own level (at_number k es) ≡ true) (eqb-true n m e) own) ne)
own-by n m false level l child es e own none ne = refl

-- after a child was put at its level's number, or memory ran out
pub put_numbered : {A E P : Type 0} (r : Result A E) (n : ℕ) (child : Child) (old new : List (ℕ × Child)) → AreNumbered old
    → level_number (arc_str_bytes child.level) ≡ n → OnOk r P → (P → ChangedAt n (Some child) old new) → OnErr r (new ≡ old) → AreNumbered new
put_numbered (Ok x) n child old new are number done changed unchanged =
    still_numbered n (Some child) old new are (eq-eqb _ _ number) (changed done)
put_numbered (Err x) n child old new are number done changed unchanged = subst AreNumbered (sym unchanged) are

-- Look-ups at another level than that of the changed child.
pub other_numbered : (n : ℕ) (level l : List ℕ) (child : Option Child) (old new : List (ℕ × Child)) → ChangedAt n child old new
    → is_own level (at_number n old) ≡ true → own_child l child ≡ None → (l ≡ level → ⊥)
    → own_child l (at_number (level_number l) new) ≡ own_child l (at_number (level_number l) old)
other_numbered n level l child old new changed own none ne =
    ap (own_child l) (changed (level_number l)) ∙ own-by n (level_number l) (n == level_number l) level l child old refl own none ne

-- a child is not found at another level
pub other_child : (c : Child) (l : List ℕ) → (l ≡ arc_str_bytes c.level → ⊥) → own_child l (Some c) ≡ None
other_child c l ne = other_own (Some c) (arc_str_bytes c.level) l (bytes_eq-itself (arc_str_bytes c.level)) ne

-- ---- no child

first_numbered : (es : List (ℕ × Child)) → AreNumbered es → (length es ≡ 0 → ⊥)
    → (l : List ℕ) × IsSome (own_child l (at_number (level_number l) es))
first_numbered [] are ne = absurd (ne refl)
first_numbered (e ∷ es) are ne =
    let l = arc_str_bytes e.1.level in
    let itself : (e.0 == e.0) ≡ true = eq-eqb e.0 e.0 refl in
    let fits : (level_number l == e.0) ≡ true = sym (ap (λ b. fits_number e.0 (cond b (Some e.1) (at_number e.0 es))) itself) ∙ are e.0 in
    (l, rw (fits, bytes_eq-itself l) refl)

first_collided : (es : List (String Global × NodeId)) → (length es ≡ 0 → ⊥) → (l : List ℕ) × IsSome (lookup (has_text l) es)
first_collided [] ne = absurd (ne refl)
first_collided (e ∷ es) ne =
    let l = string_bytes e.0 in
    (l, rw (is_eq-slice_cmp l l ∙ bytes_eq-itself l) refl)

some_or : (o p : Option NodeId) → IsSome o → IsSome (option_or o p)
some_or (Some x) p e = e
some_or None p e = absurd cc

or_some : (o p : Option NodeId) → IsSome p → IsSome (option_or o p)
or_some (Some x) p e = refl
or_some None p e = e

pub none_mapped : (m : LevelMap) (r : Bool) → length m.numbered.entries ≡ 0 → IsTrue r ↔ (length m.collided.entries ≡ 0)
    → MatchBool r ((l : List ℕ) → mapped_child l m ≡ None) ((l : List ℕ) × IsSome (mapped_child l m))
none_mapped m true none h = λ l i.
    option_or
    (own_child l (at_number (level_number l) (empty m.numbered.entries none i)))
    (lookup (has_text l) (empty m.collided.entries (h.0 refl) i))
none_mapped m false none h =
    let w = first_collided m.collided.entries (λ e. let no : false ≡ true = h.1 e in cc) in
    (w.0, or_some _ _ w.1)

pub some_mapped : (m : LevelMap) → (length m.numbered.entries ≡ 0 → ⊥) → (l : List ℕ) × IsSome (mapped_child l m)
some_mapped m ne =
    let w = first_numbered m.numbered.entries m.numbers ne in
    (w.0, some_or _ _ w.1)
