-- Room for one more item.
use Rattle.std.proofs.Common.{◌≡◌, ℕ, ◌+◌, ◌-◌, ◌==◌, ◌<◌, ◌≤◌, Bool, true, false, true≢false, cond, List, [], ◌∷◌, ◌++◌, length, Option, Some, None, refl, sym, ap, subst, ◌∙◌, arith}
use Rattle.std.specs.Prelude.{unwrap_or}
use Rattle.std.specs.Iterator.{YieldsFirst}
use Rattle.std.specs.Iterator.Runs.{YieldsInOrder}
use Rattle.std.proofs.iter.runs.Sources.{from_front, as_is}
use Rattle.mq_end.specs.SmallList.{room_of}

room_at : (none : Bool) (n more capacity : ℕ) → 0 < more → n + more ≤ capacity → 0 < (cond none 1 (capacity - n))
room_at true n more capacity some fits = omega arith
room_at false n more capacity some fits = omega arith

-- for the first
pub room_for_one : (alone : Bool) (n capacity : ℕ) → alone ≡ false → (n == 0) ≡ true → 0 < room_of alone n capacity
room_for_one false n capacity is none = subst (λ (b : Bool). 0 < cond b 1 (capacity - n)) (sym none) (omega arith)
room_for_one true n capacity is none = absurd (true≢false is)

-- for one behind others
pub room_behind : (alone : Bool) (n more capacity : ℕ) → alone ≡ false → 0 < more → n + more ≤ capacity → 0 < room_of alone n capacity
room_behind false n more capacity is some fits = room_at (n == 0) n more capacity some fits
room_behind true n more capacity is some fits = absurd (true≢false is)

-- No single item is stored if there is room.
pub is_alone : (alone : Bool) (n capacity : ℕ) → 0 < room_of alone n capacity → alone ≡ false
is_alone false n capacity h = refl
is_alone true n capacity h = absurd (omega arith)

-- If several items are stored, there is room behind them.
pub is_behind : (alone : Bool) (n capacity : ℕ) → 0 < room_of alone n capacity → (n == 0) ≡ false → n < capacity
is_behind false n capacity h some = omega (arith, subst (λ (b : Bool). 0 < cond b 1 (capacity - n)) some h)
is_behind true n capacity h some = absurd (omega arith)

-- one that stood alone is the first of several
pub moved : {T : Type 0} (before after : Option (List T)) (kept reserved more one list : List T) (item : T) → list ≡ unwrap_or before [] ++ kept → before ≡ Some one → one ≡ item ∷ [] → after ≡ None
    → length kept ≡ 0 → reserved ≡ kept → more ≡ reserved ++ item ∷ [] → unwrap_or after [] ++ more ≡ list
moved before after [] reserved more one list item is was alone none empty same now =
    ap (λ o. unwrap_or o [] ++ more) none ∙ now ∙ ap (λ xs. xs ++ item ∷ []) same ∙ sym (is ∙ ap (λ o. unwrap_or o [] ++ []) was ∙ ap (λ xs. xs ++ []) alone)
moved before after (x ∷ xs) reserved more one list item is was alone none empty same now = absurd (omega arith)

-- An iterator that is seen as the list of what is left gives that list.
module _ {T : Type 0} where
  pub rest_runs : YieldsInOrder (YieldsFirst {A = T} (λ rest. rest)) (λ rest. rest)
  rest_runs p s = as_is p p.from (from_front (YieldsFirst {A = T} (λ rest. rest)) (λ x. x) (λ rest. rest) (λ s t h. ap length h.0) (λ s x t h. h) p s)
