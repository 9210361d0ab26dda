-- Lists of items, one behind the other.
use Rattle.std.proofs.Common.{◌≡◌, ℕ, ◌+◌, ◌≤◌, ◌<◌, List, [], ◌∷◌, ◌++◌, length, take, drop, refl, sym, ap, subst, ◌∙◌, take-append-drop, arith}
use Rattle.std.specs.Prelude.{◌↔◌, false, IsTrue, Option, None, Some}
use Rattle.std.specs.List.{AllByRecursion, flat_map}
use Rattle.std.proofs.Math.Seq.{drop-append_seam}
use Rattle.mq_bytes.specs.declared.items.ItemKind.{ItemKind}
use Rattle.mq_bytes.specs.Inside.Items.{AreItems, IsItem}

-- What `item_size` says of an item at the front.
abbrev pub Complete : ItemKind → List ℕ → Option ℕ → Type 0
Complete kind b result = (x rest : List ℕ) → IsItem kind x → b ≡ x ++ rest → result ≡ Some (length x)

abbrev all_of : List (List ℕ) → List ℕ
all_of xs = flat_map (λ x. x) xs

some_is : (a b : ℕ) → Some a ≡ Some b → a ≡ b
some_is a b e = cc

none_is : (a : ℕ) → None ≡ Some a → ⊥
none_is a e = absurd cc

pub no_items : (kind : ItemKind) (b : List ℕ) → length b ≡ 0 → AreItems kind b
no_items kind [] e = ([], tt, refl)
no_items kind (x ∷ b) e = absurd (omega arith)

behind : (kind : ItemKind) (b : List ℕ) (n : ℕ) (xs : List (List ℕ)) → 0 < length b → Complete kind b (Some n) → AllByRecursion (IsItem kind) xs → all_of xs ≡ b → AreItems kind (drop n b)
behind kind b n [] some complete all e = let empty = ap length e in absurd (omega arith)
behind kind b n (x ∷ xs) some complete all e =
    let size = some_is n (length x) (complete x (all_of xs) all.0 (sym e)) in
    (xs, all.1, sym (drop-append_seam x (all_of xs)) ∙ (ap (λ (z : List ℕ). drop (length x) z) e ∙ ap (λ (k : ℕ). drop k b) (sym size)))

-- All items, if the first one is at the front.
pub record Goes (kind : ItemKind) (all rest : List ℕ) : Type 0 where
  pub behind : AreItems kind all → AreItems kind rest
  pub with : AreItems kind rest → AreItems kind all

pub items_go : (kind : ItemKind) (all b rest : List ℕ) (n : ℕ) → rest ≡ drop n b → 0 < length b → Complete kind b (Some n) → IsItem kind (take n b) → (AreItems kind all → AreItems kind b) → (AreItems kind b → AreItems kind all) → Goes kind all rest
items_go kind all b rest n is some complete item before after = record {
  behind = λ h. let k = before h in subst (AreItems kind) (sym is) (behind kind b n k.0 some complete k.1 k.2);
  with = λ h. let k = subst (AreItems kind) is h in after (take n b ∷ k.0, (item, k.1), ap (λ (z : List ℕ). take n b ++ z) k.2 ∙ take-append-drop n b);
}

stops : (kind : ItemKind) (b : List ℕ) (xs : List (List ℕ)) → 0 < length b → Complete kind b None → AllByRecursion (IsItem kind) xs → all_of xs ≡ b → ⊥
stops kind b [] some complete all e = let empty = ap length e in absurd (omega arith)
stops kind b (x ∷ xs) some complete all e = none_is (length x) (complete x (all_of xs) all.0 (sym e))

-- No item is at the front.
pub items_stop : (kind : ItemKind) (all b : List ℕ) → 0 < length b → Complete kind b None → (AreItems kind all → AreItems kind b) → IsTrue false ↔ AreItems kind all
items_stop kind all b some complete before = (λ h. absurd cc, λ h. let k = before h in absurd (stops kind b k.0 some complete k.1 k.2))
