-- Look-ups in a node: its children and its clients.
use Rattle.std.proofs.Common.{◌≡◌, ℕ, Bool, true, false, cond, List, [], ◌∷◌, length, Option, Some, None, IsSome, is_some, IsTrue, ◌↔◌}
use Rattle.std.proofs.Common.{refl, sym, ap, ◌∙◌, arith}
use Rattle.std.specs.Arc.{arc_str_bytes}
use Rattle.std.specs.Bool.{MatchBool}
use Rattle.std.specs.Map.{lookup}
use Rattle.std.specs.Option.{option_or}
use Rattle.mq_topic.specs.NodeView.{child_beside, mapped_child, own_child}
use Rattle.mq_topic.specs.Inside.NodeView.{ChildIn, is_own}
use Rattle.mq_topic.specs.declared.children.Children.{Children}
use Rattle.mq_topic.specs.declared.level_map.Child.{Child}
use Rattle.mq_topic.specs.declared.level_map.LevelMap.{LevelMap}
use Rattle.mq_topic.specs.declared.qos.Qos.{Qos}
use Rattle.mq_topic.proofs.Nodes.{bytes_differ, is_client, is_client-itself}
use Rattle.mq_topic.proofs.Standard.{same_bytes}

-- ---- The node's own child

-- If it is the child at one level, or there is none, the node itself stores no child at another
-- level.
pub other_own : (first : Option Child) (level l : List ℕ) → is_own level first ≡ true → (l ≡ level → ⊥) → own_child l first ≡ None
other_own None level l own ne = refl
other_own (Some c) level l own ne =
    ap (λ b. cond b (Some c.id) None) (bytes_differ l (arc_str_bytes c.level) (λ e. ne (e ∙ sym (same_bytes level (arc_str_bytes c.level) own))))

-- ---- children change

-- the child at a level is taken from the node and from the map
pub taken : (old mid new : Children) (level : List ℕ) → own_child level mid.first ≡ None
    → ((l : List ℕ) → (l ≡ level → ⊥) → own_child l mid.first ≡ own_child l old.first) → mid.others ≡ old.others → new.first ≡ mid.first
    → child_beside level new ≡ None → ((l : List ℕ) → (l ≡ level → ⊥) → child_beside l new ≡ child_beside l mid) → ChildIn level None old new
taken old mid new level own_same own_others beside first same others = record {
  same = (λ i. option_or (own_child level (first i)) (same i)) ∙ ap (λ o. option_or o None) own_same;
  others = λ l ne.
      (λ i. option_or (own_child l (first i)) (others l ne i))
      ∙ (λ i. option_or (own_others l ne i) (child_beside l (record mid { others = beside i })));
}

-- ---- nothing in it

pub empty : {A : Type 0} (xs : List A) → length xs ≡ 0 → xs ≡ []
empty [] e = refl
empty (x ∷ xs) e = absurd (omega arith)

first_client : (es : List (ℕ × Qos)) → (length es ≡ 0 → ⊥) → (c : ℕ) × IsSome (lookup (is_client c) es)
first_client [] ne = absurd (ne refl)
first_client (e ∷ es) ne = (e.0, rw (is_client-itself e.0) refl)

pub no_children : (first : Option Child) (m : LevelMap) (r : Bool) → is_some first ≡ false
    → MatchBool r ((l : List ℕ) → mapped_child l m ≡ None) ((l : List ℕ) × IsSome (mapped_child l m))
    → MatchBool r ((l : List ℕ) → option_or (own_child l first) (mapped_child l m) ≡ None)
    ((l : List ℕ) × IsSome (option_or (own_child l first) (mapped_child l m)))
no_children None m r n h = h
no_children (Some c) m r n h = absurd cc

pub no_clients : (es : List (ℕ × Qos)) (r : Bool) → IsTrue r ↔ (length es ≡ 0)
    → MatchBool r ((c : ℕ) → lookup (is_client c) es ≡ None) ((c : ℕ) × IsSome (lookup (is_client c) es))
no_clients es true h = λ c. ap (lookup (is_client c)) (empty es (h.0 refl))
no_clients es false h = first_client es (λ e. let no : false ≡ true = h.1 e in cc)
