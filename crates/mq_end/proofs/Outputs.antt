-- Pending bytes move to the front of their vector.
use Rattle.std.proofs.Common.{◌≡◌, ℕ, ◌+◌, ◌-◌, List, ◌++◌, length, take, drop, sym, ap, ◌∙◌}
use Rattle.std.specs.List.{copy_within}
use Rattle.std.proofs.lemmas.List.Edits.{paste_all}
use Rattle.std.proofs.lemmas.List.{length-drop}
use Rattle.std.proofs.Math.Seq.{take-append_seam}

-- `left` bytes are left, and they are at the front.
pub moved_up : (bytes : List ℕ) (gone size left : ℕ) → size ≡ length bytes → left ≡ size - gone → take left (copy_within bytes gone size 0) ≡ drop gone bytes
moved_up bytes gone size left whole is = ap (λ (xs : List ℕ). take left xs) at_front ∙ ap (λ (n : ℕ). take n (drop gone bytes ++ behind)) (is ∙ same) ∙ take-append_seam (drop gone bytes) behind
  where
    behind : List ℕ
    behind = drop (0 + (size - gone)) bytes

    same : size - gone ≡ length (drop gone bytes)
    same = ap (λ (n : ℕ). n - gone) whole ∙ sym (length-drop gone bytes)

    at_front : copy_within bytes gone size 0 ≡ drop gone bytes ++ behind
    at_front = paste_all bytes 0 (drop gone bytes) (size - gone) same
