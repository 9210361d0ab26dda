-- Crashes at the present time.
use Rattle.std.specs.Prelude.{ℕ, ◌≤◌, List, [], ◌∷◌, length}
use Rattle.std.proofs.Common.{inl, inr}
use Rattle.std.proofs.Math.Nat.{le-suc, le_trans, not-suc-le_self}
use Rattle.mq_file.specs.History.{FileCall, LeftSince, MayLeave}

pub left_now : (calls : List FileCall) (time : ℕ) (content : List ℕ) → time ≤ length calls → MayLeave calls content → LeftSince calls time content
left_now [] time content within now = (within, now)
left_now (call ∷ before) time content within now = inl (within, now)

earlier : (calls : List FileCall) (time : ℕ) (content : List ℕ) → LeftSince calls time content → time ≤ length calls
earlier [] time content left = left.0
earlier (call ∷ before) time content (inl now) = now.0
earlier (call ∷ before) time content (inr left) = le_trans (earlier before time content left) (le-suc (length before))

pub now_only : (calls : List FileCall) (content : List ℕ) → LeftSince calls (length calls) content → MayLeave calls content
now_only [] content left = left.1
now_only (call ∷ before) content (inl now) = now.1
now_only (call ∷ before) content (inr left) =
    absurd (not-suc-le_self (length before) (earlier before (length (call ∷ before)) content left))
