-- The part of kept output that was sent.
use Rattle.std.proofs.Common.{◌≡◌, ℕ, List, [], ◌++◌, take, drop, Option, Some, None, append_assoc, append-nil, refl, sym, ap, ◌∙◌}
use Rattle.std.proofs.lemmas.List.{take-append-drop}
use Rattle.std.specs.Io.KnownBytes.{append_known}
use Rattle.mq_loop.specs.Sockets.{Sends}

none_more : (o : Option (List ℕ)) → o ≡ append_known o []
none_more None = refl
none_more (Some bytes) = ap Some (sym (append-nil bytes))

known_twice : (o : Option (List ℕ)) (a b : List ℕ) → append_known (append_known o a) b ≡ append_known o (a ++ b)
known_twice None a b = refl
known_twice (Some bytes) a b = ap Some (append_assoc bytes a b)

pub sends_none : (went : Option (List ℕ)) (kept : List ℕ) → Sends went kept went kept
sends_none went kept = ([], refl, none_more went)

pub sends_more : (went now later : Option (List ℕ)) (kept rest : List ℕ) (n : ℕ) → Sends went kept now rest → later ≡ append_known now (take n rest)
    → Sends went kept later (drop n rest)
sends_more went now later kept rest n s e = (
  s.0 ++ take n rest,
  s.1 ∙ (ap (λ (b : List ℕ). s.0 ++ b) (sym (take-append-drop n rest)) ∙ sym (append_assoc s.0 (take n rest) (drop n rest))),
  e ∙ (ap (λ (o : Option (List ℕ)). append_known o (take n rest)) s.2 ∙ known_twice went s.0 (take n rest)),
)
