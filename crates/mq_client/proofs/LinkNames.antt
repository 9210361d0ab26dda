-- The name that a link gives.
use Rattle.std.proofs.Common.{◌≡◌, ◌-◌, ℕ, List, String, string_bytes, slice_range, take, ap, subst, sym, arith, Result, Ok, Err, IfOk}
use Rattle.mq_client.specs.Links.{IsNamedBy}

-- a result whose bytes are known has a property of these bytes
pub named_as : {Z E : Type 0} → (r : Result (String Z) E) (link target text : List ℕ) → IfOk r (λ s. string_bytes s ≡ text) → IsNamedBy link target text
    → IfOk r (λ s. IsNamedBy link target (string_bytes s))
named_as (Ok s) link target text is named = subst (IsNamedBy link target) (sym is) named
named_as (Err e) link target text is named = tt

-- the front of a name
pub range_front : (n : ℕ) (name : List ℕ) → slice_range name 0 n ≡ take n name
range_front n name = let same : n - 0 ≡ n = omega arith in ap (λ k. take k name) same
