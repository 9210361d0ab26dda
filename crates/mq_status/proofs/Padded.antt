-- Numbers with six decimal digits.
use Rattle.std.proofs.Common.{◌≡◌, ℕ, ◌-◌, ◌^◌, false, List, [], ◌++◌, length, ap, ◌∙◌, append-nil, arith}
use Rattle.std.specs.Prelude.{replicate, decimal}
use Rattle.mq_status.specs.Prometheus.{six_digits}
use Rattle.std.specs.Fmt.{format_spec, padded_integral, char_count}

-- what `{:06}` writes of a number
pub zeros_before : (n : ℕ) → padded_integral (format_spec 32 0 4 6 (2 ^ 64 - 1)) false [] (decimal n)
    ≡ six_digits n
unfolding padded_integral char_count
zeros_before n =
    let less : 6 - length (decimal n) - 0 - 0 ≡ 6 - length (decimal n) = omega arith in
    ap (λ (k : ℕ). replicate k 48 ++ (decimal n ++ [])) less
    ∙ ap (λ (t : List ℕ). replicate (6 - length (decimal n)) 48 ++ t) (append-nil (decimal n))
