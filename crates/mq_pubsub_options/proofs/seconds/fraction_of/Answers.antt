use Rattle.std.proofs.Common.{◌<◌, ◌≤◌, ◌≡◌, ◌-◌, ◌*◌, length, ◌/◌, get_or, arith, ap, subst, ◌∙◌, take, drop}
use Rattle.std.proofs.lemmas.Grind.{common_steps}
use Rattle.std.specs.List.{All}
use Rattle.std.proofs.lemmas.List.{drop_all, take_all}
use Rattle.std.proofs.lemmas.List.Elements.{All-more}
use Rattle.mq_pubsub_options.specs.Seconds.{IsDigit, fraction}
use Rattle.mq_pubsub_options.proofs.Durations.{few_units, one_digit}
use Rattle.mq_pubsub_options.proofs.seconds.fraction_of.Goals as goal

pub loop-byte-preserved : goal.loop-byte-preserved
loop-byte-preserved c =
    let digits = c.as_bytes-byte-items.result.now in
    let i = c.loop-byte.byte-index in
    let within : i < length digits = omega (arith, c.loop-byte-test.true, c.loop-byte.auto.byte-index-end) in
    let digit : IsDigit (get_or digits i 0) = grind (arith, common_steps) in
    let same : c.from.result ≡ get_or digits i 0 - 48 = grind (arith, common_steps) in
    let unit = c.loop-byte.unit in
    let step = one_digit unit i digits within in
    let product : c.from.result * (unit / 10) ≡ (get_or digits i 0 - 48) * (unit / 10) = ap (λ n. n * (unit / 10)) same in
    let few : (get_or digits i 0 - 48) * (unit / 10) ≤ 9 * (unit / 10) = few_units (get_or digits i 0) (unit / 10) digit.1 in
    record {
      value = omega (arith, c.loop-byte.invariant.value, step, product);
      bound = omega (arith, c.loop-byte.invariant.bound, few, product);
      all_digits = All-more IsDigit digits i 0 within c.loop-byte.invariant.all_digits digit;
    }

pub returns-clause-value : goal.returns-clause-value
returns-clause-value c =
    let digits = c.as_bytes-byte-items.result.now in
    let ended : c.loop-byte.byte-index ≡ length digits = omega (arith, c.loop-byte-test.false, c.loop-byte.auto.byte-index-end) in
    let whole : take c.loop-byte.byte-index digits ≡ digits = take_all c.loop-byte.byte-index digits (omega (arith, ended)) in
    let none : fraction c.loop-byte.unit (drop c.loop-byte.byte-index digits) ≡ 0 = ap (fraction c.loop-byte.unit) (drop_all c.loop-byte.byte-index digits (omega (arith, ended))) in
    let counted : c.loop-byte.total ≡ fraction 1000 digits = omega (arith, c.loop-byte.invariant.value, none) in
    record {
      some = grind (arith, common_steps);
      all_digits = subst (All IsDigit) (whole ∙ c.as_bytes-byte-items.ensures.value) c.loop-byte.invariant.all_digits;
      value = counted ∙ ap (fraction 1000) c.as_bytes-byte-items.ensures.value;
    }
