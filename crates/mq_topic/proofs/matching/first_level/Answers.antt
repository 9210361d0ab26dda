use Rattle.std.proofs.Common.{◌≡◌, ◌+◌, ◌∷◌, ◌∙◌, ℕ, List, Some, None, length, take, drop, ap, subst, arith}
use Rattle.std.proofs.lemmas.Grind.{common_steps}
use Rattle.std.specs.List.{position_or_len}
use Rattle.std.proofs.lemmas.Bool.{eqb-true, false_from_ne_true}
use Rattle.std.proofs.lemmas.List.Splits.{slice_split_first}
use Rattle.std.proofs.lemmas.List.Sums.{position_or_len_is}
use Rattle.std.proofs.lemmas.Str.{IsCharBoundary-after_ascii}
use Rattle.memchr.specs.Find.{IsFirstByte, is_byte}
use Rattle.mq_topic.specs.Topic.{is_slash, levels}
use Rattle.mq_topic.proofs.Levels.{one_part}
use Rattle.mq_topic.proofs.matching.first_level.Goals as goal

-- The index of the first slash.
first_slash : (text : List ℕ) (end : ℕ) → IsFirstByte (is_byte 47) text (Some end) → position_or_len is_slash text ≡ end
first_slash text end found = position_or_len_is is_slash text end 0 (omega (arith, found.0.high)) (λ k l. false_from_ne_true _ (found.0.before k (omega arith) l)) (λ _. found.1)

no_slash : (text : List ℕ) → IsFirstByte (is_byte 47) text None → position_or_len is_slash text ≡ length text
no_slash text found = position_or_len_is is_slash text (length text) 0 (omega arith) (λ k l. false_from_ne_true _ (found k (omega arith) l)) (λ l. absurd (omega (arith, l)))

pub range_from-requires : goal.range_from-requires
range_from-requires c =
    let text = c.args.text.now in
    let found = subst (λ t. IsFirstByte (is_byte 47) t (Some c.in-Some.end)) c.as_bytes.ensures.value (rw c.in-Some.is at c.memchr.ensures) in
    λ _. IsCharBoundary-after_ascii text c.in-Some.end c.utf8.text found.0.high (omega (arith, eqb-true _ 47 found.1))

pub returns-in-Some-clause-levels : goal.returns-in-Some-clause-levels
returns-in-Some-clause-levels c =
    let text = c.args.text.now in
    let end = c.in-Some.end in
    let found = subst (λ t. IsFirstByte (is_byte 47) t (Some c.in-Some.end)) c.as_bytes.ensures.value (rw c.in-Some.is at c.memchr.ensures) in
    let at = first_slash text end found in
    let front : take (position_or_len is_slash text) text ≡ c.range.result.now = let cut = c.range.ensures.value in grind (arith, common_steps) in
    let back : drop (position_or_len is_slash text + 1) text ≡ c.range_from.result.now = let cut = c.range_from.ensures.value in grind (arith, common_steps) in
    slice_split_first is_slash text 0 (omega (arith, at, found.0.high)) ∙ (λ i. front i ∷ ap levels back i)

pub returns-in-None-clause-levels : goal.returns-in-None-clause-levels
returns-in-None-clause-levels c =
    let text = c.args.text.now in
    one_part is_slash text (no_slash text (subst (λ t. IsFirstByte (is_byte 47) t None) c.as_bytes.ensures.value (rw c.in-None.is at c.memchr.ensures)))
