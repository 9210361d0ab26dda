use Rattle.std.proofs.Common.{◌≡◌, true, false, refl, sym, ◌∙◌}
use Rattle.std.specs.Str.{is_utf8}
use Rattle.std.proofs.lemmas.Str.{is_utf8-from_IsUtf8}
use Rattle.mq_wire.specs.Text.{has_nul}
use Rattle.mq_wire.proofs.Texts.{not_utf8, is_text, plain_utf8, plain_text}
use Rattle.mq_wire.specs.TextReading.{checked_text}
use Rattle.mq_wire.proofs.text.checked_text.Goals as goal

pub from_utf8_unchecked-text-requires : goal.from_utf8_unchecked-text-requires
from_utf8_unchecked-text-requires c = plain_utf8 c.args.bytes.now (sym c.has_special.ensures ∙ c.if-not-has_special.true)

pub invariant_of-result : goal.invariant_of-result
invariant_of-result c = rw c.from_utf8_unchecked-text.ensures (plain_text c.args.bytes.now (sym c.has_special.ensures ∙ c.if-not-has_special.true) c.requires)

pub returns-then-not-has_special : goal.returns-then-not-has_special
unfolding checked_text
returns-then-not-has_special c =
    let text = plain_text c.args.bytes.now (sym c.has_special.ensures ∙ c.if-not-has_special.true) c.requires in
    rw (text.utf8, text.no_nul, c.from_utf8_unchecked-text.ensures) refl

pub returns-in_default : goal.returns-in_default
unfolding checked_text
returns-in_default c = rw (not_utf8 c.args.bytes.now c.in_default.ensures.cases.0) refl

pub returns-then-contains : goal.returns-then-contains
unfolding checked_text
returns-then-contains c =
    let utf8 : is_utf8 c.args.bytes.now ≡ true = is_utf8-from_IsUtf8 c.args.bytes.now c.in-Ok.ensures.cases.1 in
    let nul : has_nul c.args.bytes.now ≡ true = sym c.contains.ensures.value ∙ c.if-contains.true in
    rw (utf8, nul) refl

pub invariant_of-result-2 : goal.invariant_of-result-2
invariant_of-result-2 c =
    rw c.in-Ok.ensures.cases.0 (is_text c.args.bytes.now c.in-Ok.ensures.cases.1 (sym c.contains.ensures.value ∙ c.if-contains.false) c.requires)

pub returns : goal.returns
unfolding checked_text
returns c =
    let utf8 : is_utf8 c.args.bytes.now ≡ true = is_utf8-from_IsUtf8 c.args.bytes.now c.in-Ok.ensures.cases.1 in
    let nul : has_nul c.args.bytes.now ≡ false = sym c.contains.ensures.value ∙ c.if-contains.false in
    rw (utf8, nul, c.in-Ok.ensures.cases.0) refl
