use Rattle.std.proofs.Common.{◌∙◌, Bool, ◌&&◌, ◌||◌, not, eqb, refl, sym, ap}
use Rattle.mq_flow.specs.Stored.{message_bytes}
use Rattle.mq_tables.specs.Rules.{fits_left}
use Rattle.mq_tables.proofs.Spaces.{skips_kept, skips_plain}
use Rattle.mq_tables.proofs.space.Space.skips.Goals as goal

pub returns-then-not-has_identifier : goal.returns-then-not-has_identifier
returns-then-not-has_identifier c =
    skips_plain c.args.rules c.args.self.now c.args.message.now c.fits_left.result c.publish_len.result (sym c.has_identifier.ensures ∙ c.if-not-has_identifier.true)
    c.publish_len.ensures c.fits_left.ensures

pub returns-then-not-drops_copies : goal.returns-then-not-drops_copies
returns-then-not-drops_copies c =
    let space = c.args.self.now in
    let short = eqb space.free 0 || not (fits_left space.stored (message_bytes c.args.message.now)) in
    ap (λ (b : Bool). b && short) (sym c.if-not-drops_copies.true)
    ∙ skips_kept c.args.rules space c.args.message.now c.drops_copies.result short (sym c.has_identifier.ensures ∙ c.if-not-has_identifier.false) c.drops_copies.ensures refl

pub returns : goal.returns
returns c =
    ap (λ (b : Bool). b && c.is_short.result) (sym c.if-not-drops_copies.false)
    ∙ skips_kept c.args.rules c.args.self.now c.args.message.now c.drops_copies.result c.is_short.result (sym c.has_identifier.ensures ∙ c.if-not-has_identifier.false) c.drops_copies.ensures
    c.is_short.ensures
