use Rattle.std.proofs.Common.{◌≡◌, ℕ, ◌*◌, List, length, not, true≢false, ap, sym, ◌∙◌}
use Rattle.mq_packet.specs.declared.packet.Packet.TheVariants as packets
use Rattle.mq_packet.specs.declared.packet.Request.{Request}
use Rattle.mq_route.specs.declared.close.HubClose.TheVariants.{TooManyMatches}
use Rattle.mq_route.specs.Hub.{is_open}
use Rattle.mq_route.specs.Work.{leaves}
use Rattle.mq_hub.proofs.KeptState.{goes_shut}
use Rattle.mq_hub.proofs.LastActivity.{on_ok}
use Rattle.mq_hub.proofs.RequestPackets.{broad_goes, narrow_goes}
use Rattle.mq_hub.proofs.hub.HubOver.take_subscribe.Goals as goal

pub returns-then-is_too_broad-clause-goes : goal.returns-then-is_too_broad-clause-goes
returns-then-is_too_broad-clause-goes g c =
    let h = c.args.self.now in
    let same : length c.args.requests ≡ length c.as_slice.result.now = ap (λ (l : List Request). length l) (sym c.as_slice.ensures.value) in
    let broad = ap (λ (n : ℕ). not (leaves h.config.most_matches 0 (n * length h.retained))) same ∙ sym c.is_too_broad.ensures ∙ c.if-is_too_broad.true in (
      c.close.ensures.goes.0,
      broad_goes c.args.conn c.args.key (packets.Subscribe c.args.id c.args.requests) c.close.ensures.goes.0 h c.close.new.self c.args.log.now.acts c.close.new.log.acts broad c.close.ensures.goes.1,
    )

pub returns-then-is_too_broad-clause-room : goal.returns-then-is_too_broad-clause-room
returns-then-is_too_broad-clause-room g c = λ stays.
    absurd (true≢false (sym stays ∙ ap is_open (goes_shut c.args.conn TooManyMatches c.close.ensures.goes.0 c.args.self.now c.close.new.self
    c.args.log.now.acts c.close.new.log.acts c.close.ensures.goes.1)))

pub returns-clause-goes : goal.returns-clause-goes
returns-clause-goes g c =
    let h = c.args.self.now in
    let same : length c.args.requests ≡ length c.as_slice.result.now = ap (λ (l : List Request). length l) (sym c.as_slice.ensures.value) in
    let few = ap (λ (n : ℕ). not (leaves h.config.most_matches 0 (n * length h.retained))) same ∙ sym c.is_too_broad.ensures ∙ c.if-is_too_broad.false in
    on_ok c.take_narrow.result
    (λ goes. (goes.0, narrow_goes c.args.conn c.args.key (packets.Subscribe c.args.id c.args.requests) goes.0 h c.take_narrow.new.self c.args.log.now.acts c.take_narrow.new.log.acts few goes.1))
    c.take_narrow.ensures.goes
