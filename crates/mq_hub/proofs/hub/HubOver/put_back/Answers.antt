use Rattle.std.proofs.Common.{◌∙◌, ℕ, List, [], sym, ap, subst}
use Rattle.mq_route.specs.Hub.{HubState}
use Rattle.mq_tables.proofs.PendingBytes.{none_pending}
use Rattle.mq_hub.specs.Inside.Input.{RefinesBytes, with_held}
use Rattle.mq_hub.proofs.InputBytes.{lets_go_by, open_known, waits_by}
use Rattle.mq_hub.proofs.hub.HubOver.put_back.Goals as goal

pub swap_decoder-requires-clause-known : goal.swap_decoder-requires-clause-known
swap_decoder-requires-clause-known g c =
    open_known c.args.conn c.args.self.now.connections (sym c.is_open_near.ensures ∙ c.if-is_open_near.true)

pub returns-then-is_open_near : goal.returns-then-is_open_near
returns-then-is_open_near g c = λ most said.
    let old = c.args.self.now in
    let k = c.args.conn in
    let limits = old.config.limits in
    subst (λ (h : HubState). RefinesBytes limits k most [] old said h said)
    (sym (c.swap_decoder.ensures.hub ∙ ap (λ (b : List ℕ). with_held k b old) c.requires.held))
    (waits_by limits k most [] old said (sym c.is_open_near.ensures ∙ c.if-is_open_near.true) (none_pending limits))

pub returns-else-is_open_near : goal.returns-else-is_open_near
returns-else-is_open_near g c = λ most said.
    let old = c.args.self.now in
    lets_go_by old.config.limits c.args.conn most [] old said (sym c.is_open_near.ensures ∙ c.if-is_open_near.false)
