use Rattle.std.proofs.Common.{◌∙◌, ap}
use Rattle.mq_end.specs.State.{EndState}
use Rattle.mq_route.specs.Hub.{HubState}
use Rattle.mq_tables.specs.Connecting.{connected_end, roomed}
use Rattle.mq_hub.proofs.SubscribePackets.{if_ok}
use Rattle.mq_hub.proofs.hub.HubOver.new_boxed_session.Goals as goal

pub returns : goal.returns
returns g c =
    let rose = c.in_ok-connect_with_room.ensures.ok in
    let e : EndState = roomed rose.0 c.blank-end.result in
    let end = rose.1 ∙ ap (λ (h : HubState). connected_end c.args.connect h.clock e) c.self.view_is in
    if_ok c.new.result (λ boxed is. record {
      end = e;
      fresh = c.blank-end.ensures.end;
      capacity = c.blank-end.ensures.capacity;
      limit = c.blank-end.ensures.limit;
      after = is ∙ (λ i. record { client = c.args.client; key = c.next_key-key.ensures i; end = end i; left_at = (c.self.view_is i).clock });
    }) c.new.ensures
