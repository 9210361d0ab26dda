use Rattle.std.proofs.Common.{◌∙◌}
use Rattle.mq_decode.specs.Views.{packet_of}
use Rattle.mq_end.specs.Receiving.{gets_as}
use Rattle.mq_end.specs.Inside.Receiving.{heard_as}
use Rattle.mq_end.proofs.OnePacket.{arrived, shows_one}
use Rattle.mq_end.proofs.endpoint.Endpoint.on_view.Goals as goal

pub returns-clause-open : goal.returns-clause-open
returns-clause-open c = λ live.
    let took = c.take_lent_or_close-closed in
    let told = c.into_progress-2 in
    arrived c.args.role c.args.now (packet_of c.args.view.now) c.args.self.now took.new.self c.hear.new.self c.new-told.result took.new.told c.is_none.result took.result told.result.closed told.result.happenings told.result.acknowledged
    took.ensures.made c.is_none.ensures c.hear.ensures c.new-told.ensures.happenings c.new-told.ensures.acknowledged told.ensures.happenings told.ensures.acknowledged told.ensures.closed

pub returns-clause-within : goal.returns-clause-within
returns-clause-within c = λ up plain fits.
    let took = c.take_lent_or_close-closed in
    let none = c.new-told in
    let told = c.into_progress-2 in
    let does = took.ensures.within up plain fits none.ensures.happening_room none.ensures.acknowledged_room in
    shows_one (gets_as c.args.role (packet_of c.args.view.now) c.args.self.now.end) (heard_as c.args.role c.is_none.result c.args.now took.new.self.last_activity) c.args.self.now took.new.self c.hear.new.self none.result took.new.told told.result.happenings told.result.acknowledged told.result.closed
    does.1 c.hear.ensures none.ensures.happenings none.ensures.acknowledged told.ensures.happenings told.ensures.acknowledged (told.ensures.closed ∙ does.0)
