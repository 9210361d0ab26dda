use Rattle.std.proofs.Common.{◌∙◌, List, IfErr, refl, subst}
use Rattle.mq_packet.specs.declared.packet.Packet.{Packet}
use Rattle.mq_decode.specs.declared.fault.DecodeError.TheVariants as errors
use Rattle.mq_decode.specs.Grammar.{Stops}
use Rattle.mq_decode.proofs.Alone.{alone_stops}
use Rattle.mq_decode.proofs.take.append_held.Goals as goal

pub returns-then-is_err-clause-err : goal.returns-then-is_err-clause-err
returns-then-is_err-clause-err c =
    alone_stops c.args.limits c.args.held.now.bytes c.args.out.now.items c.reserve.new.self.items errors.Memory c.requires.whole (refl, c.reserve.ensures.items)

pub returns-clause-err : goal.returns-clause-err
returns-clause-err c =
    subst (λ (ps : List Packet). IfErr c.append_any.result (Stops c.args.limits c.args.held.now.bytes ps c.append_any.new.out.items))
    (c.push_short.ensures.no c.if-push_short.false ∙ c.reserve.ensures.items) c.append_any.ensures.err
