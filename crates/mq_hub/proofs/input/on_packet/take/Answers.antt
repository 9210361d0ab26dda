use Rattle.std.proofs.Common.{refl, ap, subst, Result}
use Rattle.std.specs.declared.alloc.AllocError.{AllocError}
use Rattle.mq_end.specs.declared.packet_outcome.PacketOutcome.{PacketOutcome}
use Rattle.mq_tables.specs.declared.sessions.call.Call.TheVariants.{Takes}
use Rattle.mq_tables.specs.Calls.{ServesAt}
use Rattle.mq_tables.specs.Tables.{HubTables}
use Rattle.mq_hub.proofs.input.on_packet.take.Goals as goal

pub returns-clause-ok : goal.returns-clause-ok
returns-clause-ok g c =
    let key = c.args.key in
    record {
      ready = c.args.tables.now.sessions.list;
      same = refl;
      outcome = c.in_ok-serve.field-0;
      serves = subst (λ (r : Result PacketOutcome AllocError). ServesAt key (Takes c.args.now c.args.packet) r c.args.tables.now.sessions.list c.serve.new.self.list) c.in_ok-serve.was
          (subst (λ (v : HubTables). ServesAt key (Takes c.args.now c.args.packet) c.serve.result v.sessions.list c.serve.new.self.list) c.tables.view_is c.serve.ensures.serves);
      rows = ap (λ (v : HubTables). v.rows) c.tables.view_is;
      retained = ap (λ (v : HubTables). v.retained) c.tables.view_is;
      connections = ap (λ (v : HubTables). v.connections) c.tables.view_is;
    }
