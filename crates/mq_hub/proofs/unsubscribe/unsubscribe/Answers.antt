use Rattle.std.proofs.Common.{◌∙◌, ℕ, [], List, Result, refl, sym, ap, subst, arith}
use Rattle.std.specs.declared.alloc.AllocError.{AllocError}
use Rattle.mq_end.specs.declared.packet_outcome.PacketOutcome.{PacketOutcome}
use Rattle.mq_tables.specs.declared.sessions.call.Call.TheVariants.{Drops}
use Rattle.mq_tables.specs.Calls.{CanServe, ServesAt}
use Rattle.mq_tables.specs.Publishing.{AreSameButRoom}
use Rattle.mq_tables.specs.Tables.{HubTables}
use Rattle.mq_tables.proofs.EndCalls.{can_alike, served_ok}
use Rattle.mq_hub.specs.Inside.Subscriptions.{without_rows}
use Rattle.mq_hub.proofs.unsubscribe.unsubscribe.Goals as goal

pub serve-requires : goal.serve-requires
serve-requires g c =
    can_alike c.args.key (Drops c.args.id) c.tables.inside.sessions.list c.make_bytes.new.sessions.list c.make_bytes.ensures.same
    (subst (λ (v : HubTables). CanServe c.args.key (Drops c.args.id) v.sessions.list) (sym c.tables.view_is) c.requires)

pub returns-clause-ok : goal.returns-clause-ok
returns-clause-ok g c =
    let key = c.args.key in
    let ready = c.make_bytes.new.sessions.list in
    let long = c.size_laws.ensures.unsuback c.args.id in
    let ok = served_ok key (Drops c.args.id) c.serve.result [] 7 ready c.serve.new.self.list c.serve.ensures.serves c.in_ok-make_bytes.ensures.ok refl (λ e. omega (arith, long)) in
    record {
      ready = ready;
      same = subst (λ (v : HubTables). AreSameButRoom v.sessions.list ready) c.tables.view_is c.make_bytes.ensures.same;
      outcome = ok.0;
      serves = subst (λ (r : Result PacketOutcome AllocError). ServesAt key (Drops c.args.id) r ready c.serve.new.self.list) ok.1 c.serve.ensures.serves;
      rows = c.remove_rows.ensures.rows ∙ ap (λ (fs : List (List ℕ)). without_rows key fs (g.S.FilterStore.rows c.tables.inside.store)) c.into_vec-filters.ensures
          ∙ ap (λ (v : HubTables). without_rows key c.args.filters v.rows) c.tables.view_is;
      retained = ap (λ (v : HubTables). v.retained) c.tables.view_is;
      connections = ap (λ (v : HubTables). v.connections) c.tables.view_is;
    }
