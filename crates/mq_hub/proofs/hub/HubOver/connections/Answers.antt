use Rattle.std.proofs.Common.{◌∙◌, List, map, ap}
use Rattle.std.specs.List.{list_any}
use Rattle.mq_route.specs.declared.conn.Conn.{Conn}
use Rattle.mq_route.specs.Hub.{HubConnection, HubState}
use Rattle.mq_route.specs.Routed.{same_conn}
use Rattle.mq_tables.specs.Tables.{HubTables}
use Rattle.mq_tables.proofs.FirstPackets.{if_ok_by}
use Rattle.mq_hub.proofs.SavedConnections.{known_names, names_seen}
use Rattle.mq_hub.proofs.hub.HubOver.connections.Goals as goal

pub returns-clause-names : goal.returns-clause-names
returns-clause-names g c =
    let t : HubTables = c.self.inside.tables in
    if_ok_by c.names.result
    (λ names is. is ∙ (λ i. map (λ (x : HubConnection). x.conn) (c.self-inside.view_is i).tables.connections.connections) ∙ names_seen t.sessions.list t.connections.connections
    ∙ ap (λ (h : HubState). map (λ (x : HubConnection). x.conn) h.connections) c.self.view_is)
    c.names.ensures

pub returns-clause-known : goal.returns-clause-known
returns-clause-known g c =
    if_ok_by c.names.result (λ names is k. ap (λ (ks : List Conn). list_any (λ (name : Conn). same_conn name k) ks) is ∙ known_names k c.args.self.now.connections) (returns-clause-names g c)
