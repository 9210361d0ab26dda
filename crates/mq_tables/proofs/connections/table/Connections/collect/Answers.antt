use Rattle.std.proofs.Common.{◌∙◌, ℕ, List, eqb, true≢false, sym, ap, subst}
use Rattle.std.specs.HashMap.{get, hash_map_len}
use Rattle.mq_tables.specs.Connections.{service, connections_of, connection_of, AreConnections}
use Rattle.mq_tables.proofs.TakenOutput.{emptied, still_lines}
use Rattle.mq_tables.proofs.ConnectionTable.{Entry}
use Rattle.mq_tables.proofs.FirstPackets.{err_by, if_ok_by, ok_by}
use Rattle.mq_tables.proofs.FoundConnection.{changed_seen, kept_waiting, lacks_seen, waiting_seen}
use Rattle.mq_tables.proofs.connections.table.Connections.collect.Goals as goal

pub returns-in_default-clause-bytes : goal.returns-in_default-clause-bytes
returns-in_default-clause-bytes c =
    absurd (true≢false (sym c.requires ∙ lacks_seen c.self.invariant c.self.view_is c.args.conn c.in_default.ensures.value))

pub returns-in_default-clause-taken : goal.returns-in_default-clause-taken
returns-in_default-clause-taken c =
    absurd (true≢false (sym c.requires ∙ lacks_seen c.self.invariant c.self.view_is c.args.conn c.in_default.ensures.value))

pub invariant_of-self-2 : goal.invariant_of-self-2
invariant_of-self-2 c =
    let by = service c.self.inside.limits c.self.inside.alarms in
    let ups = c.self.inside.ups in
    subst (λ (rs : List Entry). AreConnections by rs (get eqb ups) (hash_map_len ups)) (sym (c.get_mut.follows.holds c.collect.new.self).0)
    (kept_waiting c.self.invariant c.args.conn c.in-Some.ensures.value c.collect.ensures.own)

pub returns-clause-bytes : goal.returns-clause-bytes
returns-clause-bytes c =
    if_ok_by c.collect.result
    (λ b is. is ∙ waiting_seen c.self.invariant c.self.view_is c.args.conn c.in-Some.ensures.value)
    c.collect.ensures.bytes

pub returns-clause-taken : goal.returns-clause-taken
returns-clause-taken c =
    let own = c.in-Some.boxed.now in
    let w = c.collect.new.self in
    ok_by c.collect.result
    (λ none. ap connections_of (c.get_mut.follows.holds w).0
    ∙ changed_seen c.self.invariant c.self.view_is c.args.conn emptied w c.in-Some.ensures.value (ap connection_of (c.collect.ensures.own ∙ ap (λ (b : List ℕ). record own { waiting = b }) none)))
    c.collect.ensures.taken

pub returns-clause-err : goal.returns-clause-err
returns-clause-err c =
    let own = c.in-Some.boxed.now in
    let w = c.collect.new.self in
    err_by c.collect.result
    (λ same. ap connections_of (c.get_mut.follows.holds w).0
    ∙ changed_seen c.self.invariant c.self.view_is c.args.conn (λ x. x) w c.in-Some.ensures.value (ap connection_of (c.collect.ensures.own ∙ ap (λ (b : List ℕ). record own { waiting = b }) same))
    ∙ still_lines c.args.conn c.args.self.now.connections)
    c.collect.ensures.err
