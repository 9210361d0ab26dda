use Rattle.std.proofs.Common.{◌≡◌, ℕ, List, ◌++◌, All, length, take, ap, subst, ◌∙◌, arith}
use Rattle.std.specs.List.{flat_map}
use Rattle.std.proofs.Math.Seq.{take-length}
use Rattle.mq_route.specs.Snapshot.{eight, HasIdentifiers}
use Rattle.mq_tables.specs.declared.sessions.session.BrokerSession.{BrokerSession}
use Rattle.mq_tables.specs.Sessions.{session_of}
use Rattle.mq_tables.proofs.SavedSessions.{all_saved, saved_by}
use Rattle.mq_tables.proofs.sessions.snapshot.save_all.Goals as goal

pub returns-clause-bytes : goal.returns-clause-bytes
returns-clause-bytes c =
    let list : List BrokerSession = c.args.list.now in
    let front : List ℕ = c.args.out.now.items ++ eight (length list) in
    let at_end : c.loop-boxed.boxed-index ≡ length list = omega (arith, c.loop-boxed-test.false, c.loop-boxed.auto.boxed-index-end) in
    c.loop-boxed.invariant.written
    ∙ ap (λ (n : ℕ). front ++ flat_map saved_by (take n list)) at_end
    ∙ ap (λ (ts : List BrokerSession). front ++ flat_map saved_by ts) (take-length list)
    ∙ all_saved c.args.out.now.items list

pub returns-clause-received : goal.returns-clause-received
returns-clause-received c =
    let list : List BrokerSession = c.args.list.now in
    let at_end : c.loop-boxed.boxed-index ≡ length list = omega (arith, c.loop-boxed-test.false, c.loop-boxed.auto.boxed-index-end) in
    let whole : take c.loop-boxed.boxed-index list ≡ list = ap (λ (n : ℕ). take n list) at_end ∙ take-length list in
    subst (All (λ (t : BrokerSession). HasIdentifiers (session_of t))) whole c.loop-boxed.invariant.received
