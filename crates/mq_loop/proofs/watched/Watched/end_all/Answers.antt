use Rattle.std.proofs.Common.{◌∙◌, ap, sym}
use Rattle.std.proofs.lemmas.Bool.{or_parts}
use Rattle.mq_loop.specs.Accounts.{ServedState}
use Rattle.mq_loop.specs.Rounds.{connections_in}
use Rattle.mq_loop.proofs.Calling.{quiet_then}
use Rattle.mq_loop.proofs.Watching.{ended_more}
use Rattle.mq_loop.proofs.watched.Watched.end_all.Goals as goal

pub loop-is_ended-preserved : goal.loop-is_ended-preserved
loop-is_ended-preserved g c =
    let i = c.loop-is_ended.invariant in
    let e = c.in-Some.ensures in
    let had = c.loop-is_ended.has_ended in
    let is = c.in-Some.is_ended in
    let lines = λ (s : ServedState). connections_in s.lines in
    record {
      calls = quiet_then c.args.self.now.served.calls c.loop-is_ended.self.served.calls c.end_next.new.self.served.calls i.calls e.calls;
      base = e.base ∙ i.base;
      some = λ h. ended_more had is (connections_in c.args.self.now.served.lines) (connections_in c.loop-is_ended.self.served.lines) (connections_in c.end_next.new.self.served.lines)
          i.some (λ x. ap lines (i.none x)) e.some (λ x. ap lines (e.same x).1) (sym c.either-has_ended.ensures ∙ h);
      none = λ h. let p = or_parts had is (sym c.either-has_ended.ensures ∙ h) in (e.same p.1).1 ∙ i.none p.0;
      marked = λ h. let p = or_parts had is (sym c.either-has_ended.ensures ∙ h) in (e.same p.1).0 ∙ i.marked p.0;
    }
