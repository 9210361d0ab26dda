use Rattle.std.proofs.Common.{◌≡◌, true, ap, subst}
use Rattle.mq_end.specs.End.{is_live}
use Rattle.mq_end.specs.State.{EndState}
use Rattle.mq_end.specs.Publishing.{ClientState}
use Rattle.mq_end.specs.Receiving.{ClientReceives}
use Rattle.mq_end.specs.Laws.{KeepsWindow}
use Rattle.mq_end.proofs.Hearing.{kept_moment}
use Rattle.mq_end.proofs.client.ClientEnd.receive.Goals as goal

pub returns-clause-open : goal.returns-clause-open
returns-clause-open c =
    subst (λ (l : EndState). is_live l.end.state ≡ true → ClientReceives c.args.piece.now l c.receive.new.self c.receive.result.happenings c.receive.result.acknowledged c.receive.result.closed) (ap (λ (s : ClientState). s.link) c.self.view_is)
    c.receive.ensures.open

pub returns-clause-last_activity : goal.returns-clause-last_activity
returns-clause-last_activity c =
    subst (λ (l : EndState). c.receive.new.self.last_activity ≡ l.last_activity) (ap (λ (s : ClientState). s.link) c.self.view_is) (kept_moment _ c.receive.new.self c.receive.ensures.heard c.receive.ensures.closed)

pub returns-clause-window : goal.returns-clause-window
returns-clause-window c = subst (λ (l : EndState). KeepsWindow l.end c.receive.new.self.end) (ap (λ (s : ClientState). s.link) c.self.view_is) c.receive.ensures.window
