use Rattle.std.proofs.Common.{◌≡◌, true, ◌++◌, subst}
use Rattle.mq_end.specs.End.{is_live}
use Rattle.mq_end.specs.State.{EndState}
use Rattle.mq_end.specs.Receiving.{HearsAt, ServerReceives}
use Rattle.mq_end.specs.Laws.{KeepsWindow}
use Rattle.mq_end.proofs.server.ServerEnd.receive.Goals as goal

pub returns-clause-open : goal.returns-clause-open
returns-clause-open c =
    subst (λ (l : EndState). is_live l.end.state ≡ true → ServerReceives c.args.piece.now l c.receive.new.self c.receive.result.happenings c.receive.result.acknowledged c.receive.result.closed) c.self.view_is
    c.receive.ensures.open

pub returns-clause-heard : goal.returns-clause-heard
returns-clause-heard c =
    subst (λ (l : EndState). is_live l.end.state ≡ true → HearsAt c.args.now (l.held ++ c.args.piece.now) c.receive.result.closed l c.receive.new.self) c.self.view_is
    c.receive.ensures.heard

pub returns-clause-window : goal.returns-clause-window
returns-clause-window c = subst (λ (l : EndState). KeepsWindow l.end c.receive.new.self.end) c.self.view_is c.receive.ensures.window
