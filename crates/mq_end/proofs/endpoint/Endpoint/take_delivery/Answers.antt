use Rattle.std.proofs.Common.{Option, Some, subst}
use Rattle.mq_topic.specs.declared.qos.Qos.{Qos}
use Rattle.mq_topic.specs.declared.qos.Qos.TheVariants.{Q1, Q2}
use Rattle.mq_packet.specs.declared.publish.Delivery.{Delivery}
use Rattle.mq_end.specs.Both.{publish_gets}
use Rattle.mq_end.specs.Ready.{CanSend}
use Rattle.mq_end.proofs.Handings.{by_delivery}
use Rattle.mq_end.proofs.endpoint.Endpoint.take_delivery.Goals as goal

pub returns-in-Q1-Some-clause-ok : goal.returns-in-Q1-Some-clause-ok
returns-in-Q1-Some-clause-ok c =
    by_delivery c.args.qos Q1 c.args.delivery (Some c.in-Q1-Some.delivery) c.take_at_least_once.result c.args.self.now c.take_at_least_once.new.self
    c.in-Q1-Some.is-0 c.in-Q1-Some.is-1 c.take_at_least_once.ensures.ok

pub returns-in-Q1-Some-clause-within : goal.returns-in-Q1-Some-clause-within
returns-in-Q1-Some-clause-within c = λ plain m fits.
    c.take_at_least_once.ensures.within m
    (subst (λ (d : Option Delivery). CanSend (publish_gets Q1 d m c.args.self.now.end).out c.args.self.now) c.in-Q1-Some.is-1
    (subst (λ (q : Qos). CanSend (publish_gets q c.args.delivery m c.args.self.now.end).out c.args.self.now) c.in-Q1-Some.is-0 fits))

pub returns-in-Q2-Some-clause-ok : goal.returns-in-Q2-Some-clause-ok
returns-in-Q2-Some-clause-ok c =
    by_delivery c.args.qos Q2 c.args.delivery (Some c.in-Q2-Some.delivery) c.take_within_window.result c.args.self.now c.take_within_window.new.self
    c.in-Q2-Some.is-0 c.in-Q2-Some.is-1 c.take_within_window.ensures.ok
