-- The result of a PUBLISH whose message stays with the caller.
use Rattle.std.proofs.Common.{◌≡◌, Option, Result, Ok, Err, IfOk, OnErr, sym, subst}
use Rattle.mq_topic.specs.declared.qos.Qos.{Qos}
use Rattle.mq_packet.specs.declared.message.Message.{Message}
use Rattle.mq_packet.specs.declared.publish.Delivery.{Delivery}
use Rattle.mq_end.specs.declared.publish_outcome.PublishOutcome.{PublishOutcome}
use Rattle.mq_end.specs.declared.packet_outcome.PacketOutcome.{PacketOutcome}
use Rattle.mq_end.specs.Both.{publish_gets}
use Rattle.mq_end.specs.State.{EndState}
use Rattle.mq_end.specs.Receiving.{Gives, outcome_of, told_of}

-- of a PUBLISH whose quality of service and delivery are known
pub by_delivery : {E : Type 0} (qos q : Qos) (delivery d : Option Delivery) (r : Result PublishOutcome E) (old new : EndState) → qos ≡ q → delivery ≡ d
    → IfOk r (λ handing. (m : Message) → Gives (publish_gets q d m old.end) (outcome_of handing m) old new)
    → IfOk r (λ handing. (m : Message) → Gives (publish_gets qos delivery m old.end) (outcome_of handing m) old new)
by_delivery qos q delivery d r old new is_qos is_delivery gives =
    subst (λ (k : Qos). IfOk r (λ handing. (m : Message) → Gives (publish_gets k delivery m old.end) (outcome_of handing m) old new)) (sym is_qos)
    (subst (λ (e : Option Delivery). IfOk r (λ handing. (m : Message) → Gives (publish_gets q e m old.end) (outcome_of handing m) old new)) (sym is_delivery) gives)

-- If an allocation may fail.
pub ok_told : {E : Type 0} (m : Message) (P : PacketOutcome → Type 0) (r : Result PublishOutcome E) → IfOk r (λ handing. P (outcome_of handing m)) → IfOk (told_of m r) P
ok_told m P (Ok handing) x = x
ok_told m P (Err e) x = x

pub err_told : {E : Type 0} (m : Message) (X : Type 0) (r : Result PublishOutcome E) → OnErr r X → OnErr (told_of m r) X
err_told m X (Ok handing) x = x
err_told m X (Err e) x = x
