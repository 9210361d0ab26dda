-- The return codes of CONNACK (3.2.2.3) and SUBACK (3.9.3).
use Rattle.std.specs.Prelude.{ℕ, Option, Some, None, ◌==◌, if◌then◌else◌}
use Rattle.mq_topic.specs.declared.qos.Qos.TheVariants.{Q0, Q1, Q2}
use Rattle.mq_topic.specs.Qos.{qos_number}
use Rattle.mq_packet.specs.declared.connack.RefusalCode.{RefusalCode}
use Rattle.mq_packet.specs.declared.connack.RefusalCode.TheVariants.{UnacceptableProtocolVersion, IdentifierRejected, ServerUnavailable, BadUserNameOrPassword, NotAuthorized}
use Rattle.mq_packet.specs.declared.packet.SubAckCode.{SubAckCode}
use Rattle.mq_packet.specs.declared.packet.SubAckCode.TheVariants.{Granted, Failure}

abbrev pub refusal_number : RefusalCode → ℕ
refusal_number UnacceptableProtocolVersion = 1
refusal_number IdentifierRejected = 2
refusal_number ServerUnavailable = 3
refusal_number BadUserNameOrPassword = 4
refusal_number NotAuthorized = 5

abbrev pub refusal_from : ℕ → Option RefusalCode
refusal_from number =
    if number == 1 then Some UnacceptableProtocolVersion else
    (if number == 2 then Some IdentifierRejected else
    (if number == 3 then Some ServerUnavailable else
    (if number == 4 then Some BadUserNameOrPassword else
    (if number == 5 then Some NotAuthorized else None))))

abbrev pub code_number : SubAckCode → ℕ
code_number (Granted qos) = qos_number qos
code_number Failure = 128

abbrev pub code_from : ℕ → Option SubAckCode
code_from number =
    if number == 0 then Some (Granted Q0) else
    (if number == 1 then Some (Granted Q1) else
    (if number == 2 then Some (Granted Q2) else
    (if number == 128 then Some Failure else None)))
