-- Quality of service as a number (4.3).
use Rattle.std.specs.Prelude.{ℕ, Option, Some, None, ◌==◌, if◌then◌else◌}
use Rattle.mq_topic.specs.declared.qos.Qos.{Qos}
use Rattle.mq_topic.specs.declared.qos.Qos.TheVariants.{Q0, Q1, Q2}

abbrev pub qos_number : Qos → ℕ
qos_number Q0 = 0
qos_number Q1 = 1
qos_number Q2 = 2

abbrev pub qos_from : ℕ → Option Qos
qos_from number = if number == 0 then Some Q0 else (if number == 1 then Some Q1 else (if number == 2 then Some Q2 else None))

-- The greater of two.
abbrev pub greater : Qos → Qos → Qos
greater Q0 qos = qos
greater Q1 Q0 = Q1
greater Q1 Q1 = Q1
greater Q1 Q2 = Q2
greater Q2 qos = Q2
