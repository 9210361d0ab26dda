-- The codes by which refusals and closes are printed.
use Rattle.std.specs.Prelude.{ℕ, List, codes}
use Rattle.mq_end.specs.declared.reason.CloseReason.{CloseReason}
use Rattle.mq_end.specs.declared.reason.CloseReason.TheVariants as closes
use Rattle.mq_end.specs.declared.refusal.PublishRefusal.{PublishRefusal}
use Rattle.mq_end.specs.declared.refusal.PublishRefusal.TheVariants as refusals

abbrev pub refusal_code : PublishRefusal → List ℕ
refusal_code refusals.NotConnected = codes "P1"
refusal_code refusals.NoSession = codes "P2"
refusal_code refusals.TooLarge = codes "P3"
refusal_code refusals.Full = codes "P4"
refusal_code refusals.Memory = codes "P5"

abbrev pub close_code : CloseReason → List ℕ
close_code (closes.Fault fault) = codes "C1"
close_code closes.Unexpected = codes "C2"
close_code (closes.Refused refusal) = codes "C3"
close_code closes.SessionLost = codes "C4"
close_code closes.KeepAlive = codes "C5"
close_code closes.Memory = codes "C6"
close_code closes.Left = codes "C7"
close_code closes.Window = codes "C11"
