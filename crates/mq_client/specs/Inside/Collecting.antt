-- What `collect` does. Only proofs cite these definitions.
use Rattle.std.specs.Prelude.{◌≡◌, ⊤, ℕ, ◌≤◌, true, List, [], length, Option, Result, OnOk}
use Rattle.std.specs.List.{flat_map}
use Rattle.std.specs.Io.KnownBytes.{Appends}
use Rattle.mq_flow.specs.Receiver.{none_received}
use Rattle.mq_end.specs.declared.happening.Happening.{Happening}
use Rattle.mq_end.specs.declared.reason.CloseReason.{CloseReason}
use Rattle.mq_end.specs.End.{is_up}
use Rattle.mq_client.specs.declared.error.ClientError.{ClientError}
use Rattle.mq_client.specs.Course.{Moment, Went}
use Rattle.mq_client.specs.Halts.{Closes}
use Rattle.mq_client.specs.Printed.{told_line}
use Rattle.mq_client.specs.Collecting.{handed, IsJust}

-- The happenings are printed. If all went well, at least `count` messages were delivered, and each
-- read was needed for that; every message is released (4.3.3), and the end is connected.
pub record Gathers (earlier later : Moment) (old new : Option (List ℕ)) (count : ℕ) (result : Result ⊤ ClientError) : Type 0 where
  pub told : List Happening
  pub reasons : List CloseReason
  pub went : Went earlier later [] told reasons
  pub closes : Closes result reasons
  pub printed : Appends old new (flat_map told_line told)
  pub enough : OnOk result (count ≤ length (flat_map handed told))
  pub just : OnOk result (IsJust earlier told count)
  pub released : OnOk result (later.client.link.end.received ≡ none_received)
  pub up : OnOk result (is_up later.client.link.end.state ≡ true)
