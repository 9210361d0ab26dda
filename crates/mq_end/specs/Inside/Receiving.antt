-- The reaction of an open end to received bytes, cut anywhere (4.2, 4.6, 4.8). Only proofs cite
-- these definitions.
use Rattle.std.specs.Prelude.{◌≡◌, ◌⊎◌, ℕ, Bool, false, not, ◌&&◌, if◌then◌else◌, ◌≤◌, List, [], ◌++◌, length, take, Option}
use Rattle.mq_packet.specs.declared.packet.Packet.{Packet}
use Rattle.mq_decode.specs.declared.fault.DecodeFault.{DecodeFault}
use Rattle.mq_decode.specs.Grammar.{ReadsWithin}
use Rattle.mq_end.specs.declared.happening.Happening.{Happening}
use Rattle.mq_end.specs.declared.reason.CloseReason.{CloseReason}
use Rattle.mq_end.specs.declared.role.Role.{Role}
use Rattle.mq_end.specs.declared.role.Role.TheVariants.{Client, Server}
use Rattle.mq_end.specs.declared.progress_builder.ProgressBuilder.{ProgressBuilder}
use Rattle.mq_end.specs.declared.reason.CloseReason.TheVariants as reasons
use Rattle.mq_end.specs.End.{End, Reply, closes, is_up}
use Rattle.mq_end.specs.State.{EndState, is_level}
use Rattle.mq_end.specs.Receiving.{ClientReceives, ServerReceives, Makes, gets_as, faulted_as}

-- The time of last activity of an end of this role, after a complete packet or none (3.1.2.10).
abbrev pub heard_as : Role → Bool → ℕ → ℕ → ℕ
heard_as Client came now last = last
heard_as Server came now last = if came then now else last

-- Whether a malformed packet is answered: a first CONNECT of another protocol level is (3.1.2.2).
abbrev pub is_answered : Role → DecodeFault → End → Bool
is_answered Client fault end = false
is_answered Server fault end = not (is_up end.state) && is_level fault.kind

-- The reaction to a malformed packet if an allocation for the response may fail.
abbrev pub IsBreak : Role → DecodeFault → End → Reply → Type 0
IsBreak role fault end reply = (reply ≡ faulted_as role fault end) ⊎ (reply ≡ closes reasons.Memory end)

-- The reaction to the next complete packet of the held bytes and a piece: the number of bytes used
-- of the piece, and the reply; or an allocation failed and the end closed. Nothing is held behind
-- it.
pub record TakesNext (role : Role) (piece : List ℕ) (size : ℕ) (closed : Option CloseReason) (old new : EndState) (told now : ProgressBuilder) : Type 0 where
  pub within : size ≤ length piece
  pub packet : Packet
  pub reads : ReadsWithin old.limit packet (old.held ++ take size piece)
  pub reply : Reply
  pub does : (reply ≡ gets_as role packet old.end) ⊎ (reply ≡ closes reasons.Memory old.end)
  pub close : closed ≡ reply.close
  pub makes : Makes reply (record old { held = [] }) new told now

-- an end of this role receives bytes
abbrev pub ReceivesAs : Role → List ℕ → EndState → EndState → List Happening → List ℕ → Option CloseReason → Type 0
ReceivesAs Client piece old new happenings acknowledged closed = ClientReceives piece old new happenings acknowledged closed
ReceivesAs Server piece old new happenings acknowledged closed = ServerReceives piece old new happenings acknowledged closed
