-- Lines of the log.
use Rattle.std.specs.Prelude.{◌≡◌, ℕ, Bool, true, ◌&&◌, nat_le, List, ◌++◌, codes, decimal}
use Rattle.std.specs.List.{list_all}
use Rattle.mq_packet.specs.Codes.{refusal_number}
use Rattle.mq_packet.specs.declared.connack.RefusalCode.{RefusalCode}
use Rattle.mq_packet.specs.declared.connack.RefusalCode.TheVariants as refusals
use Rattle.mq_end.specs.declared.reason.CloseReason.TheVariants as ends
use Rattle.mq_route.specs.Codes.{hub_close_code}
use Rattle.mq_route.specs.declared.close.HubClose.{HubClose}
use Rattle.mq_route.specs.declared.close.HubClose.TheVariants as closes
use Rattle.mq_packet.specs.Lines.{escaped}
use Rattle.mq_status.specs.declared.log.LogLine.{LogLine}
use Rattle.mq_status.specs.declared.log.LogLine.TheVariants as lines

abbrev pub close_words : HubClose → List ℕ
close_words (closes.Own (ends.Fault fault)) = codes "malformed packet"
close_words (closes.Own ends.Unexpected) = codes "unexpected packet"
close_words (closes.Own (ends.Refused code)) = codes "CONNECT refused"
close_words (closes.Own ends.SessionLost) = codes "session lost"
close_words (closes.Own ends.KeepAlive) = codes "keep-alive expired"
close_words (closes.Own ends.Memory) = codes "out of memory"
close_words (closes.Own ends.Left) = codes "client disconnected"
close_words (closes.Own ends.Window) = codes "receive window exceeded"
close_words closes.TargetFull = codes "a subscriber's session is full"
close_words closes.TakenOver = codes "client connected again"
close_words closes.PeerEnded = codes "connection ended by peer"
close_words closes.NoConnect = codes "no CONNECT in time"
close_words closes.TooManyMatches = codes "too many retained messages"

-- (3.2.2.3)
abbrev pub refusal_words : RefusalCode → List ℕ
refusal_words refusals.UnacceptableProtocolVersion = codes "unacceptable protocol version"
refusal_words refusals.IdentifierRejected = codes "identifier rejected"
refusal_words refusals.ServerUnavailable = codes "server unavailable"
refusal_words refusals.BadUserNameOrPassword = codes "bad user name or password"
refusal_words refusals.NotAuthorized = codes "not authorized"

-- a code and its words
abbrev pub close_text : HubClose → List ℕ
close_text reason =
    codes " code=" ++ (hub_close_code reason ++ (codes " reason=\"" ++ (close_words reason ++ codes "\"")))

abbrev pub refusal_text : RefusalCode → List ℕ
refusal_text code =
    codes " code=" ++ (decimal (refusal_number code) ++ (codes " reason=\"" ++ (refusal_words code ++ codes "\"")))

-- a line without its end
abbrev pub line_text : LogLine → List ℕ
line_text (lines.Connected client address) =
    codes "connected client=" ++ (escaped client.now ++ (codes " address=" ++ escaped address.now))
line_text (lines.ClosedEarly address reason) =
    codes "closed address=" ++ (escaped address.now ++ close_text reason)
line_text (lines.Closed client reason) =
    codes "closed client=" ++ (escaped client.now ++ close_text reason)
line_text (lines.SessionEnded client) = codes "session-ended client=" ++ escaped client.now
line_text (lines.Missed client messages) =
    codes "missed client=" ++ (escaped client.now ++ (codes " messages=" ++ decimal messages))
line_text (lines.Refused address code) =
    codes "refused address=" ++ (escaped address.now ++ refusal_text code)
line_text (lines.Slow client pending) =
    codes "slow client=" ++ (escaped client.now ++ (codes " pending=" ++ decimal pending))

-- a space or a printing character of ASCII
abbrev pub is_visible : ℕ → Bool
is_visible byte = nat_le 32 byte && nat_le byte 126

-- No line has a control character, so that each is one line of a terminal or a file.
pub record LogLaws : Type 0 where
  pub visible : (line : LogLine) → list_all is_visible (line_text line) ≡ true
