-- Reading CONNECT (3.1).
use Rattle.std.specs.Prelude.{ℕ, ◌/◌, ◌%◌, Bool, true, false, ◌&&◌, List, [], ◌∷◌, Option, Some, None, Result, Ok, Err, ◌==◌, if◌then◌else◌}
use Rattle.mq_topic.specs.declared.qos.Qos.{Qos}
use Rattle.mq_topic.specs.Qos.{qos_from}
use Rattle.mq_packet.specs.declared.connect.Connect.{Connect}
use Rattle.mq_packet.specs.declared.connect.Will.{Will}
use Rattle.mq_packet.specs.declared.connect.Login.{Login}
use Rattle.mq_decode.specs.declared.fault.FaultKind.TheVariants.{ProtocolName, ProtocolLevel, ForbiddenFlags, PastEnd}
use Rattle.mq_decode.specs.declared.fault.BadField.{BadField}
use Rattle.mq_decode.specs.declared.flags.ConnectFlags.{ConnectFlags}
use Rattle.mq_decode.specs.declared.flags.WillFlags.{WillFlags}
use Rattle.mq_decode.specs.Gives.{◌>>=◌}
use Rattle.mq_decode.specs.Fields.{bad_at, number_at, text_at, name_at, binary_at, end_at}

-- the bits of the flags (3.1.2.3) that speak of the will: without bit 2 none of bits 3, 4 and 5 is
-- set, and the quality of service is not 3
abbrev pub will_with : Option Qos → Bool → Option (Option WillFlags)
will_with None retain = None
will_with (Some qos) retain = Some (Some (record { qos = qos; retain = retain }))

abbrev pub will_from : ℕ → Option (Option WillFlags)
will_from byte = if byte / 4 % 2 == 1 then will_with (qos_from (byte / 8 % 4)) (byte / 32 % 2 == 1) else (if byte / 8 % 8 == 0 then Some None else None)

-- the bits of the user name and the password: without bit 7 bit 6 is not set; `Some` contains
-- whether there is a password
abbrev pub login_from : ℕ → Option (Option Bool)
login_from byte = if byte / 128 == 1 then Some (Some (byte / 64 % 2 == 1)) else (if byte / 64 % 2 == 0 then Some None else None)

abbrev pub flags_with : Bool → Option (Option WillFlags) → Option (Option Bool) → Option ConnectFlags
flags_with clean None login = None
flags_with clean (Some will) None = None
flags_with clean (Some will) (Some login) = Some (record { clean_session = clean; will = will; password = login })

-- all of them; bit 0 is not set
abbrev pub flags_from : ℕ → Option ConnectFlags
flags_from byte = if byte % 2 == 0 then flags_with (byte / 2 % 2 == 1) (will_from byte) (login_from byte) else None

abbrev pub flags_or_fault : Option ConnectFlags → ℕ → List ℕ → Result (ConnectFlags × List ℕ) BadField
flags_or_fault None byte bytes = Err (bad_at ForbiddenFlags (byte ∷ bytes))
flags_or_fault (Some flags) byte bytes = Ok (flags, bytes)

unfoldable pub flags_at : List ℕ → Result (ConnectFlags × List ℕ) BadField
flags_at [] = Err (bad_at PastEnd [])
flags_at (byte ∷ bytes) = flags_or_fault (flags_from byte) byte bytes

-- the protocol name is `MQTT` (3.1.2.1)
abbrev pub is_protocol : List ℕ → Bool
is_protocol (first ∷ second ∷ third ∷ fourth ∷ []) = first == 77 && (second == 81 && (third == 84 && fourth == 84))
is_protocol name = false

unfoldable pub protocol_at : List ℕ → Result (List ℕ) BadField
protocol_at bytes = text_at bytes >>= λ name. if is_protocol name.0 then Ok name.1 else Err (bad_at ProtocolName bytes)

-- the protocol level is 4 (3.1.2.2)
abbrev pub level_at : List ℕ → Result (List ℕ) BadField
level_at [] = Err (bad_at PastEnd [])
level_at (byte ∷ bytes) = if byte == 4 then Ok bytes else Err (bad_at ProtocolLevel (byte ∷ bytes))

-- The will (3.1.3.2, 3.1.3.3), if the flags announce one.
unfoldable pub will_at : Option WillFlags → List ℕ → Result (Option Will × List ℕ) BadField
will_at None bytes = Ok (None, bytes)
will_at (Some flags) bytes = name_at bytes >>= λ topic. binary_at topic.1 >>= λ message.
    Ok (Some (record { topic = topic.0; message = message.0; qos = flags.qos; retain = flags.retain }), message.1)

-- The password (3.1.3.5), if there is one.
unfoldable pub password_at : Bool → List ℕ → Result (Option (List ℕ) × List ℕ) BadField
password_at false bytes = Ok (None, bytes)
password_at true bytes = binary_at bytes >>= λ password. Ok (Some password.0, password.1)

-- The user name (3.1.3.4) and the password, if there are any.
unfoldable pub login_at : Option Bool → List ℕ → Result (Option Login × List ℕ) BadField
login_at None bytes = Ok (None, bytes)
login_at (Some has_password) bytes = text_at bytes >>= λ name. password_at has_password name.1 >>= λ password. Ok (Some (record { name = name.0; password = password.0 }), password.1)

-- all of CONNECT
unfoldable pub connect_at : List ℕ → Result Connect BadField
connect_at bytes =
    protocol_at bytes >>= λ level. level_at level >>= λ behind. flags_at behind >>= λ flags. number_at flags.1 >>= λ keep_alive. text_at keep_alive.1 >>= λ client.
    will_at flags.0.will client.1 >>= λ will. login_at flags.0.password will.1 >>= λ login. end_at login.1 >>= λ end.
    Ok (record { client_id = client.0; clean_session = flags.0.clean_session; keep_alive = keep_alive.0; will = will.0; login = login.0 })
