-- The lines that the client programs print, each with its line end.
use Rattle.std.specs.Prelude.{ℕ, List, [], ◌∷◌, ◌++◌, codes, decimal}
use Rattle.mq_packet.specs.Lines.{escaped, hex_of}
use Rattle.mq_topic.specs.Qos.{qos_number}
use Rattle.mq_packet.specs.declared.message.Message.{Message}
use Rattle.mq_end.specs.declared.happening.Happening.{Happening}
use Rattle.mq_end.specs.declared.happening.Happening.TheVariants as happens
use Rattle.mq_end.specs.Codes.{close_code, refusal_code}
use Rattle.mq_flow.specs.Codes.{load_code}
use Rattle.mq_client.specs.declared.client.LoadFailure.{LoadFailure}
use Rattle.mq_client.specs.declared.client.LoadFailure.TheVariants as unloaded
use Rattle.mq_client.specs.declared.error.ClientError.{ClientError}
use Rattle.mq_client.specs.declared.error.ClientError.TheVariants.{Closed, Lost, Refused, NotSubscribed, SaveError, Memory}

-- why a program stops before it is done
abbrev pub halt_line : ClientError → List ℕ
halt_line (Closed reason) = codes "closed " ++ (close_code reason ++ codes "\n")
halt_line Lost = codes "connection failed\n"
halt_line (Refused why) = codes "refused " ++ (refusal_code why ++ codes "\n")
halt_line NotSubscribed = codes "not subscribed\n"
halt_line (SaveError kind) = codes "session not written\n"
halt_line Memory = codes "out of memory\n"

-- why a file has no session to load
abbrev pub unloaded_line : LoadFailure → List ℕ
unloaded_line (unloaded.Unread kind) = codes "file not read\n"
unloaded_line (unloaded.Session why) = codes "session " ++ (load_code why ++ codes "\n")
unloaded_line unloaded.Memory = codes "out of memory\n"

-- ---- publish

-- the number of messages that were published
abbrev pub published_line : ℕ → List ℕ
published_line count = codes "published " ++ (decimal count ++ codes "\n")

-- the number of messages of a session that are sent again
abbrev pub resumed_line : ℕ → List ℕ
resumed_line count = codes "resumed " ++ (decimal count ++ codes "\n")

-- ---- collect

-- a payload in hexadecimal, or `-` for an empty one
abbrev pub payload_word : List ℕ → List ℕ
payload_word [] = codes "-"
payload_word (byte ∷ rest) = hex_of (byte ∷ rest)

-- a message: topic, quality of service, payload
abbrev pub message_line : Message → List ℕ
message_line message =
    escaped message.topic ++ (codes " " ++ (decimal (qos_number message.qos) ++ (codes " " ++ (payload_word message.payload ++ codes "\n"))))

-- only messages that are delivered to the application are printed
abbrev pub told_line : Happening → List ℕ
told_line (happens.Up present) = []
told_line (happens.Handed message) = message_line message
told_line (happens.Subscribe id requests) = []
told_line (happens.Unsubscribe id filters) = []
told_line (happens.SubAck id given) = []
told_line (happens.UnsubAck id) = []
told_line happens.Pong = []

abbrev pub subscribed_line : List ℕ
subscribed_line = codes "subscribed\n"
