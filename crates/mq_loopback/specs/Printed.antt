-- The output of `loopback`, line by line.
use Rattle.std.specs.Prelude.{ℕ, Bool, ◌&&◌, List, [], ◌∷◌, ◌++◌, codes, decimal, if◌then◌else◌}
use Rattle.std.specs.List.{flat_map}
use Rattle.mq_packet.specs.declared.message.Message.{Message}
use Rattle.mq_packet.specs.Lines.{escaped}
use Rattle.mq_schedule.specs.Schedule.{bytes_word}
use Rattle.mq_client.specs.Halts.{halt_status}
use Rattle.mq_client.specs.Printed.{halt_line}
use Rattle.mq_serve.specs.Ends.{end_status}
use Rattle.mq_serve.specs.Printed.{end_line}
use Rattle.mq_loopback.specs.declared.client.Client.{Client}
use Rattle.mq_loopback.specs.declared.client.Role.{Role}
use Rattle.mq_loopback.specs.declared.client.Role.TheVariants as roles
use Rattle.mq_loopback.specs.declared.verdict.Verdict.{Verdict}
use Rattle.mq_loopback.specs.declared.rig.RunError.{RunError}
use Rattle.mq_loopback.specs.declared.rig.RunError.TheVariants as ends

-- a message that a client collected: the client's name, the topic, the payload
abbrev pub message_line : List ℕ → Message → List ℕ
message_line name message = escaped name ++ (codes " " ++ (escaped message.topic ++ (codes " " ++ (bytes_word message.payload ++ codes "\n"))))

-- the messages that a client of this name and role collected
abbrev pub role_lines : List ℕ → Role → List Message → List ℕ
role_lines name (roles.Collector collector) messages = flat_map (message_line name) messages
role_lines name (roles.Publisher publisher) messages = []

-- The messages that each client collected, in the order of the clients.
abbrev pub collected_lines : List Client → List (List Message) → List ℕ
collected_lines [] lists = []
collected_lines (client ∷ clients) [] = []
collected_lines (client ∷ clients) (messages ∷ lists) = role_lines client.name client.role messages ++ collected_lines clients lists

abbrev pub replay_line : Bool → List ℕ
replay_line equal = if equal then codes "replay equal\n" else codes "replay differs\n"

abbrev pub audit_line : Bool → List ℕ
audit_line audited = if audited then codes "audit yes\n" else codes "audit no\n"

abbrev pub verdict_lines : Verdict → List ℕ
verdict_lines verdict = replay_line verdict.is_equal ++ audit_line verdict.is_audited

-- 0 if both verdicts are positive.
abbrev pub verdict_status : Verdict → ℕ
verdict_status verdict = if verdict.is_equal && verdict.is_audited then 0 else 1

-- why clients and broker ended before all was done, and the status then
abbrev pub play_end_line : RunError → List ℕ
play_end_line (ends.Broker end) = end_line end
play_end_line (ends.Client halt) = halt_line halt

abbrev pub play_end_status : RunError → ℕ
play_end_status (ends.Broker end) = end_status end
play_end_status (ends.Client halt) = halt_status halt

-- the first line with which a text is not a loopback file
abbrev pub bad_line : ℕ → List ℕ
bad_line number = codes "line " ++ (decimal number ++ codes ": not a client\n")

abbrev pub unread_line : List ℕ
unread_line = codes "file not read\n"
