-- The effect of `loopback`.
use Rattle.std.specs.Prelude.{◌≡◌, ◌⊎◌, ℕ, Option, None, IfSome, List, ◌++◌, length, map, vec_len}
use Rattle.std.specs.List.{AllZip}
use Rattle.mq_packet.specs.declared.message.Message.{Message}
use Rattle.mq_decode.specs.Limits.{strict}
use Rattle.mq_route.specs.declared.config.HubConfig.{HubConfig}
use Rattle.mq_route.specs.declared.config.WhenFull.TheVariants.{ClosePublisher}
use Rattle.mq_schedule.specs.Schedule.{lines_of}
use Rattle.mq_loopback.specs.declared.client.Client.{Client}
use Rattle.mq_loopback.specs.declared.verdict.Verdict.{Verdict}
use Rattle.mq_loopback.specs.declared.rig.RunError.{RunError}
use Rattle.mq_loopback.specs.declared.rig.RunResult.{RunResult}
use Rattle.mq_loopback.specs.Clients.{IsClientRun}
use Rattle.mq_loopback.specs.File.{AreClients, IsBadLine}
use Rattle.mq_loopback.specs.Judged.{IsVerdict}
use Rattle.mq_loopback.specs.Ordered.{IsOrdered}
use Rattle.mq_loopback.specs.Printed.{bad_line, collected_lines, play_end_line, play_end_status, unread_line, verdict_lines, verdict_status}

-- the broker that the programs run
abbrev pub program_broker : HubConfig
program_broker = record { limits = strict 1048576; capacity = 100; window = None; max_conns = 1000; max_sessions = 1000; users = None; hashed_users = None; when_full = ClosePublisher; connect_within = None; session_expiry = None; most_stored = None; most_waiting = None; most_matches = None }

-- The clients of a file did what their roles say, and there is a worker for each.
pub record IsPlayed (clients : List Client) (run : RunResult) : Type 0 where
  pub done : AllZip IsClientRun clients (map (λ v. v.items) run.collected.items)
  pub workers : vec_len run.receipts ≡ length clients

-- The messages of each client are sorted and printed, followed by the verdict on the journal and
-- the receipts.
pub record IsTold (clients : List Client) (run : RunResult) (status : ℕ) (text : List ℕ) : Type 0 where
  pub ordered : List (List Message)
  pub verdict : Verdict
  pub in_order : AllZip IsOrdered (map (λ v. v.items) run.collected.items) ordered
  pub judged : IsVerdict program_broker run.journal run.receipts.items verdict
  pub lines : text ≡ collected_lines clients ordered ++ verdict_lines verdict
  pub status_is : status ≡ verdict_status verdict

-- clients and broker ended before all was done
abbrev pub IsCutOff : ℕ → List ℕ → Type 0
IsCutOff status text = (end : RunError) × (status ≡ play_end_status end) × (text ≡ play_end_line end)

-- A run is printed, unless an allocation fails.
abbrev pub Ends : List Client → RunResult → ℕ → List ℕ → Type 0
Ends clients run status text = IsTold clients run status text ⊎ IsCutOff status text

-- The clients ran, and the result is printed.
abbrev pub IsRunDone : List Client → ℕ → List ℕ → Type 0
IsRunDone clients status text =
    ((run : RunResult) × IsPlayed clients run × Ends clients run status text)
    ⊎ IsCutOff status text

-- the clients of a text run
abbrev pub AreRun : List ℕ → ℕ → List ℕ → Type 0
AreRun file status text = (clients : List Client) × AreClients clients (lines_of file) × IsRunDone clients status text

-- with a line the text is none of clients any more
abbrev pub IsRefusedAt : List ℕ → ℕ → List ℕ → Type 0
IsRefusedAt file status text = (number : ℕ) × IsBadLine (lines_of file) number × (status ≡ 2) × (text ≡ bad_line number)

-- `loopback` with this text; memory may run out before it is read
abbrev pub IsLoopback : List ℕ → ℕ → List ℕ → Type 0
IsLoopback file status text = AreRun file status text ⊎ (IsRefusedAt file status text ⊎ IsCutOff status text)

-- there is not a text
abbrev pub IsUnread : ℕ → List ℕ → Type 0
IsUnread status text = (status ≡ 2) × (text ≡ unread_line)

-- no text was read
abbrev pub IsNoFile : ℕ → List ℕ → Type 0
IsNoFile status text = IsUnread status text ⊎ IsCutOff status text

-- `loopback` with the text of an input, whose bytes may be known
abbrev pub IsInputRun : Option (List ℕ) → ℕ → List ℕ → Type 0
IsInputRun input status text =
    ((file : List ℕ) × IfSome input (λ all. file ≡ all) × IsLoopback file status text)
    ⊎ IsNoFile status text
