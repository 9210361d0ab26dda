-- The exit status of each command, and its output.
use Rattle.std.specs.Prelude.{◌≡◌, ◌⊎◌, ℕ, Bool, true, false, List, [], ◌∷◌, ◌++◌, map, Option, Some, None, IfSome, IsUtf8, codes, decimal}
use Rattle.std.specs.List.{flat_map}
use Rattle.std.specs.Int.NonZero.{non_zero_u16_get}
use Rattle.mq_topic.specs.Fault.{filter_fault, name_fault}
use Rattle.mq_topic.specs.Matching.{is_match}
use Rattle.mq_topic.specs.declared.fault.TopicFault.{TopicFault}
use Rattle.mq_packet.specs.declared.packet.Packet.{Packet}
use Rattle.mq_decode.specs.Limits.{Bounds, strict}
use Rattle.mq_cli.specs.declared.jobs.Job.{Job}
use Rattle.mq_cli.specs.declared.jobs.Job.TheVariants as jobs
use Rattle.mq_cli.specs.declared.stream.StreamEnd.{StreamEnd}
use Rattle.mq_cli.specs.declared.stream.StreamEnd.TheVariants.{Whole, Held, Fault}
use Rattle.mq_cli.specs.declared.stream.Shown.{Shown}
use Rattle.mq_cli.specs.declared.count.PacketCount.{PacketCount}
use Rattle.mq_cli.specs.declared.count.CountEnd.{CountEnd}
use Rattle.mq_cli.specs.declared.count.CountEnd.TheVariants as ends
use Rattle.mq_cli.specs.Count.{Counts}
use Rattle.mq_cli.specs.Hexadecimal.{IsHexadecimal}
use Rattle.mq_cli.specs.Printed.{bad_hex, bad_line, count_lines, file_not_read, match_line, no_memory, packet_line, shown_lines, topic_line}
use Rattle.mq_cli.specs.Show.{AreFirst, Reads, Shows}
use Rattle.mq_cli.specs.Stops.{IsUnread}
use Rattle.mq_world.specs.MadeUp.{made_up}
use Rattle.mq_schedule.specs.declared.schedule.Schedule.{Schedule}
use Rattle.mq_schedule.specs.declared.schedule.Step.TheVariants.{Event, Settle}
use Rattle.mq_schedule.specs.Schedule.{IsBadLine, IsSchedule, lines_of}
use Rattle.mq_schedule.specs.Writing.{line_with, schedule_text, step_line}
use Rattle.mq_replay.specs.Replay.{IsCutReplay, IsReplay}

-- 0 if all bytes are packets.
abbrev pub end_status : StreamEnd → ℕ
end_status Whole = 0
end_status (Held count) = 1
end_status (Fault fault start) = 1

-- 0 if all bytes of a file are packets.
abbrev pub count_status : CountEnd → ℕ
count_status ends.Whole = 0
count_status ends.Cut = 1
count_status (ends.Fault fault start) = 1

-- the limit of the standard (2.2.3); a length may have more bytes than it needs, or not
abbrev pub widest : Bool → Bounds
widest lenient = record { most = 268435455; lenient = lenient }

-- The status and output of `show`: those of the result within the standard's limit, 2 for invalid
-- hexadecimal digits, or 3 for a failed allocation.
abbrev pub IsShowDone : Bool → List ℕ → ℕ → List ℕ → Type 0
IsShowDone lenient digits status text =
    ((shown : Shown) × Shows (widest lenient) digits shown × (status ≡ end_status shown.end) × (text ≡ shown_lines shown.packets.items shown.end)) ⊎ ((status ≡ 2) × (text ≡ bad_hex) × (¬ IsHexadecimal digits)) ⊎ ((status ≡ 3) × (text ≡ no_memory))

-- The status and line if reading can't continue: 2 if a read may fail or there are too many bytes,
-- or 3 for a failed allocation.
abbrev pub IsCutShort : Option (List ℕ) → Bool → ℕ → List ℕ → Type 0
IsCutShort left fails status line = ((status ≡ 2) × (line ≡ file_not_read) × IsUnread left fails) ⊎ ((status ≡ 3) × (line ≡ no_memory))

-- The status and output of `show` for a file: those of its packets and its end, if its bytes are
-- known; or the lines of its first packets, followed by the line that reading can't continue.
abbrev pub IsStreamShown : Bool → Option (List ℕ) → Bool → ℕ → List ℕ → Type 0
IsStreamShown lenient left fails status text =
    ((packets : List Packet) × (end : StreamEnd) × IfSome left (λ bytes. Reads (widest lenient) bytes packets end) × (status ≡ end_status end) × (text ≡ shown_lines packets end)) ⊎
    ((packets : List Packet) × (line : List ℕ) × IfSome left (λ bytes. AreFirst (widest lenient) bytes packets) × IsCutShort left fails status line × (text ≡ flat_map packet_line packets ++ line))

-- The status and output of `check`: those of the file's bytes, if they are known; 2 if a read may
-- fail or there are too many bytes; or 3 for a failed allocation.
abbrev pub IsCheckDone : Bool → Option (List ℕ) → Bool → ℕ → List ℕ → Type 0
IsCheckDone lenient left fails status text =
    ((count : PacketCount) × IfSome left (Counts (widest lenient) count) × (status ≡ count_status count.end) × (text ≡ count_lines count)) ⊎ IsCutShort left fails status text

-- 0 if the filter matches.
abbrev pub match_status : Bool → ℕ
match_status true = 0
match_status false = 1

-- the status and the line of `match`: those of the filter's fault, or else of the name's, or else
-- of whether the one matches the other
abbrev pub match_outcome : Option TopicFault → Option TopicFault → Bool → ℕ × List ℕ
match_outcome (Some fault) name matches = (2, topic_line (codes "filter") fault)
match_outcome None (Some fault) matches = (2, topic_line (codes "name") fault)
match_outcome None None matches = (match_status matches, match_line matches)

-- The same, or 3 for a failed allocation.
abbrev pub IsMatchDone : List ℕ → List ℕ → ℕ → List ℕ → Type 0
IsMatchDone filter name status text =
    ((status, text) ≡ match_outcome (filter_fault filter) (name_fault name) (is_match filter name)) ⊎ ((status ≡ 3) × (text ≡ no_memory))

-- The output before an allocation failed: nothing, or the results of the first steps.
abbrev pub IsCutOff : List ℕ → List ℕ → Type 0
IsCutOff text printed = (printed ≡ []) ⊎ ((schedule : Schedule) × IsSchedule (lines_of text) schedule × IsCutReplay schedule printed)

-- The status and output of a replay: those of its steps; 2 with its first invalid line; or 3 for a
-- failed allocation.
abbrev pub IsTextReplayed : List ℕ → ℕ → List ℕ → Type 0
IsTextReplayed text status printed =
    ((schedule : Schedule) × IsSchedule (lines_of text) schedule × IsReplay schedule printed × (status ≡ 0)) ⊎ ((line : ℕ) × IsBadLine (lines_of text) line × (status ≡ 2) × (printed ≡ bad_line line)) ⊎ ((front : List ℕ) × IsCutOff text front × (status ≡ 3) × (printed ≡ front ++ no_memory))

-- The status and output of `replay`: those of the file's schedule, if its bytes are known; 2 if a
-- read may fail or the bytes are not UTF-8; or 3 for a failed allocation.
abbrev pub IsReplayDone : Option (List ℕ) → Bool → ℕ → List ℕ → Type 0
IsReplayDone left fails status printed =
    ((text : List ℕ) × IfSome left (λ bytes. bytes ≡ text) × IsTextReplayed text status printed) ⊎ ((status ≡ 2) × (printed ≡ file_not_read) × ((fails ≡ true) ⊎ IfSome left (λ bytes. ¬ IsUtf8 bytes))) ⊎ ((status ≡ 3) × (printed ≡ no_memory))

-- Generated events, followed by `settle`: packets have a remaining length of at most 65,536
-- (2.2.3), each side uses at most 4 packet identifiers (2.3.1), and no side has a receive window.
pub record IsMadeUp (start count : ℕ) (schedule : Schedule) : Type 0 where
  pub limit : schedule.limits ≡ strict 65536
  pub capacity : non_zero_u16_get schedule.capacity ≡ 4
  pub window : schedule.window ≡ None
  pub all : schedule.steps.items ≡ map (λ event. Event event) (made_up start count) ++ Settle ∷ []

-- the lines of such a schedule: the one for the world, one for each event, and `settle`; they are
-- read as it
pub record IsRandomText (start count : ℕ) (text : List ℕ) : Type 0 where
  pub lines : text ≡ line_with (codes "world" ∷ decimal 65536 ∷ decimal 4 ∷ []) ++ flat_map step_line (map (λ event. Event event) (made_up start count) ++ Settle ∷ [])
  pub written : (schedule : Schedule) → IsMadeUp start count schedule → text ≡ schedule_text schedule
  pub reads : (schedule : Schedule) → IsMadeUp start count schedule → IsSchedule (lines_of text) schedule

-- the status and the lines of `random`: those of a schedule that is generated
abbrev pub IsRandomDone : ℕ → ℕ → ℕ → List ℕ → Type 0
IsRandomDone start count status text = (status ≡ 0) × IsRandomText start count text

-- the status that a job ends with and the lines that it prints, over a file with these bytes, of
-- which a read may fail or not
abbrev pub IsDone : Job → Option (List ℕ) → Bool → ℕ → List ℕ → Type 0
IsDone (jobs.Show hex lenient) left fails status text = IsShowDone lenient hex.now status text
IsDone (jobs.ShowFrom source lenient) left fails status text = IsStreamShown lenient left fails status text
IsDone (jobs.Check source lenient) left fails status text = IsCheckDone lenient left fails status text
IsDone (jobs.Match filter name) left fails status text = IsMatchDone filter.now name.now status text
IsDone (jobs.Replay source) left fails status text = IsReplayDone left fails status text
IsDone (jobs.Random start steps) left fails status text = IsRandomDone start steps status text
