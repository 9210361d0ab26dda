-- The counters of a broker, and what each act adds to them.
use Rattle.std.specs.Prelude.{ℕ, ◌≡◌, ◌+◌, ◌-◌, ◌==◌, min, List, length, slice_index, if◌then◌else◌}
use Rattle.std.specs.List.{sum_by}
use Rattle.mq_topic.specs.declared.qos.Qos.{Qos}
use Rattle.mq_topic.specs.declared.qos.Qos.TheVariants.{Q0, Q1, Q2}
use Rattle.mq_topic.specs.Qos.{qos_number}
use Rattle.mq_packet.specs.Codes.{refusal_number}
use Rattle.mq_packet.specs.declared.message.Message.{Message}
use Rattle.mq_end.specs.declared.reason.CloseReason.TheVariants as ends
use Rattle.mq_route.specs.declared.act.Act.{Act}
use Rattle.mq_route.specs.declared.act.Act.TheVariants as acts
use Rattle.mq_route.specs.declared.close.HubClose.{HubClose}
use Rattle.mq_route.specs.declared.close.HubClose.TheVariants as closes
use Rattle.mq_status.specs.declared.counter.Counter.{Counter}
use Rattle.mq_status.specs.declared.counter.Counter.TheVariants as counters
use Rattle.mq_status.specs.declared.counter.MissReason.{MissReason}
use Rattle.mq_status.specs.declared.counter.MissReason.TheVariants as misses
use Rattle.mq_status.specs.declared.metrics.Gauges.{Gauges}

-- ---- places

-- the number in a close's code
abbrev pub close_number : HubClose → ℕ
close_number (closes.Own (ends.Fault fault)) = 1
close_number (closes.Own ends.Unexpected) = 2
close_number (closes.Own (ends.Refused code)) = 3
close_number (closes.Own ends.SessionLost) = 4
close_number (closes.Own ends.KeepAlive) = 5
close_number (closes.Own ends.Memory) = 6
close_number (closes.Own ends.Left) = 7
close_number closes.TargetFull = 8
close_number closes.TakenOver = 9
close_number closes.PeerEnded = 10
close_number (closes.Own ends.Window) = 11
close_number closes.NoConnect = 12
close_number closes.TooManyMatches = 13

-- the place of a counter among all
abbrev pub place : Counter → ℕ
place (counters.MessagesIn qos) = qos_number qos
place (counters.MessageBytesIn qos) = 3 + qos_number qos
place (counters.MessagesOut qos) = 6 + qos_number qos
place (counters.MessageBytesOut qos) = 9 + qos_number qos
place (counters.Missed misses.SessionFull) = 12
place (counters.Missed misses.OutputFull) = 13
place (counters.Closed reason) = 13 + close_number reason
place (counters.Refused code) = 26 + refusal_number code
place counters.Connected = 32
place counters.SessionsEnded = 33
place counters.Subscribed = 34
place counters.Unsubscribed = 35
place counters.Wills = 36
place counters.WillsDropped = 37
place counters.BytesRead = 38
place counters.BytesWritten = 39
place counters.TurnedAway = 40
place counters.Rounds = 41
place counters.RoundMicroseconds = 42

-- ---- values

-- The numbers of a broker's status. Contracts see `Metrics` as this.
pub record Numbers : Type 0 where
  pub counts : List ℕ
  pub gauges : Gauges

-- the value of a counter
abbrev pub value : Numbers → Counter → ℕ
value numbers counter = slice_index numbers.counts (place counter)

-- `amount` more, but at most the greatest number of 64 bits
abbrev pub grown : ℕ → ℕ → ℕ
grown value amount = value + min amount (18446744073709551615 - value)

-- ---- acts

-- what an event that adds `amount` to `counter` adds to `other`
abbrev pub share : Counter → ℕ → Counter → ℕ
share counter amount other = if place counter == place other then amount else 0

-- the bytes of the topic and the payload
abbrev pub size : Message → ℕ
size message = length message.topic + length message.payload

-- a refused CONNECT is counted by its return code too (3.2.2.3)
abbrev pub refusal_adds : Counter → HubClose → ℕ
refusal_adds counter (closes.Own (ends.Refused code)) = share (counters.Refused code) 1 counter
refusal_adds counter other = 0

-- why a client misses a copy of this QoS: its session is full, or its pending output with QoS 0
abbrev pub miss_reason : Qos → MissReason
miss_reason Q0 = misses.OutputFull
miss_reason Q1 = misses.SessionFull
miss_reason Q2 = misses.SessionFull

-- what an act adds to a counter
abbrev pub act_adds : Counter → Act → ℕ
act_adds counter (acts.Took client message) =
    share (counters.MessagesIn message.qos) 1 counter + share (counters.MessageBytesIn message.qos) (size message) counter
act_adds counter (acts.Placed client message) =
    share (counters.MessagesOut message.qos) 1 counter + share (counters.MessageBytesOut message.qos) (size message) counter
act_adds counter (acts.Missed client message) = share (counters.Missed (miss_reason message.qos)) 1 counter
act_adds counter (acts.Closed conn reason) = share (counters.Closed reason) 1 counter + refusal_adds counter reason
act_adds counter (acts.Up conn client present) = share counters.Connected 1 counter
act_adds counter (acts.Removed client) = share counters.SessionsEnded 1 counter
act_adds counter (acts.Subscribed client filter qos) = share counters.Subscribed 1 counter
act_adds counter (acts.Unsubscribed client filter) = share counters.Unsubscribed 1 counter
act_adds counter (acts.Will client message) = share counters.Wills 1 counter
act_adds counter (acts.WillDropped client) = share counters.WillsDropped 1 counter

-- what a list of acts adds to a counter
abbrev pub acts_add : Counter → List Act → ℕ
acts_add counter log = sum_by (act_adds counter) log

-- ---- changes

-- Each counter grows by its amount, and the gauges stay.
pub record Grows (old new : Numbers) (amount : Counter → ℕ) : Type 0 where
  pub counts : (counter : Counter) → value new counter ≡ grown (value old counter) (amount counter)
  pub gauges : new.gauges ≡ old.gauges
