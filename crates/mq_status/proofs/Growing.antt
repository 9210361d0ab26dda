-- Counters that grow.
use Rattle.std.proofs.Common.{◌≡◌, ℕ, ◌+◌, ◌<◌, List, length, take, get_or, sym, ◌∙◌, ap, arith, lit<}
use Rattle.std.proofs.lemmas.List.Sums.{sum_by_more}
use Rattle.mq_route.specs.declared.act.Act.{Act}
use Rattle.mq_topic.specs.Qos.{qos_number}
use Rattle.mq_topic.specs.declared.qos.Qos.{Qos}
use Rattle.mq_topic.specs.declared.qos.Qos.TheVariants as qoses
use Rattle.mq_packet.specs.Codes.{refusal_number}
use Rattle.mq_packet.specs.declared.connack.RefusalCode.{RefusalCode}
use Rattle.mq_packet.specs.declared.connack.RefusalCode.TheVariants as refusals
use Rattle.mq_end.specs.declared.reason.CloseReason.TheVariants as ends
use Rattle.mq_route.specs.declared.close.HubClose.{HubClose}
use Rattle.mq_route.specs.declared.close.HubClose.TheVariants as closes
use Rattle.mq_status.specs.Counting.{Grows, Numbers, acts_add, act_adds, close_number, grown, place, value}
use Rattle.mq_status.specs.declared.counter.Counter.{Counter}
use Rattle.mq_status.specs.declared.counter.Counter.TheVariants as counters
use Rattle.mq_status.specs.declared.counter.MissReason.TheVariants as misses

grown_twice : (v a b : ℕ) → grown (grown v a) b ≡ grown v (a + b)
grown_twice v a b = omega arith

-- the counts after one more act
pub grows_more : (old mid new : Numbers) (log : List Act) (i : ℕ) (act d : Act) → i < length log → act ≡ get_or log i d
    → Grows old mid (λ counter. acts_add counter (take i log)) → Grows mid new (λ counter. act_adds counter act)
    → Grows old new (λ counter. acts_add counter (take (i + 1) log))
grows_more old mid new log i act d low is before after = record {
  counts = λ (counter : Counter).
      after.counts counter
      ∙ ap (λ (v : ℕ). grown v (act_adds counter act)) (before.counts counter)
      ∙ grown_twice (value old counter) (acts_add counter (take i log)) (act_adds counter act)
      ∙ ap (λ (n : ℕ). grown (value old counter) n)
      (ap (λ (a : Act). acts_add counter (take i log) + act_adds counter a) is ∙ sym (sum_by_more (act_adds counter) log i d low));
  gauges = after.gauges ∙ before.gauges;
}

close_low : (reason : HubClose) → close_number reason < 14
close_low (closes.Own (ends.Fault fault)) = lit< tt
close_low (closes.Own ends.Unexpected) = lit< tt
close_low (closes.Own (ends.Refused code)) = lit< tt
close_low (closes.Own ends.SessionLost) = lit< tt
close_low (closes.Own ends.KeepAlive) = lit< tt
close_low (closes.Own ends.Memory) = lit< tt
close_low (closes.Own ends.Left) = lit< tt
close_low (closes.Own ends.Window) = lit< tt
close_low closes.TargetFull = lit< tt
close_low closes.TakenOver = lit< tt
close_low closes.PeerEnded = lit< tt
close_low closes.NoConnect = lit< tt
close_low closes.TooManyMatches = lit< tt

qos_low : (qos : Qos) → qos_number qos < 3
qos_low qoses.Q0 = lit< tt
qos_low qoses.Q1 = lit< tt
qos_low qoses.Q2 = lit< tt

refusal_low : (code : RefusalCode) → refusal_number code < 6
refusal_low refusals.UnacceptableProtocolVersion = lit< tt
refusal_low refusals.IdentifierRejected = lit< tt
refusal_low refusals.ServerUnavailable = lit< tt
refusal_low refusals.BadUserNameOrPassword = lit< tt
refusal_low refusals.NotAuthorized = lit< tt

-- each counter has a place among 43
pub place_low : (counter : Counter) → place counter < 43
place_low (counters.MessagesIn qos) = let h : qos_number qos < 3 = qos_low qos in omega arith
place_low (counters.MessageBytesIn qos) = let h : qos_number qos < 3 = qos_low qos in omega arith
place_low (counters.MessagesOut qos) = let h : qos_number qos < 3 = qos_low qos in omega arith
place_low (counters.MessageBytesOut qos) = let h : qos_number qos < 3 = qos_low qos in omega arith
place_low (counters.Missed misses.SessionFull) = lit< tt
place_low (counters.Missed misses.OutputFull) = lit< tt
place_low (counters.Closed reason) = let h : close_number reason < 14 = close_low reason in omega arith
place_low (counters.Refused code) = let h : refusal_number code < 6 = refusal_low code in omega arith
place_low counters.Connected = lit< tt
place_low counters.SessionsEnded = lit< tt
place_low counters.Subscribed = lit< tt
place_low counters.Unsubscribed = lit< tt
place_low counters.Wills = lit< tt
place_low counters.WillsDropped = lit< tt
place_low counters.BytesRead = lit< tt
place_low counters.BytesWritten = lit< tt
place_low counters.TurnedAway = lit< tt
place_low counters.Rounds = lit< tt
place_low counters.RoundMicroseconds = lit< tt
