use Rattle.std.proofs.Common.{◌≡◌, ◌+◌, ◌≤◌, ℕ, false, List, ◌++◌, length, map}
use Rattle.std.specs.List.{list_any}
use Rattle.mq_topic.specs.declared.qos.Qos.TheVariants.{Q0}
use Rattle.mq_flow.specs.Sender.{publish_packet, same_qos}
use Rattle.mq_end.specs.Ready.{AreEncodable, packets_size}
use Rattle.mq_end.proofs.Onward.{Onward}
use Rattle.mq_end.proofs.resend.put_messages.Given as goal

abbrev pub invariant-loop-entry : goal.invariant-loop-entry
invariant-loop-entry l = record {
  onward : Onward (map (λ e. publish_packet e.id e.sent e.message) l.entry-iterator) (map (λ e. publish_packet e.id e.sent e.message) l.fn.entries) l.fn.output.bytes l.output.bytes;
  grown : (rest : List ℕ) × (l.output.bytes ≡ l.fn.output.bytes ++ rest);
  room : l.output.room ≡ l.fn.output.room;
  within : length l.output.bytes + packets_size (map (λ e. publish_packet e.id e.sent e.message) l.entry-iterator) ≤ length l.fn.output.bytes + packets_size (map (λ e. publish_packet e.id e.sent e.message) l.fn.entries);
  encodable : AreEncodable (map (λ e. publish_packet e.id e.sent e.message) l.fn.entries) → AreEncodable (map (λ e. publish_packet e.id e.sent e.message) l.entry-iterator);
  none : list_any (λ e. same_qos Q0 e.message.qos) l.entry-iterator ≡ false;
}
