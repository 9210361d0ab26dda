use Rattle.std.proofs.Common.{◌≡◌, ◌+◌, false}
use Rattle.std.specs.List.{list_any}
use Rattle.mq_topic.specs.declared.qos.Qos.TheVariants.{Q0}
use Rattle.mq_flow.specs.Sender.{same_qos}
use Rattle.mq_end.specs.Ready.{AreEncodable, packets_size}
use Rattle.mq_end.proofs.Rooms.{published}
use Rattle.mq_end.proofs.reserve_connect.size_of_messages.Given as goal

abbrev pub invariant-loop-entry : goal.invariant-loop-entry
invariant-loop-entry l = record {
  size : l.size + packets_size (published l.entry-iterator) ≡ packets_size (published l.fn.entries);
  encodable : AreEncodable (published l.entry-iterator) → AreEncodable (published l.fn.entries);
  none : list_any (λ e. same_qos Q0 e.message.qos) l.entry-iterator ≡ false;
}
