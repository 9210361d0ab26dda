use Rattle.std.proofs.Common.{◌≡◌, ◌++◌, false, length, take, map}
use Rattle.std.specs.List.{list_any}
use Rattle.mq_topic.specs.declared.qos.Qos.TheVariants.{Q0}
use Rattle.mq_flow.specs.Sender.{publish_packet, same_qos}
use Rattle.mq_flow.proofs.resend.put_messages.Given as goal

abbrev pub invariant-loop-entry : goal.invariant-loop-entry
invariant-loop-entry l = record {
  rest : l.out.items ++ map (λ e. publish_packet e.id e.sent e.message) l.entry-iterator ≡ l.fn.out.items ++ map (λ e. publish_packet e.id e.sent e.message) l.fn.entries;
  none : list_any (λ e. same_qos Q0 e.message.qos) l.entry-iterator ≡ false;
  kept : take (length l.fn.out.items) l.out.items ≡ l.fn.out.items;
}
