use Rattle.std.proofs.Common.{◌≡◌, ◌++◌, length, take, map}
use Rattle.mq_packet.specs.declared.packet.Packet.TheVariants as packets
use Rattle.mq_flow.proofs.resend.put_releases.Given as goal

abbrev pub invariant-loop-id : goal.invariant-loop-id
invariant-loop-id l = record {
  rest : l.out.items ++ map packets.PubRel l.id-iterator ≡ l.fn.out.items ++ map packets.PubRel l.fn.released;
  kept : take (length l.fn.out.items) l.out.items ≡ l.fn.out.items;
}
