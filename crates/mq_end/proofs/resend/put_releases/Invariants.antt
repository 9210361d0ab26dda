use Rattle.std.proofs.Common.{◌≡◌, ◌+◌, ◌≤◌, ℕ, List, ◌++◌, length, map}
use Rattle.mq_packet.specs.declared.packet.Packet.TheVariants as packets
use Rattle.mq_end.specs.Ready.{packets_size}
use Rattle.mq_end.proofs.Onward.{Onward}
use Rattle.mq_end.proofs.resend.put_releases.Given as goal

abbrev pub invariant-loop-id : goal.invariant-loop-id
invariant-loop-id l = record {
  onward : Onward (map packets.PubRel l.id-iterator) (map packets.PubRel l.fn.released) l.fn.output.bytes l.output.bytes;
  grown : (rest : List ℕ) × (l.output.bytes ≡ l.fn.output.bytes ++ rest);
  room : l.output.room ≡ l.fn.output.room;
  within : length l.output.bytes + packets_size (map packets.PubRel l.id-iterator) ≤ length l.fn.output.bytes + packets_size (map packets.PubRel l.fn.released);
}
