use Rattle.std.proofs.Common.{◌≡◌, length, take}
use Rattle.std.specs.List.{flat_map}
use Rattle.mq_packet.specs.Encoding.{code_fields}
use Rattle.mq_bytes.specs.Buffers.{Filled}
use Rattle.mq_embedded.proofs.event.write_codes.Given as goal

abbrev pub invariant-loop-code : goal.invariant-loop-code
invariant-loop-code l = record {
  filled : Filled l.fn.out (flat_map code_fields (take l.code-index l.codes)) l.out;
  at : l.at ≡ length (flat_map code_fields (take l.code-index l.codes));
  size : length l.out ≡ length l.fn.out;
}
