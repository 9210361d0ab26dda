-- The bytes of SUBACK codes (3.9.3).
use Rattle.std.proofs.Common.{◌≡◌, suc, List, [], ◌∷◌, length, refl, ap}
use Rattle.std.specs.List.{flat_map}
use Rattle.mq_packet.specs.declared.packet.SubAckCode.{SubAckCode}
use Rattle.mq_packet.specs.Encoding.{code_fields}

-- Each code has one.
pub codes_size : (codes : List SubAckCode) → length (flat_map code_fields codes) ≡ length codes
codes_size [] = refl
codes_size (c ∷ cs) = ap suc (codes_size cs)
