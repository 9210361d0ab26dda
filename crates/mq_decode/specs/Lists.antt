-- Reading an identifier and a list of at least one item (3.8, 3.9, 3.10).
use Rattle.std.specs.Prelude.{ℕ, zero, suc, List, [], ◌∷◌, length, Result, Ok, Err}
use Rattle.mq_topic.specs.Qos.{qos_from}
use Rattle.mq_packet.specs.declared.packet.Request.{Request}
use Rattle.mq_packet.specs.declared.packet.SubAckCode.{SubAckCode}
use Rattle.mq_packet.specs.Codes.{code_from}
use Rattle.mq_decode.specs.declared.fault.FaultKind.TheVariants.{EmptyList}
use Rattle.mq_decode.specs.declared.fault.BadField.{BadField}
use Rattle.mq_decode.specs.Gives.{◌>>=◌}
use Rattle.mq_decode.specs.Fields.{bad_at, identifier_at, filter_at, code_byte_at}

-- The items up to the end of the packet, at most this many.
abbrev pub items_at : {A : Type 0} → (List ℕ → Result (A × List ℕ) BadField) → ℕ → List ℕ → Result (List A) BadField
items_at item more [] = Ok []
items_at item zero (byte ∷ bytes) = Ok []
items_at item (suc more) (byte ∷ bytes) = item (byte ∷ bytes) >>= λ first. items_at item more first.1 >>= λ rest. Ok (first.0 ∷ rest)

-- At least one item. Each takes at least one byte, so the number of bytes is a limit.
abbrev pub list_at : {A : Type 0} → (List ℕ → Result (A × List ℕ) BadField) → List ℕ → Result (List A) BadField
list_at item [] = Err (bad_at EmptyList [])
list_at item (byte ∷ bytes) = items_at item (length (byte ∷ bytes)) (byte ∷ bytes)

-- an item of SUBSCRIBE (3.8.3): a filter and a quality of service
unfoldable pub request_at : List ℕ → Result (Request × List ℕ) BadField
request_at bytes = filter_at bytes >>= λ filter. code_byte_at qos_from filter.1 >>= λ qos. Ok (record { filter = filter.0; qos = qos.0 }, qos.1)

-- an item of SUBACK (3.9.3)
unfoldable pub suback_code_at : List ℕ → Result (SubAckCode × List ℕ) BadField
suback_code_at bytes = code_byte_at code_from bytes

-- an identifier, and then a list
unfoldable pub list_with : {A : Type 0} → (List ℕ → Result (A × List ℕ) BadField) → List ℕ → Result (ℕ × List A) BadField
list_with item bytes = identifier_at bytes >>= λ id. list_at item id.1 >>= λ items. Ok (id.0, items)
