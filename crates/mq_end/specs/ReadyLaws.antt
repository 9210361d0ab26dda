-- An end that is ready for messages accepts them one after another, whatever packets arrive
-- between.
use Rattle.std.specs.Prelude.{◌≡◌, ℕ, true, List, ◌∷◌, None}
use Rattle.mq_packet.specs.declared.message.Message.{Message}
use Rattle.mq_packet.specs.declared.packet.Packet.{Packet}
use Rattle.mq_end.specs.End.{End, is_up}
use Rattle.mq_end.specs.Both.{publishes}
use Rattle.mq_end.specs.Server.{ready_refusal, server_publish_refusal, server_gets}

pub record ReadyLaws : Type 0 where
  -- the first of the messages is not refused
  pub first : (limit capacity : ℕ) (message : Message) (messages : List Message) (end : End) → ready_refusal limit capacity (message ∷ messages) end ≡ None
      → server_publish_refusal limit capacity message end ≡ None
  -- once it is published, with whatever identifier, the end is ready for the others
  pub others : (limit capacity id : ℕ) (message : Message) (messages : List Message) (end : End) → ready_refusal limit capacity (message ∷ messages) end ≡ None
      → ready_refusal limit capacity messages (publishes id message end).end ≡ None
  -- A packet that doesn't close the end frees identifiers or leaves them unchanged: PUBACK, PUBREC,
  -- PUBREL, PUBCOMP, or requests and messages of the client (4.3).
  pub taken : (limit capacity : ℕ) (packet : Packet) (messages : List Message) (end : End) → is_up end.state ≡ true → (server_gets packet end).close ≡ None
      → ready_refusal limit capacity messages end ≡ None → ready_refusal limit capacity messages (server_gets packet end).end ≡ None
