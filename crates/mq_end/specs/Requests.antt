-- Calls that send a packet: SUBSCRIBE, UNSUBSCRIBE, PINGREQ (3.8, 3.10, 3.12).
use Rattle.std.specs.Prelude.{◌≡◌, ℕ}
use Rattle.mq_flow.specs.Sender.{IsFirstFree}
use Rattle.mq_end.specs.End.{Reply}
use Rattle.mq_end.specs.KeepAlive.{client_ticks, client_since}
use Rattle.mq_end.specs.State.{EndState, PutsOut}
use Rattle.mq_end.specs.Receiving.{Acts}

-- A packet is sent with this identifier, the first free one after the one assigned last (2.3.1).
pub record Requests (id : ℕ) (reply : Reply) (old new : EndState) : Type 0 where
  pub first : IsFirstFree old.end.last old.end.book id
  pub acts : Acts reply old new

-- A client's `tick` (3.1.2.10).
pub record Ticks (now : ℕ) (old new : EndState) : Type 0 where
  pub out : PutsOut (client_ticks old.last_activity now old.end).out old.output new.output
  pub state : new ≡ record old {
    end = (client_ticks old.last_activity now old.end).end;
    output = new.output;
    last_activity = client_since old.last_activity now old.end;
  }
