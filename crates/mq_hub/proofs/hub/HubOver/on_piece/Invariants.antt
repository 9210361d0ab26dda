use Rattle.std.proofs.Common.{◌≡◌, ◌-◌, ◌≤◌, ◌++◌, true, length, take}
use Rattle.mq_route.specs.Hub.{is_open, stage_of}
use Rattle.mq_tables.specs.Connections.{IsDecoding}
use Rattle.mq_hub.proofs.ByteWalk.{LeadsOn}
use Rattle.mq_hub.proofs.hub.HubOver.on_piece.Given as goal

abbrev pub invariant-loop-conn : goal.invariant-loop-conn
invariant-loop-conn g l = record {
  within : l.used ≤ length l.piece;
  reading : IsDecoding l.fn.self.config.limits l.decoder;
  config : l.self.config ≡ l.fn.self.config;
  room : is_open (stage_of l.conn l.self.connections) ≡ true → 3 ≤ l.log.room;
  leads : LeadsOn l.fn.self.config.limits l.conn l.most_acts (l.fn.decoder.held ++ take l.used l.piece) l.fn.self l.fn.log.acts
      l.decoder.held l.self l.log.acts;
}

abbrev pub decreases-loop-conn : goal.decreases-loop-conn
decreases-loop-conn g l = length l.piece - l.used
