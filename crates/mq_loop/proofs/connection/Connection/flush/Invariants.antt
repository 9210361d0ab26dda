use Rattle.std.proofs.Common.{◌≡◌}
use Rattle.mq_loop.specs.Sockets.{Sends}
use Rattle.mq_loop.proofs.connection.Connection.flush.Given as goal

abbrev pub invariant-loop : goal.invariant-loop
invariant-loop g l = record {
  went : Sends (g.S.Socket.went l.initial.self-inside.socket) l.initial.self-inside.kept (g.S.Socket.went l.self-inside.socket) l.self-inside.kept;
  came : g.S.Socket.came l.self-inside.socket ≡ g.S.Socket.came l.initial.self-inside.socket;
  unread : l.self-inside.unread ≡ l.initial.self-inside.unread;
  broken : l.self-inside.is_broken ≡ l.initial.self-inside.is_broken;
  finished : l.self-inside.is_finished ≡ l.initial.self-inside.is_finished;
}
