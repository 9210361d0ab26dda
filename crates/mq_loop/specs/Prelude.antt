-- The names that the source files of this crate cite. It declares none of its own.
pub use Rattle.std.specs.Borrow.{Lends, sem}
pub use Rattle.std.specs.HashMap.{get}
pub use Rattle.std.specs.Io.{ReadsAtMost, WritesAtMost}
pub use Rattle.mq_packet.specs.declared.message.Message.{Message}
pub use Rattle.mq_route.specs.Hub.{HubState, new_hub}
pub use Rattle.mq_route.specs.Step.{HubStep}
pub use Rattle.mq_route.specs.StepSome.{HubStepSome}
pub use Rattle.mq_route.specs.declared.event.HubEvent.TheVariants.{Bytes, Collect, Ended, Opened, Tick}
pub use Rattle.mq_stream.specs.Stream.{IsUnread}
pub use Rattle.mq_loop.specs.Accounts.{IsServed, name_at, line_at, without_notes, served_state}
pub use Rattle.mq_loop.specs.Brokers.{Continues, is_input}
pub use Rattle.mq_loop.specs.Calls.{Call, commit, step, with_calls, IsRound, age_at, Collecting, Reads}
pub use Rattle.mq_loop.specs.Inside.Calls.{Quietly, ReadsOf}
pub use Rattle.mq_loop.specs.Inside.Turns.{IsOldestFirst, holding, must_wait, no_holds}
pub use Rattle.mq_loop.specs.Places.{is_in}
pub use Rattle.mq_loop.specs.Inside.Places.{count_in}
pub use Rattle.mq_loop.specs.Rounds.{AgesStay, AreBounded, IsEmpty, IsOpened, IsReached, IsSettled, connections_in, loop_without_notes, new_loop, pending_at, kept_at, IsNoted, AtOutputs, Collects, Hears, HearsNothing, IsFlushed, IsGiven, IsSame, MayCollect, OthersStay, exists_at, has_unread, output_at, waiting_at, watched_state}
pub use Rattle.mq_loop.specs.Inside.Rounds.{IsRoomier, AreEnded, ends_left}
pub use Rattle.mq_loop.specs.Sockets.{ComesIn, Sends, finishes, GoesOut, IsTaken, IsWithin}
pub use Rattle.mq_loop.specs.declared.broker.SnapshotNote.{SnapshotNote}
pub use Rattle.mq_loop.specs.declared.connection.Flushed.TheVariants.{All, Blocked, Failed}
pub use Rattle.mq_loop.specs.declared.socket.WriteOutcome.TheVariants.{Nothing}
