-- The names that the source files of this crate cite. It declares none of its own.
pub use Rattle.std.specs.Io.KnownBytes.{Appends}
pub use Rattle.mq_client.specs.Course.{Publication, Went, IsIdle, Leaves, Moment, Opening, WentFirst}
pub use Rattle.mq_end.specs.End.{is_up, blank_end}
pub use Rattle.mq_pubsub.specs.Giving.{Gives}
pub use Rattle.mq_pubsub_runs.specs.Discarding.{Discards, Hears}
pub use Rattle.mq_pubsub_runs.specs.Posting.{IsLast, Publishes, is_q0, AllPosted, PartPosted, Posted, Progress, StartsWith}
pub use Rattle.mq_pubsub_runs.specs.Inside.Posting.{Fills, Remembers, ProgressUntil, PublishEnds}
pub use Rattle.mq_pubsub_runs.specs.Stops.{IsConnection, IsBroken, IsErr, IsOk}
pub use Rattle.mq_pubsub_runs.specs.Watching.{Stays, Watched, WatchedPart, first_inbox, requests_of, subscriptions_of, unsubscriptions_of}
pub use Rattle.mq_pubsub_runs.specs.Inside.Watching.{SubscribeEnds, WatchedUntil}
