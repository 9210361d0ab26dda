-- The run of a subscriber, over one connection after another. Only proofs cite these definitions.
use Rattle.std.specs.Prelude.{◌≡◌, ⊤, true, List, Option, Result, Ok, Err}
use Rattle.mq_packet.specs.declared.message.Message.{Message}
use Rattle.mq_client.specs.Course.{Moment}
use Rattle.mq_pubsub.specs.declared.inbox.Inbox.{Inbox}
use Rattle.mq_pubsub.specs.declared.options.SubscribeOptions.{SubscribeOptions}
use Rattle.mq_pubsub_runs.specs.declared.stop.Stop.{Stop}
use Rattle.mq_pubsub_runs.specs.declared.stop.Stop.TheVariants.{Connection, Application}
use Rattle.mq_pubsub_runs.specs.Watching.{Watched, Unprinted}

-- the run so far, if it stopped for this reason
abbrev pub WatchedUntil : SubscribeOptions → Moment → Inbox → Option (List Message) → Moment → Inbox → Option (List Message) → Stop → Type 0
WatchedUntil options start first output end last printed (Connection error) = Watched options start first output end last printed
WatchedUntil options start first output end last printed (Application error) = Unprinted options start first output end

-- the work over a connection reached the end of the run, or ended early
abbrev pub SubscribeEnds : SubscribeOptions → Moment → Inbox → Option (List Message) → Moment → Inbox → Option (List Message) → Result ⊤ Stop → Type 0
SubscribeEnds options start first output end last printed (Ok done) = Watched options start first output end last printed × (last.is_ended ≡ true)
SubscribeEnds options start first output end last printed (Err stop) = WatchedUntil options start first output end last printed stop
