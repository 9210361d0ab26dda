-- The names that the source files of this crate cite. It declares none of its own.
pub use Rattle.mq_log.specs.Blocks.{at_rest, gate, rest}
pub use Rattle.mq_log.specs.Disk.{LeavesOnly, Only}
pub use Rattle.mq_log.specs.Journal.{IsSettled}
pub use Rattle.mq_log.specs.declared.reader.Tail.TheVariants.{Closed, Torn}
pub use Rattle.mq_record.specs.Encoding.{is_recorded, event_bytes}
pub use Rattle.mq_record.specs.Reading.{IsEntry}
pub use Rattle.mq_route.specs.Step.{HubStep}
pub use Rattle.mq_route.specs.StepSome.{HubStepSome}
pub use Rattle.mq_route.specs.declared.conn.Conn.{Conn}
pub use Rattle.mq_route.specs.declared.event.HubEvent.TheVariants.{Bytes, Collect}
pub use Rattle.mq_durable.specs.Calls.{Collected, Committed, Continued, MakesCall, Stepped, DurableLaws}
pub use Rattle.mq_durable.specs.Determined.{ReplayLaws}
pub use Rattle.mq_durable.specs.Memory.{is_for_memory, is_memory, lacks_memory, reports_memory}
pub use Rattle.mq_durable.specs.Recorded.{AfterCrash, HoldsAllOrNone, events_of, events_in, IsReadable}
pub use Rattle.mq_durable.specs.Inside.Recorded.{AreReadable, events_in_all}
pub use Rattle.mq_durable.specs.Recovering.{Continues, AreKnownAmong, HasEnded, latest}
pub use Rattle.mq_durable.specs.Inside.Recovering.{opened_by}
pub use Rattle.mq_durable.specs.Replaying.{Replays}
pub use Rattle.mq_durable.specs.State.{FollowsJournal, IsCommitRefused, IsStepRefused, after_failure, after_step, reply_in, after_refusal, after_sound_step}
pub use Rattle.mq_durable.specs.Inside.State.{IsNotNoted, IsNotStepped}
pub use Rattle.mq_durable.specs.declared.condition.Condition.TheVariants.{Sound, Broken}
