-- The names that the source files of this crate cite. It declares none of its own.
pub use Rattle.mq_decode.specs.Limits.{strict}
pub use Rattle.mq_end.specs.End.{blank_end}
pub use Rattle.mq_pubsub.specs.Giving.{Gives, is_end, messages_of}
pub use Rattle.mq_pubsub.specs.Printing.{acknowledged, identifier_at, last_acknowledged, Shows, identifier_of}
pub use Rattle.mq_pubsub.specs.Retrying.{first_wait, wait_after, is_loss, IsOver, cut_wait}
pub use Rattle.mq_pubsub.specs.Setups.{CanGoOn, GoesOn, config_of, greatest_length}
pub use Rattle.mq_pubsub.specs.Subscribing.{excludes, verdict_of, Prints, connects, counts, delivers, granted, prints, prints_at, state_after}
pub use Rattle.mq_pubsub.specs.declared.error.RunError.TheVariants.{Memory}
