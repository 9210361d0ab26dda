-- The names that the source files of this crate cite. It declares none of its own.
pub use Rattle.mq_route.specs.Accepted.{AcceptLaws}
pub use Rattle.mq_route.specs.Begun.{BegunLaws}
pub use Rattle.mq_route.specs.Bounds.Broker.{BrokerBounds}
pub use Rattle.mq_route.specs.Bounds.Ends.{BoundsLaws}
pub use Rattle.mq_route.specs.Bounds.Sharp.{SharpLaws}
pub use Rattle.mq_route.specs.Broad.{BroadLaws}
pub use Rattle.mq_route.specs.Clients.{ClientLaws}
pub use Rattle.mq_route.specs.Codes.{hub_close_code, hub_refusal_code}
pub use Rattle.mq_route.specs.Dropped.{WillLaws}
pub use Rattle.mq_route.specs.Examples.{Examples}
pub use Rattle.mq_route.specs.Expired.{ExpiryLaws}
pub use Rattle.mq_route.specs.Full.{FullLaws}
pub use Rattle.mq_route.specs.History.{HistoryLaws}
pub use Rattle.mq_route.specs.Laws.{OutputLaws, RoutingLaws, TakingLaws}
pub use Rattle.mq_route.specs.Names.{NameLaws}
pub use Rattle.mq_route.specs.Reading.{ReadLaws}
pub use Rattle.mq_route.specs.Silent.{SilentLaws}
pub use Rattle.mq_route.specs.Snapshot.{SnapshotLaws}
