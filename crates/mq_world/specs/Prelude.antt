-- The names that the source files of this crate cite. It declares none of its own.
pub use Rattle.mq_decode.specs.Limits.{Bounds}
pub use Rattle.mq_end.specs.Both.{answered_identifier}
pub use Rattle.mq_end.specs.End.{is_live, resumed}
pub use Rattle.mq_end.specs.Publishing.{connect_of}
pub use Rattle.mq_end.specs.Resuming.{FitsWithin, kept_session}
pub use Rattle.mq_flow.specs.Saved.{AreWithin}
pub use Rattle.mq_flow.specs.Window.{Spans}
pub use Rattle.mq_world.specs.AtOnce.{AtOnceLaw}
pub use Rattle.mq_world.specs.Carried.{CarriedLaw}
pub use Rattle.mq_world.specs.Carries.{IsSpanned, Wired, HaveWindow, seen}
pub use Rattle.mq_world.specs.EventByEvent.{EventByEvent}
pub use Rattle.mq_world.specs.Examples.{Examples}
pub use Rattle.mq_world.specs.Half.{accepted_with, freed_with, none_accepted, none_handed}
pub use Rattle.mq_world.specs.Headline.{HeadlineLaw, Headline}
pub use Rattle.mq_world.specs.Identifiers.{IdentifiersLaw}
pub use Rattle.mq_world.specs.Listed.{accepted_in, handed_in, accepted_count, handed_count, AcceptedGrows, HandedGrows, FreedGrows}
pub use Rattle.mq_world.specs.Inside.Listed.{TellsMore}
pub use Rattle.mq_world.specs.Machine.{Machine, first_packet}
pub use Rattle.mq_world.specs.MadeUp.{made_event, made_message, made_qos, made_side, made_up}
pub use Rattle.mq_world.specs.OverBytes.{handed_with, OverBytes, Stands, near, left_on}
pub use Rattle.mq_world.specs.Pairs.{wired_of}
pub use Rattle.mq_world.specs.Runs.{RunsLaw}
pub use Rattle.mq_world.specs.Sessions.{SessionsLaw}
pub use Rattle.mq_world.specs.SettlesOver.{SettlesOver, SettledFrom}
pub use Rattle.mq_world.specs.Settling.{SettlingLaw}
pub use Rattle.mq_world.specs.World.{Does, IsDelivered, IsOpened, IsSettled, IsIdle, MetNoWant, IsNeverFull, IsNew, Leads, Settles}
