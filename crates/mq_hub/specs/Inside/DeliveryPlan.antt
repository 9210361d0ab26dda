-- A planned delivery, and tables with room for it.
use Rattle.std.specs.Prelude.{◌≡◌, false, IfSome, [], ℕ, ◌<◌, length}
use Rattle.mq_topic.specs.declared.qos.Qos.TheVariants.{Q0, Q1, Q2}
use Rattle.mq_packet.specs.declared.message.Message.{Message}
use Rattle.mq_route.specs.Copies.{copy}
use Rattle.mq_tables.specs.Publishing.{AreSameButRoom}
use Rattle.mq_tables.specs.Tables.{HubTables}
use Rattle.mq_hub.specs.declared.publish.shared_copies.SharedCopies.{SharedCopies}
use Rattle.mq_hub.specs.declared.publish.delivery.DeliveryPlan.{DeliveryPlan}
use Rattle.mq_hub.specs.Inside.Placement.{AreApart, AreReady}

-- Each shared copy is the copy of a message for its granted quality of service (3.3.5, 3.8.4).
pub record AreShared (message : Message) (shared : SharedCopies) : Type 0 where
  pub q0 : IfSome shared.at_q0 (λ made. made ≡ copy Q0 false message)
  pub q1 : IfSome shared.at_q1 (λ made. made ≡ copy Q1 false message)
  pub q2 : IfSome shared.at_q2 (λ made. made ≡ copy Q2 false message)

-- The tables are the same, except for room.
pub record AreTablesAlike (old new : HubTables) : Type 0 where
  pub rows : new.rows ≡ old.rows
  pub retained : new.retained.messages ≡ old.retained.messages
  pub list : AreSameButRoom old.sessions.list new.sessions.list
  pub connections : new.connections ≡ old.connections

-- A plan: the message to retain under its own name, and at most one copy for each client.
pub record IsPlanned (plan : DeliveryPlan) : Type 0 where
  pub named : IfSome plan.kept (λ named. named.0 ≡ named.1.topic)
  pub apart : AreApart plan.copies.items
  pub blank : plan.acts.items ≡ []

-- Tables and an act log with room for a plan, and for `more` bytes more in each session that gets a
-- copy.
pub record IsReserved (more : ℕ) (plan : DeliveryPlan) (tables : HubTables) (free : ℕ) : Type 0 where
  pub named : IfSome plan.kept (λ named. named.0 ≡ named.1.topic)
  pub apart : AreApart plan.copies.items
  pub retained : 0 < tables.retained.room
  pub ready : AreReady more tables.sessions.list plan.copies.items
  pub room : length plan.acts.items < free
