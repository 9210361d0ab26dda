-- Copies that are due, of which some may be missed (2.3.1).
use Rattle.std.specs.Prelude.{◌≡◌, ℕ, [], ◌∷◌, ◌++◌, List, if◌then◌else◌, ◌||◌, Bool, is_some, true, false, IfSome}
use Rattle.mq_packet.specs.declared.message.Message.{Message}
use Rattle.mq_route.specs.declared.act.Act.TheVariants as acts
use Rattle.mq_route.specs.declared.config.HubConfig.{HubConfig}
use Rattle.mq_route.specs.declared.act.Act.TheVariants as acts
use Rattle.mq_route.specs.Work.{drops_copies}
use Rattle.mq_route.specs.declared.act.Act.TheVariants as acts
use Rattle.mq_route.specs.Hub.{for_key}
use Rattle.mq_tables.specs.declared.sessions.session.BrokerSession.{BrokerSession}
use Rattle.mq_tables.specs.declared.rules.CopyRules.{CopyRules}
use Rattle.mq_tables.specs.declared.space.Space.{Space}
use Rattle.mq_tables.specs.Rules.{skips, space_after, space_of}
use Rattle.mq_tables.specs.Sessions.{session_at}
use Rattle.mq_hub.specs.declared.publish.settle.SettledCopies.{SettledCopies}
use Rattle.mq_hub.specs.declared.publish.settle.SettledMessages.{SettledMessages}
use Rattle.mq_hub.specs.Inside.Placement.{misses, first_fitting, fitting_acts, placed_acts}

-- A copy was settled after others: it is kept or missed.
pub record IsSettled (config : HubConfig) (queued : ℕ → ℕ) (sessions : List BrokerSession) (copy : ℕ × Message) (old new : SettledCopies) : Type 0 where
  pub kept : new.kept.items ≡ old.kept.items ++ (if misses config queued sessions copy then [] else copy ∷ [])
  pub acts : new.acts.items ≡ old.acts.items ++ (if misses config queued sessions copy then acts.Missed copy.0 copy.1 else acts.Placed copy.0 copy.1) ∷ []

-- A message was settled after others, for a client whose session had and then has this space.
pub record IsSettledFor (rules : CopyRules) (key : ℕ) (message : Message) (space left : Space) (old new : SettledMessages) : Type 0 where
  pub kept : new.kept.items ≡ old.kept.items ++ (if skips rules space message then [] else message ∷ [])
  pub acts : new.acts.items ≡ old.acts.items ++ (if skips rules space message then acts.Missed key message else acts.Placed key message) ∷ []
  pub rest : left ≡ (if skips rules space message then space else space_after message space)

-- copies may be missed under these rules
abbrev pub may_miss : CopyRules → Bool
may_miss rules = drops_copies rules.when_full || is_some rules.most_waiting

-- The messages for a client were settled in the space of its session, after this number of bytes is
-- queued. All of them are kept if none may be missed.
pub record IsSettledAs (rules : CopyRules) (queued key : ℕ) (sessions : List BrokerSession) (messages : List Message) (settled : SettledMessages) : Type 0 where
  pub some : may_miss rules ≡ true → IfSome (session_at key sessions) (λ session.
      (settled.kept.items ≡ first_fitting rules (space_of rules queued session.end) messages) × (settled.acts.items ≡ fitting_acts rules key (space_of rules queued session.end) messages))
  pub all : may_miss rules ≡ false → (settled.kept.items ≡ messages) × (settled.acts.items ≡ placed_acts (for_key key messages))
