-- Events of a broker, one after another.
use Rattle.std.specs.Prelude.{◌≡◌, List, ◌∷◌, ◌++◌, map, true, Some}
use Rattle.std.specs.List.{flat_map}
use Rattle.mq_packet.specs.Encoding.{encodings}
use Rattle.mq_route.specs.declared.act.Act.{Act}
use Rattle.mq_route.specs.declared.config.HubConfig.{HubConfig}
use Rattle.mq_route.specs.declared.conn.Conn.{Conn}
use Rattle.mq_route.specs.declared.event.HubEvent.{HubEvent}
use Rattle.mq_route.specs.declared.refusal.HubRefusal.{HubRefusal}
use Rattle.mq_route.specs.declared.reply.HubReply.{HubReply}
use Rattle.mq_route.specs.declared.trace.HubTrace.{HubTrace}
use Rattle.mq_route.specs.Hub.{HubState, knows, new_hub, waiting_on}
use Rattle.mq_route.specs.Runs.{Episode, Follows, Stays, on_conn, sent_in, written}
use Rattle.mq_route.specs.Step.{event_refusal}

-- all acts of a run
abbrev pub acts_in : HubTrace → List Act
acts_in trace = flat_map (λ r. r.acts) trace.replies

-- From any time in a run, until a connection ends: the bytes that were collected from it, and then
-- its pending output, are the output that was pending at that time, and then the encodings of the
-- packets that were sent on it (4.6).
abbrev pub AreCollected : HubConfig → List Episode → HubState → Type 0
AreCollected config episodes last =
    (before after : List Episode) (hub : HubState) → before ++ after ≡ episodes
    → Follows (new_hub config) before hub → Follows hub after last
    → (conn : Conn) → Stays conn after → knows conn hub.connections ≡ true
    → written conn after ++ waiting_on conn last.connections ≡ waiting_on conn hub.connections ++ encodings (on_conn conn (sent_in after))

-- These events led the broker `old` to `new`, with these replies.
pub record IsFollowed (old : HubState) (events : List HubEvent) (replies : List HubReply) (new : HubState) : Type 0 where
  pub episodes : List Episode
  pub came : map (λ e. e.event) episodes ≡ events
  pub replied : map (λ e. e.reply) episodes ≡ replies
  pub follows : Follows old episodes new

-- One of these events is refused for this reason, after those before it led to `hub`.
pub record IsRefused (old : HubState) (events : List HubEvent) (why : HubRefusal) : Type 0 where
  pub before : List HubEvent
  pub event : HubEvent
  pub behind : List HubEvent
  pub all : before ++ event ∷ behind ≡ events
  pub replies : List HubReply
  pub hub : HubState
  pub followed : IsFollowed old before replies hub
  pub refused : event_refusal event hub ≡ Some why
