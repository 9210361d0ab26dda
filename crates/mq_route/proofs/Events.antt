-- Events keep the invariants of sessions and connections.
use Rattle.std.proofs.Common.{◌≡◌, Bool, true, false, cond, [], Option, Some, None, refl, sym, ap, subst, ◌∙◌}
use Rattle.mq_route.specs.declared.conn.Conn.{Conn}
use Rattle.mq_route.specs.declared.config.HubConfig.{HubConfig}
use Rattle.mq_route.specs.declared.close.HubClose.TheVariants.{PeerEnded}
use Rattle.mq_route.specs.declared.event.HubEvent.{HubEvent}
use Rattle.mq_route.specs.declared.event.HubEvent.TheVariants.{Opened, Bytes, Ended, Tick, Collect}
use Rattle.mq_route.specs.declared.reply.HubReply.{HubReply}
use Rattle.mq_route.specs.declared.refusal.HubRefusal.TheVariants as refusals
use Rattle.mq_route.specs.declared.connection_state.ConnectionState.{ConnectionState}
use Rattle.mq_route.specs.declared.connection_state.ConnectionState.TheVariants.{AwaitingConnect, ConnectedAs, Closed}
use Rattle.mq_route.specs.Hub.{HubState, HubConnection, new_hub, knows, stage_of, changed, without_connection, is_open, end_of}
use Rattle.mq_route.specs.Work.{Work, with_connections}
use Rattle.mq_route.specs.Step.{Does, event_refusal, on_open, on_collect, close_if_open}
use Rattle.mq_route.proofs.Lines.{Names, Ups, names_changed, ups_changed}
use Rattle.mq_route.proofs.Uppers.{IsIdle, apart_opened, upper_opened, apart_without, upper_without}
use Rattle.mq_route.proofs.Sessions.{has}
use Rattle.mq_route.proofs.Changes.{Sound, Tied, mapped}
use Rattle.mq_route.proofs.Frames.{closed_shut}

pub sound_new : (config : HubConfig) → Sound (new_hub config)
sound_new config = record { apart = tt; keyless = λ c le. refl; tied = λ c. refl }

-- a consequence of no refusal
pub not_known : (k : Conn) (h : HubState) → event_refusal (Opened k) h ≡ None → knows k h.connections ≡ false
not_known k h e = go (knows k h.connections) e
  where
    go : (b : Bool) → cond b (Some refusals.ConnInUse) None ≡ None → b ≡ false
    go true e = absurd cc
    go false e = refl

pub sound_opened : (k : Conn) (h : HubState) → knows k h.connections ≡ false → Sound h → Sound (on_open k h)
sound_opened k h none s = record {
  apart = apart_opened k h.clock h.connections none s.apart;
  keyless = s.keyless;
  tied = λ c. subst (λ (o : Option (Conn × Bool)). Tied o (has c h.sessions) (end_of c h.sessions)) (sym (upper_opened k h.clock c h.connections)) (s.tied c);
}

-- a connection whose output is taken
abbrev pub emptied : HubConnection → HubConnection
emptied x = record x { waiting = [] }

pub emptied_names : Names emptied
emptied_names x = refl

pub emptied_ups : Ups emptied
emptied_ups x = (λ c. refl, refl)

pub sound_collected : (k : Conn) (h : HubState) → Sound h → Sound (on_collect k h)
sound_collected k h s = mapped (changed emptied k) h.connections h.next_key h.sessions (names_changed emptied k emptied_names) (ups_changed emptied k emptied_ups) s

pub sound_without : (k : Conn) (w : Work) → IsIdle (stage_of k w.hub.connections) → Sound w.hub → Sound (with_connections (without_connection k) w).hub
sound_without k w free s = record {
  apart = apart_without k w.hub.connections s.apart;
  keyless = s.keyless;
  tied = λ c. subst (λ (o : Option (Conn × Bool)). Tied o (has c w.hub.sessions) (end_of c w.hub.sessions)) (sym (upper_without k w.hub.connections s.apart free c)) (s.tied c);
}

-- a connection that ended has no client
pub ended_idle : (k : Conn) (fits : Bool) (w : Work) → IsIdle (stage_of k (close_if_open k (is_open (stage_of k w.hub.connections)) fits w).hub.connections)
ended_idle k fits w = go (stage_of k w.hub.connections) refl
  where
    go : (s : ConnectionState) → stage_of k w.hub.connections ≡ s → IsIdle (stage_of k (close_if_open k (is_open s) fits w).hub.connections)
    go AwaitingConnect e = subst IsIdle (sym (closed_shut k PeerEnded fits w)) (λ c. refl)
    go (ConnectedAs key terms last_activity) e = subst IsIdle (sym (closed_shut k PeerEnded fits w)) (λ c. refl)
    go Closed e = subst IsIdle (sym e) (λ c. refl)

-- the acts of the reply are those of the step
pub acts_are : (h : HubState) (e : HubEvent) (r : HubReply) (w : Work) → Does h e r w → r.acts ≡ w.did
acts_are h (Opened k) r w d = ap (λ (r : HubReply). r.acts) d.1
acts_are h (Bytes k piece) r w d = ap (λ (r : HubReply). r.acts) d.1
acts_are h (Ended k) r w d = ap (λ (r : HubReply). r.acts) d.2
acts_are h (Tick now) r w d = ap (λ (r : HubReply). r.acts) d.1
acts_are h (Collect k) r w d = ap (λ (r : HubReply). r.acts) d.1 ∙ sym (ap (λ (w : Work). w.did) d.0)
