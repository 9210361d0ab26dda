-- A tick closes the connections that wait for CONNECT for too long, and no other event does.
use Rattle.std.proofs.Common.{◌≡◌, inl, ℕ, Bool, true, false, ◌&&◌, cond, List, [], ◌∷◌, ◌++◌, map, filter, max, Option, Some, None, refl, sym, ap, ◌∙◌, append_assoc, append-nil}
use Rattle.mq_end.specs.KeepAlive.{is_late}
use Rattle.mq_end.specs.declared.reason.CloseReason.TheVariants as reasons
use Rattle.mq_route.specs.declared.close.HubClose.{HubClose}
use Rattle.mq_route.specs.declared.close.HubClose.TheVariants.{Own, NoConnect}
use Rattle.mq_route.specs.declared.conn.Conn.{Conn}
use Rattle.mq_route.specs.declared.event.HubEvent.{HubEvent}
use Rattle.mq_route.specs.declared.event.HubEvent.TheVariants.{Opened, Bytes, Ended, Tick, Collect}
use Rattle.mq_route.specs.declared.reply.HubReply.{HubReply}
use Rattle.mq_route.specs.declared.connection_state.ConnectionState.{ConnectionState}
use Rattle.mq_route.specs.declared.connection_state.ConnectionState.TheVariants.{AwaitingConnect, ConnectedAs, Closed}
use Rattle.mq_route.specs.Hub.{HubState, HubConnection, new_hub, stage_of, is_open, held_on}
use Rattle.mq_route.specs.Work.{Work, begin, close}
use Rattle.mq_route.specs.Step.{holding, OnTick, Done, InTime, Late, has_passed, late_reason, Does, expire, with_clock}
use Rattle.mq_route.specs.Silent.{if_silent, silent_closes, awaits_connect, silent, due_closes, SilentLaws}
use Rattle.mq_route.proofs.Changes.{Anywhere, anywhere, Ways, Sound}
use Rattle.mq_route.proofs.Closings.{May, Few, inner, outer, only, close_adds}
use Rattle.mq_route.proofs.Closings as closings
use Rattle.mq_route.proofs.Steps.{comes_both, holding_both, expire_both, ended_both}
use Rattle.mq_route.proofs.Events.{sound_new}
use Rattle.mq_route.proofs.Output.{sound_run}

-- no cause is needed for a close for another reason
ways : Ways (May if_silent ⊥)
ways = closings.ways if_silent ⊥ (λ reason k. refl) (λ k. refl) (λ k. refl)

-- ---- ticks

abbrev named : Option HubClose → Conn → List Conn
named None k = []
named (Some why) k = if_silent why k

-- the first of these connections
one : (within : Option ℕ) (now : ℕ) (x : HubConnection) (xs : List HubConnection) (o : Option HubClose) → late_reason within now x.since x.stage ≡ o
    → silent within now (x ∷ xs) ≡ named o x.conn ++ silent within now xs
one within now x xs o is = go x.stage ∙ ap (λ (o : Option HubClose). named o x.conn ++ silent within now xs) is
  where
    later : List HubConnection
    later = filter (λ x. awaits_connect x.stage && has_passed within x.since now) xs

    waits : (b : Bool) → map (λ (x : HubConnection). x.conn) (cond b (x ∷ later) later) ≡ named (cond b (Some NoConnect) None) x.conn ++ map (λ (x : HubConnection). x.conn) later
    waits true = refl
    waits false = refl

    alive : (b : Bool) → map (λ (x : HubConnection). x.conn) later ≡ named (cond b (Some (Own reasons.KeepAlive)) None) x.conn ++ map (λ (x : HubConnection). x.conn) later
    alive true = refl
    alive false = refl

    go : (s : ConnectionState) → map (λ (x : HubConnection). x.conn) (cond (awaits_connect s && has_passed within x.since now) (x ∷ later) later)
        ≡ named (late_reason within now x.since s) x.conn ++ map (λ (x : HubConnection). x.conn) later
    go AwaitingConnect = waits (has_passed within x.since now)
    go (ConnectedAs key terms last_activity) = alive (is_late last_activity terms.keep_alive now)
    go Closed = refl

ticks : (within : Option ℕ) (now : ℕ) (xs : List HubConnection) (w w2 : Work) → OnTick within now xs w w2 → silent_closes w2.did ≡ silent_closes w.did ++ silent within now xs
ticks within now xs w w2 (Done v) = sym (append-nil (silent_closes v.did))
ticks within now xs w w2 (InTime x ys v v2 soon later) =
    ticks within now ys v v2 later ∙ ap (λ (l : List Conn). silent_closes v.did ++ l) (sym (one within now x ys None soon))
ticks within now xs w w2 (Late x ys why fits v v2 late later) =
    ticks within now ys (close x.conn why fits v) v2 later
    ∙ ap (λ (l : List Conn). l ++ silent within now ys) (close_adds if_silent x.conn why fits v)
    ∙ append_assoc (silent_closes v.did) (if_silent why x.conn) (silent within now ys)
    ∙ ap (λ (l : List Conn). silent_closes v.did ++ l) (sym (one within now x ys (Some why) late))

-- ---- events

event : (h : HubState) (e : HubEvent) (r : HubReply) (w : Work) → Does h e r w → Sound h → silent_closes w.did ≡ due_closes e h
event h (Opened k) r w d s = ap (λ (w : Work). silent_closes w.did) d.0
event h (Bytes k piece) r w d s =
    let start = holding_both (Few if_silent [] ⊥) (May if_silent ⊥) Anywhere (inner if_silent [] ⊥) (outer if_silent [] ⊥) ways anywhere k [] (begin h) (λ r. r) (s, inl refl) in
    only (comes_both (Few if_silent [] ⊥) (May if_silent ⊥) Anywhere (inner if_silent [] ⊥) (outer if_silent [] ⊥) ways anywhere (λ fits w. tt) (inl (λ k. refl), inl (λ k. refl)) h.config.limits k tt (λ b v r. r) (held_on k h.connections ++ piece) (holding k [] (begin h)) w d.0 start).1
event h (Ended k) r w d s =
    ap (λ (w : Work). silent_closes w.did) d.1
    ∙ only (ended_both (Few if_silent [] ⊥) (May if_silent ⊥) Anywhere (inner if_silent [] ⊥) (outer if_silent [] ⊥) ways anywhere k (is_open (stage_of k h.connections)) d.0 (begin h) tt (s, inl refl)).1
event h (Tick now) r w d s =
    ticks h.config.connect_within (max h.clock now) h.connections (expire (with_clock now h)) w d.0
    ∙ ap (λ (l : List Conn). l ++ silent h.config.connect_within (max h.clock now) h.connections)
    (only (expire_both (Few if_silent [] ⊥) (May if_silent ⊥) Anywhere (inner if_silent [] ⊥) (outer if_silent [] ⊥) ways anywhere (with_clock now h) (s, inl refl)).1)
event h (Collect k) r w d s = ap (λ (w : Work). silent_closes w.did) d.0

pub laws : SilentLaws
laws = record { closes = λ config before h f e r w right d. event h e r w d (sound_run before (new_hub config) h f (sound_new config)) }
