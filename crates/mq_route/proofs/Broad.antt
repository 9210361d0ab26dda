-- A connection closes for a SUBSCRIBE that is too broad only at that SUBSCRIBE.
use Rattle.std.proofs.Common.{◌≡◌, ◌⊎◌, inl, inr, ℕ, ◌≤◌, ◌*◌, Bool, true, false, not, List, [], ◌∷◌, ◌++◌, length, map, filter, Option, Some, None, refl, sym, ap, subst, ◌∙◌, true≢false, arith}
use Rattle.std.proofs.lemmas.Bool.{cond_both}
use Rattle.std.proofs.lemmas.List.{length-append, length-map}
use Rattle.mq_flow.proofs.Counting.{filter_le}
use Rattle.mq_topic.specs.Matching.{is_match}
use Rattle.mq_packet.specs.declared.message.Message.{Message}
use Rattle.mq_packet.specs.declared.packet.Packet.{Packet}
use Rattle.mq_packet.specs.declared.packet.Packet.TheVariants as packets
use Rattle.mq_packet.specs.declared.packet.Request.{Request}
use Rattle.mq_decode.specs.Limits.{Bounds}
use Rattle.mq_end.specs.declared.reason.CloseReason.TheVariants as reasons
use Rattle.mq_route.specs.declared.close.HubClose.TheVariants.{Own, TooManyMatches}
use Rattle.mq_route.specs.declared.config.HubConfig.{HubConfig}
use Rattle.mq_route.specs.declared.conn.Conn.{Conn}
use Rattle.mq_route.specs.declared.event.HubEvent.{HubEvent}
use Rattle.mq_route.specs.declared.event.HubEvent.TheVariants.{Opened, Bytes, Ended, Tick, Collect}
use Rattle.mq_route.specs.declared.reply.HubReply.{HubReply}
use Rattle.mq_route.specs.declared.connection_state.ConnectionState.{ConnectionState}
use Rattle.mq_route.specs.declared.connection_state.ConnectionState.TheVariants.{AwaitingConnect, ConnectedAs, Closed}
use Rattle.mq_route.specs.Copies.{copy, retained_for}
use Rattle.mq_route.specs.Hub.{HubState, new_hub, stage_of, is_open, key_on, held_on, for_key}
use Rattle.mq_route.specs.Work.{Work, begin, leaves, retained_copies, close}
use Rattle.mq_route.specs.Arrives.{Growth, is_too_broad, on_passed_packet, touched, touched_on, dispatch_packet, arrives, on_packet}
use Rattle.mq_route.specs.Step.{holding, OnBytes, Arrives, Waits, Breaks, Starves, LetsGo, Does, with_clock}
use Rattle.mq_route.specs.Broad.{if_broad, broad_closes, IsTooBroad, ComesTooBroad, IsBroadEvent, BroadLaws}
use Rattle.mq_route.proofs.Changes.{Anywhere, anywhere, Freely, freely, Ways, Sound}
use Rattle.mq_route.proofs.Closings.{May, Few, inner, outer, only, close_adds}
use Rattle.mq_route.proofs.Closings as closings
use Rattle.mq_route.proofs.Frames.{closed_shut}
use Rattle.mq_route.proofs.Steps.{stage_heard, takes_both, breaks_both, holding_both, tick_both, ended_both}
use Rattle.mq_route.proofs.Events.{sound_new}
use Rattle.mq_route.proofs.Filling.{key_touched, lets_go}
use Rattle.mq_route.proofs.Output.{sound_run}
use Rattle.mq_route.proofs.Reading as reading

-- no cause is needed for a close for another reason
ways : (X : Type 0) → Ways (May if_broad X)
ways X = closings.ways if_broad X (λ reason k. refl) (λ k. refl) (λ k. refl)

-- ---- a packet that is too broad

-- a packet on a connected connection is too broad
record IsBroad (k : Conn) (p : Packet) (w : Work) : Type 0 where
  pub key : ℕ
  pub up : key_on (stage_of k w.hub.connections) ≡ Some key
  pub broad : is_too_broad p w.hub ≡ true

-- a packet closes no connection for this reason, or its own
abbrev Leaves : Conn → Work → Type 0
Leaves k w = (broad_closes w.did ≡ []) ⊎ ((broad_closes w.did ≡ k ∷ []) × (stage_of k w.hub.connections ≡ Closed))

dispatch_broad : (k : Conn) (p : Packet) (fits : Bool) (s : ConnectionState) (now : ℕ) (w : Work) → broad_closes w.did ≡ [] → (x : IsBroad k p w) → key_on (touched now s) ≡ Some x.key
    → Leaves k (dispatch_packet k p fits s w)
unfolding dispatch_packet
dispatch_broad k p fits AwaitingConnect now w none x e = absurd cc
dispatch_broad k p fits (ConnectedAs key terms last_activity) now w none x e =
    cond_both (is_too_broad p w.hub) (close k TooManyMatches fits w) (on_passed_packet k key p fits w) (Leaves k)
    (λ broad. inr (close_adds if_broad k TooManyMatches fits w ∙ ap (λ (l : List Conn). l ++ k ∷ []) none, closed_shut k TooManyMatches fits w))
    (λ narrow. absurd (true≢false (sym x.broad ∙ narrow)))
dispatch_broad k p fits Closed now w none x e = absurd cc

takes_broad : (k : Conn) (p : Packet) (g : Growth) (w : Work) → broad_closes w.did ≡ [] → IsBroad k p (touched_on k w) → Leaves k (on_packet k p g w)
unfolding on_packet arrives
takes_broad k p g w none x =
    cond_both g.fits (dispatch_packet k p g.will_fits (stage_of k w.hub.connections) (touched_on k w)) (close k (Own reasons.Memory) g.will_fits w) (Leaves k)
    (λ fits. dispatch_broad k p g.will_fits (stage_of k w.hub.connections) w.hub.clock (touched_on k w) none x (ap key_on (sym (stage_heard k w)) ∙ x.up))
    (λ starved. inl (close_adds if_broad k (Own reasons.Memory) g.will_fits w ∙ ap (λ (l : List Conn). l ++ []) none))

-- the time of activity doesn't matter
broad_touched : (p : Packet) (k : Conn) (w : Work) → is_too_broad p (touched_on k w).hub ≡ is_too_broad p w.hub
broad_touched (packets.Subscribe i requests) k w = refl
broad_touched p k w = refl

too_broad : (k : Conn) (p : Packet) (g : Growth) (w : Work) → IsBroad k p (touched_on k w) → broad_closes w.did ≡ [] → broad_closes (on_packet k p g w).did ≡ k ∷ [] → IsTooBroad k p g w
too_broad k p g w x none closes = record {
  key = x.key;
  connected = sym (key_touched w.hub.clock (stage_of k w.hub.connections)) ∙ ap key_on (sym (stage_heard k w)) ∙ x.up;
  broad = sym (broad_touched p k w) ∙ x.broad;
  none_before = none;
  closes = closes;
}

-- ---- the bytes of an event

few_comes : (limits : Bounds) (k : Conn) (b : List ℕ) (w w2 : Work) (c : OnBytes limits k b w w2) → Sound w.hub → broad_closes w.did ≡ []
    → (broad_closes w2.did ≡ []) ⊎ ((broad_closes w2.did ≡ k ∷ []) × ComesTooBroad limits k b w w2 c)
few_comes limits k b w w2 (Arrives p first rest g v v2 on reads more) s none =
    let X : Type 0 = IsBroad k p (touched_on k v) in
    let t = takes_both (Few if_broad [] X) (May if_broad X) Anywhere (inner if_broad [] X) (outer if_broad [] X) (ways X) anywhere k p g v tt tt
    ((λ key up state short. inl (λ k. refl)), (λ key up broad. inr (record { key = key; up = up; broad = broad }))) (s, inl none) in
    go t.1 (λ none. few_comes limits k rest (on_packet k p g v) v2 more t.0 none)
  where
    now : Work
    now = on_packet k p g v

    Ends : Type 0
    Ends = (broad_closes v2.did ≡ []) ⊎ ((broad_closes v2.did ≡ k ∷ []) × (IsTooBroad k p g v ⊎ ComesTooBroad limits k rest now v2 more))

    More : Type 0
    More = (broad_closes v2.did ≡ []) ⊎ ((broad_closes v2.did ≡ k ∷ []) × ComesTooBroad limits k rest now v2 more)

    later : More → Ends
    later (inl e) = inl e
    later (inr x) = inr (x.0, inr x.1)

    here : IsBroad k p (touched_on k v) → Leaves k now → (broad_closes now.did ≡ [] → More) → Ends
    here x (inl e) ih = later (ih e)
    here x (inr e) ih = inr (ap (λ (w : Work). broad_closes w.did) (lets_go limits k rest now v2 more e.1) ∙ e.0, inl (too_broad k p g v x none e.0))

    go : (broad_closes now.did ≡ []) ⊎ IsBroad k p (touched_on k v) → (broad_closes now.did ≡ [] → More) → Ends
    go (inl e) ih = later (ih e)
    go (inr x) ih = here x (takes_broad k p g v none x) ih
few_comes limits k b w w2 (Waits c v on pending) s none = inl none
few_comes limits k b w w2 (Breaks c fault fits v on faulty) s none =
    inl (only (breaks_both (Few if_broad [] ⊥) (May if_broad ⊥) Anywhere (inner if_broad [] ⊥) (outer if_broad [] ⊥) (ways ⊥) anywhere k fault fits v tt tt (s, inl none)).1)
few_comes limits k b w w2 (Starves c fits v on some) s none = inl (close_adds if_broad k (Own reasons.Memory) fits v ∙ ap (λ (l : List Conn). l ++ []) none)
few_comes limits k b w w2 (LetsGo c v closed) s none = inl none

-- ---- events

few_event : (h : HubState) (e : HubEvent) (r : HubReply) (w : Work) (d : Does h e r w) → Sound h → (broad_closes w.did ≡ []) ⊎ IsBroadEvent h e r w d
few_event h (Opened k) r w d s = inl (ap (λ (w : Work). broad_closes w.did) d.0)
few_event h (Bytes k piece) r w d s =
    let start = holding_both (Few if_broad [] ⊥) (May if_broad ⊥) Anywhere (inner if_broad [] ⊥) (outer if_broad [] ⊥) (ways ⊥) anywhere k [] (begin h) (λ r. r) (s, inl refl) in
    few_comes h.config.limits k (held_on k h.connections ++ piece) (holding k [] (begin h)) w d.0 start.0 (only start.1)
few_event h (Ended k) r w d s =
    inl (ap (λ (w : Work). broad_closes w.did) d.1
    ∙ only (ended_both (Few if_broad [] ⊥) (May if_broad ⊥) Anywhere (inner if_broad [] ⊥) (outer if_broad [] ⊥) (ways ⊥) anywhere k (is_open (stage_of k h.connections)) d.0 (begin h) tt (s, inl refl)).1)
few_event h (Tick now) r w d s =
    inl (only (tick_both (Few if_broad [] ⊥) (May if_broad ⊥) Anywhere (inner if_broad [] ⊥) (outer if_broad [] ⊥) (ways ⊥) anywhere (λ fits w. tt) (inl (λ k. refl)) (with_clock now h) w d.0 (s, inl refl)).1)
few_event h (Collect k) r w d s = inl (ap (λ (w : Work). broad_closes w.did) d.0)

-- ---- without a limit

-- no packet is too broad
narrow : (p : Packet) (h : HubState) → h.config.most_matches ≡ None → is_too_broad p h ≡ false
narrow (packets.Subscribe i requests) h none = ap (λ (most : Option ℕ). not (leaves most 0 (length requests * length h.retained))) none
narrow p h none = refl

-- so none of these bytes is
none_comes : (limits : Bounds) (k : Conn) (b : List ℕ) (w w2 : Work) (c : OnBytes limits k b w w2) → Sound w.hub → w.hub.config.most_matches ≡ None → ComesTooBroad limits k b w w2 c → ⊥
none_comes limits k b w w2 (Arrives p first rest g v v2 on reads more) s none (inl x) = true≢false (sym x.broad ∙ narrow p v.hub none)
none_comes limits k b w w2 (Arrives p first rest g v v2 on reads more) s none (inr later) =
    let same = takes_both (reading.Same v.hub.config) Freely Anywhere (reading.same_inner v.hub.config) (reading.same_outer v.hub.config) freely anywhere k p g v tt tt ((λ key up state short. tt), (λ key up broad. tt)) (s, refl) in
    none_comes limits k rest (on_packet k p g v) v2 more same.0 (ap (λ (c : HubConfig). c.most_matches) same.1 ∙ none) later
none_comes limits k b w w2 (Waits c v on pending) s none x = x
none_comes limits k b w w2 (Breaks c fault fits v on faulty) s none x = x
none_comes limits k b w w2 (Starves c fits v on some) s none x = x
none_comes limits k b w w2 (LetsGo c v closed) s none x = x

never_event : (h : HubState) (e : HubEvent) (r : HubReply) (w : Work) (d : Does h e r w) → Sound h → h.config.most_matches ≡ None → (broad_closes w.did ≡ []) ⊎ IsBroadEvent h e r w d → broad_closes w.did ≡ []
never_event h e r w d s none (inl is) = is
never_event h (Bytes k piece) r w d s none (inr x) =
    let start = holding_both (reading.Same h.config) Freely Anywhere (reading.same_inner h.config) (reading.same_outer h.config) freely anywhere k [] (begin h) (λ r. r) (s, refl) in
    absurd (none_comes h.config.limits k (held_on k h.connections ++ piece) (holding k [] (begin h)) w d.0 start.0 none x.1)
never_event h (Opened k) r w d s none (inr x) = absurd x
never_event h (Ended k) r w d s none (inr x) = absurd x
never_event h (Tick now) r w d s none (inr x) = absurd x
never_event h (Collect k) r w d s none (inr x) = absurd x

-- ---- the number of retained messages that are sent

-- of one request
few_for : (key : ℕ) (r : Request) (ms : List Message) → length (for_key key (retained_for r.filter r.qos ms)) ≤ length ms
unfolding retained_for
few_for key r ms =
    let found : List Message = filter (λ (m : Message). is_match r.filter m.topic) ms in
    let same : length (for_key key (retained_for r.filter r.qos ms)) ≡ length found =
    length-map (map (copy r.qos true) found) (λ (m : Message). (key, m)) ∙ length-map found (copy r.qos true) in
    subst (λ (n : ℕ). n ≤ length ms) (sym same) (filter_le (λ (m : Message). is_match r.filter m.topic) ms)

few : (key : ℕ) (rs : List Request) (ms : List Message) → length (retained_copies key rs ms) ≤ length rs * length ms
few key [] ms = omega arith
few key (r ∷ rs) ms =
    let parts = length-append (for_key key (retained_for r.filter r.qos ms)) (retained_copies key rs ms) in
    let first = few_for key r ms in
    let ih = few key rs ms in
    omega arith

pub laws : BroadLaws
laws = record {
  closes = λ config before h f e r w right d. few_event h e r w d (sound_run before (new_hub config) h f (sound_new config));
  never = λ config none before h f e r w right d.
      let s = sound_run before (new_hub config) h f (sound_new config) in
      let same = reading.same_run before (new_hub config) h f (sound_new config) in
      never_event h e r w d s (ap (λ (c : HubConfig). c.most_matches) same ∙ none) (few_event h e r w d s);
  few = few;
}
