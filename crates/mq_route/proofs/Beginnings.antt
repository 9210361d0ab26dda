-- Runs that begin with a broker that had a run before.
use Rattle.std.proofs.Common.{◌≡◌, ◌<◌, ◌≤◌, ℕ, Bool, true, false, cond, List, [], ◌∷◌, fold, Some, None, refl, sym, ap, subst, ◌∙◌, eqb, eqb-true, arith}
use Rattle.std.specs.List.{AllByRecursion}
use Rattle.mq_topic.specs.StoreLaws.{StoreLaws}
use Rattle.mq_route.specs.declared.act.Act.{Act}
use Rattle.mq_route.specs.declared.act.Act.TheVariants as acts
use Rattle.mq_route.specs.Begun.{BegunLaws, MayBegin, view_of}
use Rattle.mq_route.specs.Hub.{HubConnection, HubSession, HubState, end_of, up_on}
use Rattle.mq_route.specs.Routed.{Seen, nothing_seen, seen, seen_after, unless_on}
use Rattle.mq_route.specs.Runs.{acts_of}
use Rattle.mq_route.proofs.Changes.{Sound, Tied}
use Rattle.mq_route.proofs.Clients.{connected}
use Rattle.mq_route.proofs.Lines.{upper}
use Rattle.mq_route.proofs.Output.{sound_run}
use Rattle.mq_route.proofs.Reaching.{others}
use Rattle.mq_route.proofs.Routing.{settles_since, up_since}
use Rattle.mq_route.proofs.Sessions.{has}
use Rattle.mq_route.proofs.Uppers.{Apart}

-- ---- the broker

keyless : (next c : ℕ) (ss : List HubSession) → AllByRecursion (λ s. s.key < next) ss → next ≤ c → has c ss ≡ false
keyless next c [] below le = refl
keyless next c (s ∷ ss) below le = go (eqb s.key c) refl (keyless next c ss below.1 le)
  where
    go : (b : Bool) → eqb s.key c ≡ b → has c ss ≡ false → cond b true (has c ss) ≡ false
    go true same rest = let is : s.key ≡ c = eqb-true s.key c same in let low : s.key < next = below.0 in absurd (omega arith)
    go false other rest = rest

lasting : (c : ℕ) (ss : List HubSession) → AllByRecursion (λ s. s.end.clean ≡ false) ss → (end_of c ss).clean ≡ false
lasting c [] all = refl
lasting c (s ∷ ss) all = go (eqb s.key c) (lasting c ss all.1)
  where
    go : (b : Bool) → (end_of c ss).clean ≡ false → (cond b s.end (end_of c ss)).clean ≡ false
    go true rest = all.0
    go false rest = rest

pub sound_begun : (h : HubState) → MayBegin h → Sound h
sound_begun h may = record {
  apart = subst (λ (xs : List HubConnection). Apart xs) (sym may.none) tt;
  keyless = λ c le. keyless h.next_key c h.sessions may.keys le;
  tied = λ c. subst (λ (xs : List HubConnection). Tied (upper c xs) (has c h.sessions) (end_of c h.sessions)) (sym may.none) (lasting c h.sessions may.lasting);
}

-- ---- the connection of a client, by the acts

up_next : (c : ℕ) (s t : Seen) (act : Act) → s.up ≡ t.up → (seen_after c s act).up ≡ (seen_after c t act).up
unfolding seen_after
up_next c s t (acts.Up conn other present) same = go (eqb other c)
  where
    go : (b : Bool) → (cond b (record s { up = Some conn }) s).up ≡ (cond b (record t { up = Some conn }) t).up
    go true = refl
    go false = same
up_next c s t (acts.Closed conn why) same = ap (unless_on conn) same
up_next c s t (acts.Subscribed other topic_filter qos) same = same
up_next c s t (acts.Unsubscribed other topic_filter) same = same
up_next c s t (acts.Removed other) same = same
up_next c s t (acts.Took publisher message) same = same
up_next c s t (acts.Will publisher message) same = same
up_next c s t (acts.Placed other message) same = same
up_next c s t (acts.Missed other message) same = same
up_next c s t (acts.WillDropped other) same = same

up_same : (c : ℕ) (s t : Seen) (log : List Act) → s.up ≡ t.up → (fold (seen_after c) s log).up ≡ (fold (seen_after c) t log).up
up_same c s t [] same = same
up_same c s t (act ∷ log) same = up_same c (seen_after c s act) (seen_after c t act) log (up_next c s t act same)

none_up : (c : ℕ) (h : HubState) → MayBegin h → None ≡ up_on c h.connections
none_up c h may = sym (ap (λ (xs : List HubConnection). up_on c xs) may.none)

-- ---- laws

pub laws : StoreLaws → BegunLaws
laws store = record {
  new = λ config. record { none = refl; keys = tt; lasting = tt };
  connected_is_seen = λ begun may es h f c k.
      let s = sound_begun begun may in
      connected c k h.connections (sound_run es begun h f s).apart (seen c (acts_of es)).up
      (up_same c nothing_seen (view_of c begun) (acts_of es) (none_up c begun may) ∙ up_since store begun es h f s c);
  settled_is_routed = λ begun may es h f c. settles_since store begun es h f (sound_begun begun may) c;
  others_unchanged = λ begun may before h f e r h2 step k other none. others k h e r h2 step (sound_run before begun h f (sound_begun begun may)) other none;
}
