-- Events of a broker, one after another.
use Rattle.std.proofs.Common.{◌≡◌, ◌<◌, ◌⊎◌, ℕ, zero, suc, List, [], ◌∷◌, ◌++◌, length, map, take, drop, get_or, Option, Some, None, Result, Ok, Err, inl, inr, refl, sym, ap, subst, ◌∙◌, arith}
use Rattle.std.specs.List.{flat_map}
use Rattle.std.specs.Option.{IfSome}
use Rattle.std.specs.Result.{IfOk, IfErr}
use Rattle.mq_flow.specs.Receiver.{none_received}
use Rattle.mq_route.specs.declared.act.Act.{Act}
use Rattle.mq_route.specs.declared.config.HubConfig.{HubConfig}
use Rattle.mq_route.specs.declared.event.HubEvent.{HubEvent}
use Rattle.mq_route.specs.declared.refusal.HubRefusal.{HubRefusal}
use Rattle.mq_route.specs.declared.refusal.HubRefusal.TheVariants as refusals
use Rattle.mq_route.specs.declared.reply.HubReply.{HubReply}
use Rattle.mq_route.specs.declared.trace.ClientLog.{ClientLog}
use Rattle.mq_route.specs.declared.trace.HubTrace.{HubTrace}
use Rattle.mq_route.specs.Hub.{HubState, new_hub}
use Rattle.mq_route.specs.Laws.{RoutingLaws, TakingLaws}
use Rattle.mq_route.specs.declared.config.WhenFull.TheVariants.{ClosePublisher}
use Rattle.mq_route.specs.Routed.{placed, routed, settled, taken}
use Rattle.mq_route.specs.Runs.{AreAccounts, Episode, Follows, IsRun, acts_of, came_in}
use Rattle.mq_route.specs.Step.{Does, HubStep, event_refusal}
use Rattle.mq_route.specs.Taken.{handed_from, of_client}
use Rattle.mq_hub.specs.Run.{IsFollowed, IsRefused, acts_in}

-- ---- one event after another

map_last : {X Y : Type 0} (f : X → Y) (xs : List X) (x : X) → map f (xs ++ x ∷ []) ≡ map f xs ++ f x ∷ []
map_last f [] x = refl
map_last {X} {Y} f (y ∷ xs) x = ap (λ (zs : List Y). f y ∷ zs) (map_last f xs x)

follows_last : (h mid g : HubState) (es : List Episode) (e : Episode) → Follows h es mid → event_refusal e.event mid ≡ None → Does mid e.event e.reply e.work
    → g ≡ e.work.hub → Follows h (es ++ e ∷ []) g
follows_last h mid g [] e f right does after =
    (subst (λ (b : HubState). event_refusal e.event b ≡ None) f right, subst (λ (b : HubState). Does b e.event e.reply e.work) f does, after)
follows_last h mid g (x ∷ es) e f right does after = (f.0, f.1, follows_last x.work.hub mid g es e f.2 right does after)

pub followed_last : (h mid g : HubState) (events : List HubEvent) (replies : List HubReply) (event : HubEvent) (reply : HubReply) → IsFollowed h events replies mid
    → HubStep mid event reply g → IsFollowed h (events ++ event ∷ []) (replies ++ reply ∷ []) g
followed_last h mid g events replies event reply p step =
    let e : Episode = record { event = event; reply = reply; work = step.work } in
    record {
      episodes = p.episodes ++ e ∷ [];
      came = map_last (λ (x : Episode). x.event) p.episodes e ∙ ap (λ (es : List HubEvent). es ++ event ∷ []) p.came;
      replied = map_last (λ (x : Episode). x.reply) p.episodes e ∙ ap (λ (rs : List HubReply). rs ++ reply ∷ []) p.replied;
      follows = follows_last h mid g p.episodes e p.follows step.right step.does step.after;
    }

pub followed_so : (h g : HubState) (events es : List HubEvent) (replies rs : List HubReply) → events ≡ es → replies ≡ rs → IsFollowed h es rs g
    → IsFollowed h events replies g
followed_so h g events es replies rs came replied p =
    record { episodes = p.episodes; came = p.came ∙ sym came; replied = p.replied ∙ sym replied; follows = p.follows }

-- ---- refusals

front_back : {X : Type 0} (xs : List X) (i : ℕ) (x : X) → i < length xs → x ≡ get_or xs i x → take i xs ++ x ∷ drop (suc i) xs ≡ xs
front_back [] i x within is = absurd (omega (arith, within))
front_back {X} (y ∷ xs) zero x within is = ap (λ (z : X). z ∷ xs) is
front_back {X} (y ∷ xs) (suc i) x within is = ap (λ (zs : List X). y ∷ zs) (front_back xs i x (omega (arith, within)) is)

pub stopped : (h mid : HubState) (events : List HubEvent) (i : ℕ) (event : HubEvent) (replies : List HubReply) (r : Result HubReply HubRefusal) (why : HubRefusal)
    → i < length events → event ≡ get_or events i event → IsFollowed h (take i events) replies mid → r ≡ Err why
    → IfSome (event_refusal event mid) (λ w. r ≡ Err w) → (event_refusal event mid ≡ None → IfErr r (λ w. w ≡ refusals.Memory))
    → (why ≡ refusals.Memory) ⊎ IsRefused h events why
stopped h mid events i event replies r why within there followed is refused memory = go (event_refusal event mid) refl refused memory
  where
    go : (o : Option HubRefusal) → event_refusal event mid ≡ o → IfSome o (λ w. r ≡ Err w) → (o ≡ None → IfErr r (λ w. w ≡ refusals.Memory))
        → (why ≡ refusals.Memory) ⊎ IsRefused h events why
    go None e says none = inl (subst (λ (x : Result HubReply HubRefusal). IfErr x (λ w. w ≡ refusals.Memory)) is (none refl))
    go (Some w) e says none =
        let both : ◌≡◌ {A = Result HubReply HubRefusal} (Err w) (Err why) = sym says ∙ is in
        let same : w ≡ why = cc in
        inr (record {
          before = take i events;
          event = event;
          behind = drop (suc i) events;
          all = front_back events i event within there;
          replies = replies;
          hub = mid;
          followed = followed;
          refused = e ∙ ap Some same;
        })

pub stopped_so : (h new : HubState) (events : List HubEvent) (why : HubRefusal) → h ≡ new → (why ≡ refusals.Memory) ⊎ IsRefused h events why
    → (why ≡ refusals.Memory) ⊎ IsRefused new events why
stopped_so h new events why is p = subst (λ (b : HubState). (why ≡ refusals.Memory) ⊎ IsRefused b events why) is p

-- ---- the run

acts_replied : (es : List Episode) → flat_map (λ (r : HubReply). r.acts) (map (λ (e : Episode). e.reply) es) ≡ acts_of es
acts_replied [] = refl
acts_replied (e ∷ es) = ap (λ (more : List Act). e.reply.acts ++ more) (acts_replied es)

module _ (config : HubConfig) (events : List HubEvent) (hub : HubState) (trace : HubTrace) (run : IsRun config events hub trace) where
  acts_traced : acts_of run.episodes ≡ acts_in trace
  acts_traced = sym (acts_replied run.episodes) ∙ ap (λ (rs : List HubReply). flat_map (λ (r : HubReply). r.acts) rs) run.replied

  pub run_settles : RoutingLaws → (c : ℕ) → settled c (acts_in trace) ≡ routed c (acts_in trace)
  run_settles laws c = subst (λ (log : List Act). settled c log ≡ routed c log) acts_traced (laws.settled_is_routed config run.episodes hub run.follows c)

  pub run_routes : RoutingLaws → config.when_full ≡ ClosePublisher → config.most_waiting ≡ None → (c : ℕ) → placed c (acts_in trace) ≡ routed c (acts_in trace)
  run_routes laws closes unlimited c = subst (λ (log : List Act). placed c log ≡ routed c log) acts_traced (laws.placed_is_routed config closes unlimited run.episodes hub run.follows c)

  pub run_takes : TakingLaws → (c : ℕ) → taken c (acts_in trace) ≡ handed_from none_received (of_client c (came_in run.episodes))
  run_takes laws c = ap (taken c) (sym acts_traced) ∙ laws.taken_is_handed config run.episodes hub run.follows c

pub run_is : (config : HubConfig) (first hub : HubState) (events : List HubEvent) (replies : List HubReply) (accounts : List ClientLog) (trace : HubTrace)
    → first ≡ new_hub config → IsFollowed first events replies hub → length accounts ≡ hub.next_key
    → AreAccounts 0 (flat_map (λ r. r.acts) replies) accounts → trace.replies ≡ replies → trace.accounts ≡ accounts → IsRun config events hub trace
run_is config first hub events replies accounts trace new p keys are said told = record {
  episodes = p.episodes;
  came = p.came;
  replied = p.replied ∙ sym said;
  follows = subst (λ (b : HubState). Follows b p.episodes hub) new p.follows;
  keys = ap length told ∙ keys;
  accounts =
      subst (λ (log : List Act). AreAccounts 0 log trace.accounts) (acts_replied p.episodes)
      (subst (λ (rs : List HubReply). AreAccounts 0 (flat_map (λ r. r.acts) rs) trace.accounts) (sym p.replied)
      (subst (AreAccounts 0 (flat_map (λ r. r.acts) replies)) (sym told) are));
}

-- ---- a value and its result

-- a fact of the value and the result made with it is a fact of the pair
pub pair_gives : {A U E : Type 0} (made : Result U E) (r : Result (A × U) E) (value : A) (P : A × U → Type 0) → IfOk made (λ m. r ≡ Ok (value, m)) → IfErr made (λ e. r ≡ Err e)
    → IfOk made (λ m. P (value, m)) → IfOk r P
pair_gives (Ok m) r value P ok err holds = subst (λ s. IfOk s P) (sym ok) holds
pair_gives (Err e) r value P ok err holds = subst (λ s. IfOk s P) (sym err) tt
