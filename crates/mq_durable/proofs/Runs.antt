-- Runs of a broker, one event after another.
use Rattle.std.proofs.Common.{◌≡◌, Bool, true, false, List, [], ◌∷◌, ◌++◌, map, refl, sym, ◌∙◌, ap, subst, ◌||◌, if◌then◌else◌}
use Rattle.std.proofs.lemmas.List.{map-append, append-nil}
use Rattle.std.proofs.lemmas.List.Elements.{filter-append}
use Rattle.std.specs.List.{list_any, filter}
use Rattle.mq_route.specs.declared.conn.Conn.{Conn}
use Rattle.mq_route.specs.declared.event.HubEvent.{HubEvent}
use Rattle.mq_route.specs.declared.event.HubEvent.TheVariants.{Collect}
use Rattle.mq_route.specs.declared.reply.HubReply.{HubReply}
use Rattle.mq_route.specs.Hub.{HubState}
use Rattle.mq_route.specs.Runs.{Episode, Follows}
use Rattle.mq_route.specs.Step.{HubStep}
use Rattle.mq_record.specs.Encoding.{is_recorded}
use Rattle.mq_durable.specs.Memory.{reports_memory}
use Rattle.mq_durable.specs.Replaying.{IsSound, Reaches, Replays}

abbrev pub episode_of : (h g : HubState) (event : HubEvent) (reply : HubReply) → HubStep h event reply g → Episode
episode_of h g event reply step = record { event = event; reply = reply; work = step.work }

follows_all : (h mid g : HubState) (es fs : List Episode) → Follows h es mid → Follows mid fs g → Follows h (es ++ fs) g
follows_all h mid g [] fs first more = subst (λ (b : HubState). Follows b fs g) first more
follows_all h mid g (e ∷ es) fs first more = (first.0, first.1, follows_all e.work.hub mid g es fs first.2 more)

one : (h g : HubState) (event : HubEvent) (reply : HubReply) (step : HubStep h event reply g) → Follows h (episode_of h g event reply step ∷ []) g
one h g event reply step = (step.right, step.does, step.after)

sound_all : (es fs : List Episode) → IsSound es → IsSound fs → IsSound (es ++ fs)
sound_all [] fs first more = more
sound_all (e ∷ es) fs first more = go (reports_memory e.reply) first (λ rest. sound_all es fs rest more)
  where
    go : (b : Bool) → (b || list_any (λ (x : Episode). reports_memory x.reply) es) ≡ false → (IsSound es → IsSound (es ++ fs)) → (b || list_any (λ (x : Episode). reports_memory x.reply) (es ++ fs)) ≡ false
    go true wrong behind = wrong
    go false rest behind = behind rest

-- ---- exactly these events

pub replays_none : (h : HubState) → Replays h [] h
replays_none h = record { episodes = []; came = refl; follows = refl; sound = refl }

pub replays_one : (h g : HubState) (event : HubEvent) (reply : HubReply) → HubStep h event reply g → reports_memory reply ≡ false → Replays h (event ∷ []) g
replays_one h g event reply step quiet = record {
  episodes = episode_of h g event reply step ∷ [];
  came = refl;
  follows = one h g event reply step;
  sound = ap (λ (b : Bool). b || false) quiet;
}

pub replays_all : (h mid g : HubState) (events more : List HubEvent) → Replays h events mid → Replays mid more g → Replays h (events ++ more) g
replays_all h mid g events more first second = record {
  episodes = first.episodes ++ second.episodes;
  came = map-append (λ (e : Episode). e.event) first.episodes second.episodes ∙ ap (λ (l : List HubEvent). l ++ map (λ (e : Episode). e.event) second.episodes) first.came
      ∙ ap (λ (l : List HubEvent). events ++ l) second.came;
  follows = follows_all h mid g first.episodes second.episodes first.follows second.follows;
  sound = sound_all first.episodes second.episodes first.sound second.sound;
}

-- ---- all but `Collect`

pub reaches_none : (h : HubState) → Reaches h [] h
reaches_none h = record { episodes = []; came = refl; follows = refl }

reaches_more : (h mid g : HubState) (events more : List HubEvent) (event : HubEvent) (reply : HubReply) → Reaches h events mid → HubStep mid event reply g
    → filter is_recorded (event ∷ []) ≡ more → Reaches h (events ++ more) g
reaches_more h mid g events more event reply first step kept =
    let last = episode_of mid g event reply step in
    record {
      episodes = first.episodes ++ last ∷ [];
      came = ap (λ (l : List HubEvent). filter is_recorded l) (map-append (λ (e : Episode). e.event) first.episodes (last ∷ []))
          ∙ filter-append is_recorded (map (λ (e : Episode). e.event) first.episodes) (event ∷ [])
          ∙ ap (λ (l : List HubEvent). l ++ filter is_recorded (event ∷ [])) first.came
          ∙ ap (λ (l : List HubEvent). events ++ l) kept;
      follows = follows_all h mid g first.episodes (last ∷ []) first.follows (one mid g event reply step);
    }

pub reaches_push : (h mid g : HubState) (events : List HubEvent) (event : HubEvent) (reply : HubReply) → Reaches h events mid → HubStep mid event reply g → is_recorded event ≡ true
    → Reaches h (events ++ event ∷ []) g
reaches_push h mid g events event reply first step recorded =
    reaches_more h mid g events (event ∷ []) event reply first step (ap (λ (b : Bool). if b then event ∷ [] else []) recorded)

pub reaches_collect : (h mid g : HubState) (events : List HubEvent) (conn : Conn) (reply : HubReply) → Reaches h events mid → HubStep mid (Collect conn) reply g → Reaches h events g
reaches_collect h mid g events conn reply first step =
    subst (λ (l : List HubEvent). Reaches h l g) (append-nil events) (reaches_more h mid g events [] (Collect conn) reply first step refl)

pub reaches_so : (h g : HubState) (events others : List HubEvent) → others ≡ events → Reaches h events g → Reaches h others g
reaches_so h g events others same r = subst (λ (l : List HubEvent). Reaches h l g) (sym same) r
