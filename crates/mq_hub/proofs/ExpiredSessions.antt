-- Sessions that expire (3.1.2.4).
use Rattle.std.proofs.Common.{◌≡◌, ℕ, zero, suc, ◌<◌, ◌≤◌, ◌&&◌, not, Bool, true, false, cond, List, [], ◌∷◌, length, map, filter, take, get_or, max, Option, Some, None, is_some, refl, sym, ap, subst, ◌∙◌, arith, true≢false}
use Rattle.std.proofs.lemmas.List.{take_all}
use Rattle.mq_route.specs.declared.act.Act.{Act}
use Rattle.mq_route.specs.declared.config.HubConfig.{HubConfig}
use Rattle.mq_route.specs.declared.conn.Conn.{Conn}
use Rattle.mq_route.specs.declared.event.HubEvent.TheVariants.{Tick}
use Rattle.mq_route.specs.declared.reply.HubReply.{HubReply}
use Rattle.mq_route.specs.Hub.{HubState, HubConnection, HubSession, up_on}
use Rattle.mq_route.specs.Step.{HubStep, OnTick, expire, expired_keys, has_passed, is_expired, remove_all, with_clock}
use Rattle.mq_route.specs.Work.{Work, begin, remove}
use Rattle.mq_tables.specs.declared.sessions.session.BrokerSession.{BrokerSession}
use Rattle.mq_tables.specs.Expiry.{gone_keys, is_gone}
use Rattle.mq_tables.specs.Sessions.{sessions_of}
use Rattle.mq_tables.specs.Tables.{HubTables}
use Rattle.mq_hub.specs.Inside.Expiry.{AreAway}
use Rattle.mq_hub.specs.Inside.Refinement.{Refines}
use Rattle.mq_hub.specs.Inside.Tick.{TicksTo}
use Rattle.mq_hub.specs.Inside.View.{all_seen, hub_of}
use Rattle.mq_hub.proofs.ConnectionChange.{up_seen}

-- ---- the broker

module _ (config : HubConfig) (clock next : ℕ) (t : HubTables) where
  pub keys_seen : expired_keys (hub_of config clock next t) ≡ gone_keys config.session_expiry clock t.connections.connections t.sessions.list
  keys_seen = go t.sessions.list
    where
      h : HubState
      h = hub_of config clock next t

      go : (ss : List BrokerSession) → map (λ (s : HubSession). s.key) (filter (is_expired h) (sessions_of ss)) ≡ gone_keys config.session_expiry clock t.connections.connections ss
      go [] = refl
      go (s ∷ ss) =
          let same : is_gone config.session_expiry clock t.connections.connections s ≡ (not (is_some (up_on s.key h.connections)) && has_passed config.session_expiry s.left_at clock) =
          ap (λ (o : Option Conn). not (is_some o) && has_passed config.session_expiry s.left_at clock) (sym (up_seen s.key t.sessions.list t.connections.connections)) in
          one (not (is_some (up_on s.key h.connections)) && has_passed config.session_expiry s.left_at clock) (go ss)
          ∙ ap (λ (b : Bool). map (λ (r : BrokerSession). r.key) (cond b (s ∷ filter (is_gone config.session_expiry clock t.connections.connections) ss) (filter (is_gone config.session_expiry clock t.connections.connections) ss)))
          (sym same)
        where
          one : (b : Bool) → map (λ (r : HubSession). r.key) (filter (is_expired h) (sessions_of ss)) ≡ gone_keys config.session_expiry clock t.connections.connections ss
              → map (λ (r : HubSession). r.key) (cond b (record { client = s.client; key = s.key; end = s.end.end; left = s.left_at } ∷ filter (is_expired h) (sessions_of ss)) (filter (is_expired h) (sessions_of ss)))
              ≡ map (λ (r : BrokerSession). r.key) (cond b (s ∷ filter (is_gone config.session_expiry clock t.connections.connections) ss) (filter (is_gone config.session_expiry clock t.connections.connections) ss))
          one true rest = ap (λ (keys : List ℕ). s.key ∷ keys) rest
          one false rest = rest

-- their clients are not connected
pub gone_away : (expiry : Option ℕ) (now : ℕ) (xs : List HubConnection) (ts : List BrokerSession) → AreAway (gone_keys expiry now xs ts) xs
gone_away expiry now xs [] = tt
gone_away expiry now xs (t ∷ ts) = go (is_gone expiry now xs t) refl (gone_away expiry now xs ts)
  where
    first : (o : Option Conn) (b : Bool) → (not (is_some o) && b) ≡ true → o ≡ None
    first None b e = refl
    first (Some k) b e = absurd (true≢false (sym e))

    go : (b : Bool) → is_gone expiry now xs t ≡ b → AreAway (gone_keys expiry now xs ts) xs
        → AreAway (map (λ (t : BrokerSession). t.key) (cond b (t ∷ filter (is_gone expiry now xs) ts) (filter (is_gone expiry now xs) ts))) xs
    go true is rest = (first (up_on t.key xs) (has_passed expiry t.left_at now) is, rest)
    go false is rest = rest

away_same : (xs ys : List HubConnection) → ((c : ℕ) → up_on c ys ≡ up_on c xs) → (keys : List ℕ) → AreAway keys xs → AreAway keys ys
away_same xs ys same [] away = tt
away_same xs ys same (key ∷ keys) away = (same key ∙ away.0, away_same xs ys same keys away.1)

pub away_seen : (ts : List BrokerSession) (xs : List HubConnection) (keys : List ℕ) → AreAway keys xs → AreAway keys (all_seen ts xs)
away_seen ts xs keys away = away_same xs (all_seen ts xs) (λ c. up_seen c ts xs) keys away

-- ---- one after another

pub remove_more : (keys : List ℕ) (i d : ℕ) (w : Work) → i < length keys → remove_all (take (suc i) keys) w ≡ remove (get_or keys i d) (remove_all (take i keys) w)
remove_more [] i d w within = absurd (omega (arith, within))
remove_more (key ∷ keys) zero d w within = refl
remove_more (key ∷ keys) (suc i) d w within = remove_more keys i d (remove key w) (omega (arith, within))

pub away_at : (keys : List ℕ) (i d : ℕ) (xs : List HubConnection) → i < length keys → AreAway keys xs → up_on (get_or keys i d) xs ≡ None
away_at [] i d xs within away = absurd (omega (arith, within))
away_at (key ∷ keys) zero d xs within away = away.0
away_at (key ∷ keys) (suc i) d xs within away = away_at keys i d xs (omega (arith, within)) away.1

same_connections : (keys : List ℕ) (w : Work) → (remove_all keys w).hub.connections ≡ w.hub.connections
unfolding remove
same_connections [] w = refl
same_connections (key ∷ keys) w = same_connections keys (remove key w) ∙ one key w
  where
    one : (key : ℕ) (w : Work) → (remove key w).hub.connections ≡ w.hub.connections
    one key w = refl

same_config : (keys : List ℕ) (w : Work) → (remove_all keys w).hub.config ≡ w.hub.config
unfolding remove
same_config [] w = refl
same_config (key ∷ keys) w = same_config keys (remove key w) ∙ one key w
  where
    one : (key : ℕ) (w : Work) → (remove key w).hub.config ≡ w.hub.config
    one key w = refl

module _ (keys : List ℕ) (old new : HubState) (said says : List Act) (goes : Refines (remove_all keys) old said new says) where
  abbrev start : Work
  start = record { hub = old; did = said; sent = []; came = [] }

  pub connections_left : new.connections ≡ old.connections
  connections_left = ap (λ (h : HubState). h.connections) (sym (goes.hub start refl refl)) ∙ same_connections keys start

  pub config_left : new.config ≡ old.config
  config_left = ap (λ (h : HubState). h.config) (sym (goes.hub start refl refl)) ∙ same_config keys start

pub remove_next : (keys : List ℕ) (i d : ℕ) (old mid new : HubState) (said mids says : List Act) → i < length keys → Refines (remove_all (take i keys)) old said mid mids
    → Refines (remove (get_or keys i d)) mid mids new says → Refines (remove_all (take (suc i) keys)) old said new says
remove_next keys i d old mid new said mids says within done one = record {
  hub = λ w e f. ap (λ (v : Work). v.hub) (remove_more keys i d w within) ∙ one.hub (remove_all (take i keys) w) (done.hub w e f) (done.did w e f);
  did = λ w e f. ap (λ (v : Work). v.did) (remove_more keys i d w within) ∙ one.did (remove_all (take i keys) w) (done.hub w e f) (done.did w e f);
}

-- none is removed at first
pub remove_none : (keys : List ℕ) (h : HubState) (did : List Act) → Refines (remove_all (take 0 keys)) h did h did
remove_none keys h did = record { hub = λ w e f. e; did = λ w e f. f }

-- and all in the end
pub remove_whole : (keys : List ℕ) (i : ℕ) (old new : HubState) (said says : List Act) → length keys ≤ i → Refines (remove_all (take i keys)) old said new says
    → Refines (remove_all keys) old said new says
remove_whole keys i old new said says past goes = subst (λ (l : List ℕ). Refines (remove_all l) old said new says) (take_all i keys past) goes

-- ---- a tick

pub tick_step : (now : ℕ) (h mid new : HubState) (keys : List ℕ) (said mids says : List Act) (r : HubReply) → keys ≡ expired_keys (with_clock now h) → said ≡ []
    → Refines (remove_all keys) (with_clock now h) said mid mids → TicksTo (max h.clock now) mid mids new says
    → r ≡ record { acts = says; output = []; alive = true } → HubStep h (Tick now) r new
unfolding expire
tick_step now h mid new keys said mids says r is none goes ticks reply =
    let start = expire (with_clock now h) in
    let same : start ≡ remove_all keys (begin (with_clock now h)) = ap (λ (l : List ℕ). remove_all l (begin (with_clock now h))) (sym is) in
    let hub : start.hub ≡ mid = ap (λ (w : Work). w.hub) same ∙ goes.hub (begin (with_clock now h)) refl (sym none) in
    let did : start.did ≡ mids = ap (λ (w : Work). w.did) same ∙ goes.did (begin (with_clock now h)) refl (sym none) in
    let t = ticks start hub did in
    let on : mid.connections ≡ h.connections = connections_left keys (with_clock now h) mid said mids goes in
    let config : mid.config ≡ h.config = config_left keys (with_clock now h) mid said mids goes in
    record {
      right = refl;
      work = t.work;
      does = (
        subst (λ (xs : List HubConnection). OnTick h.config.connect_within (max h.clock now) xs start t.work) (ap (λ (a : HubState). a.connections) hub ∙ on)
            (subst (λ (c : HubConfig). OnTick c.connect_within (max h.clock now) start.hub.connections start t.work) config t.ticks),
        reply ∙ ap (λ (acts : List Act). record { acts = acts; output = []; alive = true }) t.did,
      );
      after = t.hub;
    }
