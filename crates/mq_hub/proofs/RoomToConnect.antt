-- The room of a session for a CONNECT on a new connection, and what leaves it.
use Rattle.std.proofs.Common.{◌≡◌, ℕ, ◌<◌, ◌≤◌, ◌^◌, Bool, true, false, not, ◌&&◌, ◌||◌, cond, eqb, List, [], ◌∷◌, ◌++◌, Option, Some, None, refl, sym, ap, subst, ◌∙◌, arith, eqb-true, eq-eqb, true≢false}
use Rattle.std.proofs.lemmas.Bool.{ne_eqb}
use Rattle.std.specs.List.{AllByRecursion, flat_map}
use Rattle.std.specs.Option.{is_some}
use Rattle.mq_topic.specs.declared.qos.Qos.{Qos}
use Rattle.mq_topic.specs.declared.qos.Qos.TheVariants.{Q0, Q1, Q2}
use Rattle.mq_topic.specs.Rows.{matched}
use Rattle.mq_packet.specs.declared.connect.Connect.{Connect}
use Rattle.mq_packet.specs.declared.message.Message.{Message}
use Rattle.mq_end.specs.declared.state.State.TheVariants.{Disconnected, Connected}
use Rattle.mq_end.specs.Both.{has_identifier}
use Rattle.mq_end.specs.Ready.{whole_size}
use Rattle.mq_end.specs.SizeLaws.{SizeLaws}
use Rattle.mq_end.specs.Sizes.{identifier_size, publish_size}
use Rattle.mq_route.specs.declared.config.HubConfig.{HubConfig}
use Rattle.mq_route.specs.declared.conn.Conn.{Conn}
use Rattle.mq_route.specs.Copies.{copy, copy_by, is_hidden_name, lesser}
use Rattle.mq_route.specs.Hub.{HubState, HubConnection, copies_of, for_key, up_on}
use Rattle.mq_tables.specs.declared.sessions.session.BrokerSession.{BrokerSession}
use Rattle.mq_tables.specs.Publishing.{placed_at, published, AreSameButRoom, AreStillReady}
use Rattle.mq_tables.specs.Connecting.{HasConnectRoomAt}
use Rattle.mq_tables.specs.Tables.{HubTables}
use Rattle.mq_tables.proofs.SessionRoom.{changed_own, key_there}
use Rattle.mq_tables.proofs.OtherEnd.{holds_at}
use Rattle.mq_tables.proofs.RoomToConnect.{published_rise, rise_beside, rise_bytes, rise_less, rise_still}
use Rattle.mq_hub.specs.Inside.Invariant.{HubInvariant, SessionMatchesConnection}
use Rattle.mq_hub.specs.Inside.Placement.{is_among, placed_all, AreApart}
use Rattle.mq_hub.specs.Inside.TableSteps.{AreHubTables}
use Rattle.mq_hub.specs.Inside.ConnectRoom.{KeepsConnectRoom}

pub rise_kept : (config : HubConfig) (next : ℕ) (t : HubTables) → HubInvariant config next t → (c : Connect) (key n : ℕ) → up_on key t.connections.connections ≡ None
    → (new : List BrokerSession)
    → AreSameButRoom t.sessions.list new → AreStillReady t.sessions.list new → HasConnectRoomAt c key [] n t.sessions.list → HasConnectRoomAt c key [] n new
rise_kept config next t kept c key n none new same still r =
    let ts = t.sessions.list in
    let xs = t.connections.connections in
    let boxed = holds_at (SessionMatchesConnection config xs) key r.session ts r.there kept.fitting in
    let away : up_on r.session.key xs ≡ None = ap (λ (k : ℕ). up_on k xs) (key_there key r.session ts r.there) ∙ none in
    rise_still c key n ts new same still r (boxed.state ∙ ap (λ (o : Option Conn). cond (is_some o) Connected Disconnected) away) (boxed.away away)

-- ---- copies that are placed

or_left : (a b : Bool) → (a || b) ≡ false → a ≡ false
or_left true b e = absurd (true≢false e)
or_left false b e = refl

or_right : (a b : Bool) → (a || b) ≡ false → b ≡ false
or_right true b e = absurd (true≢false e)
or_right false b e = e

turned : (a b : ℕ) → eqb b a ≡ false → eqb a b ≡ false
turned a b e = ne_eqb a b (λ same. true≢false (sym (eq-eqb b a (sym same)) ∙ e))

rise_others : (c : Connect) (key n : ℕ) (cs : List (ℕ × Message)) → is_among key cs ≡ false → (ts : List BrokerSession) → HasConnectRoomAt c key [] n ts
    → HasConnectRoomAt c key [] n (placed_all cs ts)
rise_others c key n [] none ts r = r
rise_others c key n (x ∷ cs) none ts r =
    rise_others c key n cs (or_right (eqb x.0 key) (is_among key cs) none) (placed_at x.0 x.1 ts)
    (rise_beside c key n x.0 x.1 ts (or_left (eqb x.0 key) (is_among key cs) none) r)

-- each is for another client, and none is larger than this
pub rise_placed : SizeLaws → (c : Connect) (key size : ℕ) → size < 2 ^ 28 → (cs : List (ℕ × Message)) → AreApart cs
    → AllByRecursion (λ x. publish_size x.1 ≤ size) cs → (ts : List BrokerSession)
    → HasConnectRoomAt c key [] (whole_size size) ts → HasConnectRoomAt c key [] 0 (placed_all cs ts)
rise_placed laws c key size small [] apart fits ts r = rise_less c key [] (whole_size size) ts r
rise_placed laws c key size small (x ∷ cs) apart fits ts r = go (eqb x.0 key) refl (rise_placed laws c key size small cs apart.1 fits.1 (placed_at x.0 x.1 ts))
  where
    go : (b : Bool) → eqb x.0 key ≡ b → (HasConnectRoomAt c key [] (whole_size size) (placed_at x.0 x.1 ts) → HasConnectRoomAt c key [] 0 (placed_all cs (placed_at x.0 x.1 ts)))
        → HasConnectRoomAt c key [] 0 (placed_all cs (placed_at x.0 x.1 ts))
    go true e rest =
        let same : x.0 ≡ key = eqb-true x.0 key e in
        rise_others c key 0 cs (subst (λ (k : ℕ). is_among k cs ≡ false) same apart.0) (placed_at x.0 x.1 ts)
        (subst (λ (k : ℕ). HasConnectRoomAt c key [] 0 (placed_at k x.1 ts)) (sym same) (record {
          session = record r.session { end = published x.1 r.session.end };
          there = changed_own (published x.1) key r.session ts r.there;
          connect_end = published_rise laws c size x.1 r.session.end fits.0 small r.connect_end;
        }))
    go false e rest = rest (rise_beside c key (whole_size size) x.0 x.1 ts e r)

-- ---- no copy is larger than its message

lesser_size : (p q : Qos) → identifier_size (lesser p q) ≤ identifier_size p
lesser_size Q0 q = omega arith
lesser_size Q1 Q0 = omega arith
lesser_size Q1 Q1 = omega arith
lesser_size Q1 Q2 = omega arith
lesser_size Q2 Q0 = omega arith
lesser_size Q2 Q1 = omega arith
lesser_size Q2 Q2 = omega arith

copy_size : (q : Qos) (retain : Bool) (m : Message) → publish_size (copy q retain m) ≤ publish_size m
copy_size q retain m = let less = lesser_size m.qos q in omega arith

abbrev Fit : Message → List (ℕ × Message) → Type 0
Fit m cs = AllByRecursion (λ x. publish_size x.1 ≤ publish_size m) cs

one_fits : (key : ℕ) (hides : Bool) (m n : Message) (rest : List (ℕ × Message)) → publish_size n ≤ publish_size m → Fit m rest
    → Fit m (for_key key (cond hides [] (n ∷ [])) ++ rest)
one_fits key true m n rest small all = all
one_fits key false m n rest small all = (small, all)

found_fit : (xs : List HubConnection) (m : Message) (found : List (ℕ × Qos)) → Fit m (flat_map (λ f. for_key f.0 (copy_by (is_some (up_on f.0 xs)) m (Some f.1))) found)
found_fit xs m [] = tt
found_fit xs m (f ∷ found) =
    one_fits f.0 (not (has_identifier (copy f.1 false m).qos) && not (is_some (up_on f.0 xs))) m (copy f.1 false m)
    (flat_map (λ g. for_key g.0 (copy_by (is_some (up_on g.0 xs)) m (Some g.1))) found) (copy_size f.1 false m) (found_fit xs m found)

pub copies_fit : (m : Message) (h : HubState) → AllByRecursion (λ x. publish_size x.1 ≤ publish_size m) (copies_of m h)
unfolding copies_of
copies_fit m h = go (is_hidden_name m.topic)
  where
    go : (b : Bool) → Fit m (cond b [] (flat_map (λ found. for_key found.0 (copy_by (is_some (up_on found.0 h.connections)) m (Some found.1))) (matched m.topic h.rows)))
    go true = tt
    go false = found_fit h.connections m (matched m.topic h.rows)

-- ---- a will that is published, or dropped

pub leaves_same : (ms : List Message) (t : HubTables) → KeepsConnectRoom ms t t
leaves_same ms t = record { connect_end = λ c key small none r. rise_less c key ms 0 t.sessions.list r }

module _ (m : Message) (t p : HubTables) (hubs : AreHubTables t) (same : AreSameButRoom t.sessions.list p.sessions.list)
    (still : AreStillReady t.sessions.list p.sessions.list) where
  -- the sessions have room for its copies
  rise_ready : (c : Connect) (key : ℕ) → up_on key t.connections.connections ≡ None → HasConnectRoomAt c key (m ∷ []) 0 t.sessions.list
      → HasConnectRoomAt c key [] (whole_size (publish_size m)) p.sessions.list
  rise_ready c key none r =
      rise_kept hubs.config hubs.next_key t hubs.keeps c key (whole_size (publish_size m)) none p.sessions.list same still (rise_bytes c key m t.sessions.list r)

  pub leaves_ready : KeepsConnectRoom (m ∷ []) t p
  leaves_ready = record { connect_end = λ c key small none r. rise_less c key [] (whole_size (publish_size m)) p.sessions.list (rise_ready c key none r) }

  -- and they are placed
  pub leaves_shared : SizeLaws → (cs : List (ℕ × Message)) (u : HubTables) → publish_size m ≤ t.connections.limits.packets.most → AreApart cs
      → AllByRecursion (λ x. publish_size x.1 ≤ publish_size m) cs → u.sessions.list ≡ placed_all cs p.sessions.list → KeepsConnectRoom (m ∷ []) t u
  leaves_shared laws cs u within apart small_ones placed = record {
    connect_end = λ c key small none r.
        subst (λ (us : List BrokerSession). HasConnectRoomAt c key [] 0 us) (sym placed)
        (rise_placed laws c key (publish_size m) (omega (arith, within, small)) cs apart
        small_ones p.sessions.list
        (rise_ready c key none r));
  }
