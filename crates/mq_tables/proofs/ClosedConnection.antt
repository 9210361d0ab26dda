-- A connection without client is closed.
use Rattle.std.proofs.Common.{◌≡◌, ◌||◌, List, [], ◌∷◌, refl}
use Rattle.std.proofs.lemmas.Bool.{cond_both}
use Rattle.mq_route.specs.declared.conn.Conn.{Conn}
use Rattle.mq_route.specs.declared.connection_state.ConnectionState.TheVariants.{Closed}
use Rattle.mq_route.specs.Hub.{HubConnection, changed, is_connection, knows, with_connection}
use Rattle.mq_route.specs.Routed.{same_conn}

abbrev pub closed : HubConnection → HubConnection
closed x = record x { stage = Closed; held = [] }

module _ (k : Conn) where
  closed_name : (x : HubConnection) → (changed closed k x).conn ≡ x.conn
  closed_name x = cond_both (is_connection k x) (closed x) x (λ (y : HubConnection). y.conn ≡ x.conn) (λ e. refl) (λ e. refl)

  pub known_closed : (n : Conn) (xs : List HubConnection) → knows n (with_connection closed k xs) ≡ knows n xs
  known_closed n [] = refl
  known_closed n (x ∷ xs) = λ i. same_conn (closed_name x i) n || known_closed n xs i
