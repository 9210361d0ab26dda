-- A packet of a connected client, by its type.
use Rattle.std.proofs.Common.{◌≡◌, ℕ, ◌≤◌, Bool, true, List, length, Option, Some, None, Result, OnOk, refl, sym, subst, arith}
use Rattle.std.specs.Option.{is_some}
use Rattle.mq_packet.specs.declared.packet.Packet.{Packet}
use Rattle.mq_packet.specs.declared.packet.Packet.TheVariants as packets
use Rattle.mq_packet.specs.declared.packet.Request.{Request}
use Rattle.mq_packet.specs.Publication.{Publication, fits_delivery}
use Rattle.mq_packet.specs.Encoding.{fields}
use Rattle.mq_end.specs.SizeLaws.{SizeLaws}
use Rattle.mq_end.specs.Sizes.{publish_size, subscribe_size, unsuback_size, unsubscribe_size}
use Rattle.mq_route.specs.declared.act.Act.{Act}
use Rattle.mq_route.specs.declared.conn.Conn.{Conn}
use Rattle.mq_route.specs.declared.connection_state.ConnectionState.{ConnectionState}
use Rattle.mq_route.specs.Arrives.{dispatch_packet, on_connected_packet}
use Rattle.mq_route.specs.Hub.{HubConnection, HubState, key_on, stage_of, up_on}
use Rattle.mq_hub.specs.Inside.Refinement.{Refines}
use Rattle.mq_hub.specs.Inside.Requests.{RequestsNothing}
use Rattle.mq_hub.proofs.ConnectionChange.{up_there}
use Rattle.mq_hub.proofs.LastActivity.{comes_up, on_ok}
use Rattle.mq_hub.proofs.TakenOutput.{is_up_for}

-- the client of a connected connection is connected
pub up_where : (k : Conn) (key : ℕ) (xs : List HubConnection) → key_on (stage_of k xs) ≡ Some key → is_some (up_on key xs) ≡ true
up_where k key xs on = let at = is_up_for key (stage_of k xs) on in up_there k key at.terms at.last_activity xs at.is

-- a packet of another type requests nothing
pub asks_nothing : (p : Packet) → ((a : Publication) → p ≡ packets.Publish a → ⊥) → ((i : ℕ) (rs : List Request) → p ≡ packets.Subscribe i rs → ⊥)
    → ((i : ℕ) (fs : List (List ℕ)) → p ≡ packets.Unsubscribe i fs → ⊥) → RequestsNothing p
asks_nothing (packets.Publish a) n s u = n a refl
asks_nothing (packets.Subscribe i rs) n s u = s i rs refl
asks_nothing (packets.Unsubscribe i fs) n s u = u i fs refl
asks_nothing p n s u = tt

-- ---- a packet within the limit has its contents, or its answer, within it

module _ (sizes : SizeLaws) (most : ℕ) (p : Packet) (within : length (fields p) ≤ most) where
  as_is : (q : Packet) → p ≡ q → length (fields q) ≤ most
  as_is q is = subst (λ (r : Packet). length (fields r) ≤ most) is within

  pub publish_within : (a : Publication) → p ≡ packets.Publish a → fits_delivery a.message.qos a.delivery ≡ true → publish_size a.message ≤ most
  publish_within a is fits = subst (λ (n : ℕ). n ≤ most) (sizes.publish a.message a.delivery fits) (as_is (packets.Publish a) is)

  pub subscribe_within : (i : ℕ) (rs : List Request) → p ≡ packets.Subscribe i rs → subscribe_size rs ≤ most
  subscribe_within i rs is = subst (λ (n : ℕ). n ≤ most) (sizes.subscribe i rs) (as_is (packets.Subscribe i rs) is)

  pub unsuback_within : (i : ℕ) (fs : List (List ℕ)) → p ≡ packets.Unsubscribe i fs → unsuback_size ≤ most
  unsuback_within i fs is =
      let all : unsubscribe_size fs ≤ most = subst (λ (n : ℕ). n ≤ most) (sizes.unsubscribe i fs) (as_is (packets.Unsubscribe i fs) is) in
      omega (arith, all)

-- a packet of a connected client is that of its connection
pub dispatched : {X E : Type 0} (r : Result X E) (k : Conn) (key : ℕ) (p q : Packet) (s : ConnectionState) (old new : HubState) (did says : List Act) → key_on s ≡ Some key → p ≡ q
    → OnOk r ((fits : Bool) × Refines (on_connected_packet k key q fits) old did new says)
    → OnOk r ((fits : Bool) × Refines (dispatch_packet k p fits s) old did new says)
dispatched r k key p q s old new did says on is goes =
    on_ok r (λ g. (g.0, comes_up k p g.0 key s old new did says on (subst (λ (x : Packet). Refines (on_connected_packet k key x g.0) old did new says) (sym is) g.1))) goes

-- an option without a value
pub none_of : {X : Type 0} (o : Option X) → ((x : X) → o ≡ Some x → ⊥) → o ≡ None
none_of None never = refl
none_of (Some x) never = absurd (never x refl)
