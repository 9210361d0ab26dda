-- The state of a client's session, as the broker's definition sees it.
use Rattle.std.proofs.Common.{◌≡◌, ℕ, ◌+◌, Bool, cond, List, [], ◌∷◌, Option, Some, None, refl, sym, ap, ◌∙◌}
use Rattle.std.proofs.lemmas.List.Sums.{sum_by-cons}
use Rattle.std.specs.List.{count_by}
use Rattle.std.specs.Option.{is_some}
use Rattle.mq_route.specs.declared.conn.Conn.{Conn}
use Rattle.mq_route.specs.Hub.{HubConnection, is_clean, key_on, up_on}
use Rattle.mq_route.specs.Welcome.{ends_on, up_count}
use Rattle.mq_tables.specs.declared.sessions.session.BrokerSession.{BrokerSession}
use Rattle.mq_hub.specs.Inside.View.{all_seen, seen}
use Rattle.mq_hub.proofs.ConnectionChange.{stage_seen, up_seen}

count_cons : {X : Type 0} (p : X → Bool) (x : X) (xs : List X) → count_by p (x ∷ xs) ≡ cond (p x) 1 0 + count_by p xs
count_cons p x xs = sum_by-cons (λ y. cond (p y) 1 0) x xs

pub count_seen : (ts : List BrokerSession) (xs : List HubConnection) → up_count (all_seen ts xs) ≡ up_count xs
count_seen ts [] = refl
count_seen ts (x ∷ xs) =
    count_cons (λ (y : HubConnection). is_some (key_on y.stage)) (seen ts x) (all_seen ts xs)
    ∙ ap (λ (n : ℕ). cond (is_some (key_on x.stage)) 1 0 + n) (count_seen ts xs)
    ∙ sym (count_cons (λ (y : HubConnection). is_some (key_on y.stage)) x xs)

pub ends_seen : (key : ℕ) (ts : List BrokerSession) (xs : List HubConnection) → ends_on (up_on key (all_seen ts xs)) (all_seen ts xs) ≡ ends_on (up_on key xs) xs
ends_seen key ts xs = ap (λ (o : Option Conn). ends_on o (all_seen ts xs)) (up_seen key ts xs) ∙ of (up_on key xs)
  where
    of : (o : Option Conn) → ends_on o (all_seen ts xs) ≡ ends_on o xs
    of None = refl
    of (Some k) = ap is_clean (stage_seen k ts xs)
