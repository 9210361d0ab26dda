-- A client is connected on a connection exactly if it is by the acts of the run.
use Rattle.std.proofs.Common.{◌≡◌, ◌↔◌, ℕ, Bool, true, List, Option, Some, None, eqb-true, refl, sym, ap, subst, ◌∙◌}
use Rattle.mq_topic.specs.StoreLaws.{StoreLaws}
use Rattle.mq_route.specs.declared.conn.Conn.{Conn}
use Rattle.mq_route.specs.declared.connection_state.ConnectionState.{ConnectionState}
use Rattle.mq_route.specs.declared.connection_state.ConnectionState.TheVariants.{AwaitingConnect, ConnectedAs, Closed}
use Rattle.mq_route.specs.Hub.{HubConnection, new_hub, is_for, stage_of, up_on}
use Rattle.mq_route.specs.Routed.{seen}
use Rattle.mq_route.specs.Runs.{acts_of}
use Rattle.mq_route.proofs.Events.{sound_new}
use Rattle.mq_route.proofs.Lines.{conn_in, up_is, upper}
use Rattle.mq_route.proofs.Output.{sound_run}
use Rattle.mq_route.proofs.Routing.{up_since}
use Rattle.mq_route.proofs.Uppers.{Apart, upper_at, upper_stage}
use Rattle.mq_route.specs.Clients.{ClientLaws}

-- a client that is connected on a connection has it as its own
up_here : (c : ℕ) (k : Conn) (xs : List HubConnection) → Apart xs → (s : ConnectionState) → stage_of k xs ≡ s → is_for c s ≡ true → up_on c xs ≡ Some k
up_here c k xs a AwaitingConnect e here = absurd cc
up_here c k xs a (ConnectedAs key terms last_activity) e here =
    let same : key ≡ c = eqb-true key c here in
    subst (λ (n : ℕ). up_on n xs ≡ Some k) same (up_is key xs ∙ ap conn_in (upper_at k key terms last_activity xs a e))
up_here c k xs a Closed e here = absurd cc

-- and the other way round
for_up : (c : ℕ) (k : Conn) (xs : List HubConnection) → Apart xs → (o : Option (Conn × Bool)) → upper c xs ≡ o → conn_in o ≡ Some k → is_for c (stage_of k xs) ≡ true
for_up c k xs a None e up = absurd cc
for_up c k xs a (Some u) e up =
    let same : u.0 ≡ k = cc in
    subst (λ (n : Conn). is_for c (stage_of n xs) ≡ true) same (upper_stage c u xs a e)

-- connected exactly if the acts say so
pub connected : (c : ℕ) (k : Conn) (xs : List HubConnection) → Apart xs → (up : Option Conn) → up ≡ up_on c xs → (is_for c (stage_of k xs) ≡ true) ↔ (up ≡ Some k)
connected c k xs a up is = (
  λ here. is ∙ up_here c k xs a (stage_of k xs) refl here,
  λ there. for_up c k xs a (upper c xs) refl (sym (up_is c xs) ∙ (sym is ∙ there)),
)

pub laws : StoreLaws → ClientLaws
laws store = record {
  connected_is_seen = λ config es h f c k. connected c k h.connections (sound_run es (new_hub config) h f (sound_new config)).apart (seen c (acts_of es)).up (up_since store (new_hub config) es h f (sound_new config) c);
}
