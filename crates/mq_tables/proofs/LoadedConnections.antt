-- A broker that is made from a snapshot: its connections.
use Rattle.std.proofs.Common.{◌≡◌, ℕ, true, false, cond, List, Option, Some, None, sym, ap, ◌∙◌, true≢false}
use Rattle.std.specs.Option.{is_some, IfSome}
use Rattle.mq_end.specs.declared.state.State.{State}
use Rattle.mq_end.specs.declared.state.State.TheVariants.{Disconnected, Connected}
use Rattle.mq_end.specs.End.{is_live}
use Rattle.mq_end.specs.State.{EndState}
use Rattle.mq_route.specs.declared.conn.Conn.{Conn}
use Rattle.mq_route.specs.declared.connection_state.ConnectionTerms.{ConnectionTerms}
use Rattle.mq_tables.specs.declared.sessions.session.BrokerSession.{BrokerSession}
use Rattle.mq_tables.specs.Connecting.{continued, HasContinued}
use Rattle.mq_tables.specs.Sessions.{session_at, with_server}
use Rattle.mq_tables.proofs.ConnectedSession.{IsSwapped}

-- the end of a session that is exchanged, and continues a connection
pub down_end : (key : ℕ) (ts : List BrokerSession) (taken : EndState) → is_some (session_at key ts) ≡ true → IfSome (session_at key ts) (λ s. taken ≡ s.end)
    → IfSome (session_at key ts) (λ s. is_live s.end.end.state ≡ false) → is_live taken.end.state ≡ false
down_end key ts taken there own down = go (session_at key ts) there own down
  where
    go : (o : Option BrokerSession) → is_some o ≡ true → IfSome o (λ s. taken ≡ s.end) → IfSome o (λ s. is_live s.end.end.state ≡ false) → is_live taken.end.state ≡ false
    go None some own down = absurd (true≢false (sym some))
    go (Some s) some own down = ap (λ (e : EndState). is_live e.end.state) own ∙ down

pub has_continued : (terms : ConnectionTerms) (now key : ℕ) (taken back : EndState) (ts vs : List BrokerSession) → IsSwapped key taken back ts vs → back ≡ continued terms now taken
    → HasContinued terms now key ts vs
has_continued terms now key taken back ts vs s is = record {
  session = s.session;
  there = s.there;
  after = s.after ∙ ap (λ (e : EndState). with_server key e ts) (is ∙ ap (continued terms now) s.own);
}

-- an end without a client has no connection
pub down : (s : State) (o : Option Conn) → s ≡ cond (is_some o) Connected Disconnected → o ≡ None → is_live s ≡ false
down s o e none = ap is_live (e ∙ ap (λ (p : Option Conn). cond (is_some p) Connected Disconnected) none)
