use Rattle.std.proofs.Common.{◌≡◌, ◌∙◌, ℕ, true, true≢false, List, None, Some, sym, ap}
use Rattle.mq_packet.specs.declared.connect.Connect.{Connect}
use Rattle.mq_route.specs.Hub.{is_open, key_of}
use Rattle.mq_route.specs.Welcome.{client_of, needs_new, refusal}
use Rattle.mq_tables.proofs.FirstPackets.{ok_by}
use Rattle.mq_hub.proofs.AcceptConnect.{goes_turned, goes_welcomed, has_key, named, refused_is_shut}
use Rattle.mq_hub.proofs.hub.HubOver.on_connect.Goals as goal

pub accept_connect-requires-clause-named : goal.accept_connect-requires-clause-named
accept_connect-requires-clause-named g c =
    let h = c.args.self.now in
    named c.args.connect h (ap (λ (x : Connect). refusal x h) (sym c.as_connect-2.ensures) ∙ sym c.connect_refusal.ensures ∙ c.in-None.is)

pub accept_connect-requires-clause-next : goal.accept_connect-requires-clause-next
accept_connect-requires-clause-next g c = λ new.
    let h = c.args.self.now in
    let none : refusal c.args.connect h ≡ None = ap (λ (x : Connect). refusal x h) (sym c.as_connect-2.ensures) ∙ sym c.connect_refusal.ensures ∙ c.in-None.is in
    let name : c.in_ok-client.client ≡ client_of c.args.connect h.sessions = c.in_ok-client.ensures ∙ ap (λ (x : Connect). client_of x h.sessions) c.as_connect.ensures in
    has_key c.args.connect h none (ap (λ (n : List ℕ). needs_new c.args.connect (key_of n h.sessions) h) (sym name) ∙ new)

pub returns-in-Some-clause-goes : goal.returns-in-Some-clause-goes
returns-in-Some-clause-goes g c =
    let h = c.args.self.now in
    let is : refusal c.args.connect h ≡ Some c.in-Some.code = ap (λ (x : Connect). refusal x h) (sym c.as_connect-2.ensures) ∙ sym c.connect_refusal.ensures ∙ c.in-Some.is in
    ok_by c.refuse.result
    (λ q. (true, goes_turned c.args.conn c.args.connect true h c.refuse.new.self c.args.log.now.acts c.refuse.new.log.acts c.in-Some.code is (q true)))
    c.refuse.ensures.goes

pub returns-in-Some-clause-room : goal.returns-in-Some-clause-room
returns-in-Some-clause-room g c =
    ok_by c.refuse.result
    (λ q stays. absurd (true≢false (sym stays ∙ ap is_open (refused_is_shut c.args.conn true c.args.self.now c.refuse.new.self
    c.args.log.now.acts c.refuse.new.log.acts c.in-Some.code (q true)))))
    c.refuse.ensures.goes

pub returns-in-None-clause-goes : goal.returns-in-None-clause-goes
returns-in-None-clause-goes g c =
    let h = c.args.self.now in
    let none : refusal c.args.connect h ≡ None = ap (λ (x : Connect). refusal x h) (sym c.as_connect-2.ensures) ∙ sym c.connect_refusal.ensures ∙ c.in-None.is in
    let name : c.in_ok-client.client ≡ client_of c.args.connect h.sessions = c.in_ok-client.ensures ∙ ap (λ (x : Connect). client_of x h.sessions) c.as_connect.ensures in
    ok_by c.accept_connect.result
    (λ q. (q.0, goes_welcomed c.args.conn c.args.connect q.0 h c.accept_connect.new.self c.args.log.now.acts c.accept_connect.new.log.acts c.in_ok-client.client name none q.1))
    c.accept_connect.ensures.goes
