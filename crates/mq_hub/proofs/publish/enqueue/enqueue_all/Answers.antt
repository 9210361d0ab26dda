use Rattle.std.proofs.Common.{◌≡◌, ◌∙◌, [], ◌∷◌, ℕ, List, sym, ap, subst, arith}
use Rattle.std.proofs.lemmas.List.{nil_from_length}
use Rattle.mq_packet.specs.declared.message.Message.{Message}
use Rattle.mq_tables.specs.declared.sessions.session.BrokerSession.{BrokerSession}
use Rattle.mq_hub.specs.Inside.Placement.{AreApart, AreReady, placed_all}
use Rattle.mq_hub.proofs.PlacedCopies.{all_placeable, goes}
use Rattle.mq_hub.proofs.SessionRoom.{placed_others}
use Rattle.mq_hub.proofs.publish.enqueue.enqueue_all.Goals as goal

pub loop-key-preserved : goal.loop-key-preserved
loop-key-preserved c =
    let at = c.loop-key in
    let cs = c.next.new.self.rest.items in
    let ts = at.sessions.list in
    let steps : at.key-iterator.rest.items ≡ (c.in-Some.key, c.in-Some.message) ∷ cs = c.in-Some.ensures.steps.0 in
    let apart = subst (λ (xs : List (ℕ × Message)). AreApart xs) steps at.invariant.apart in
    let ready = subst (λ (xs : List (ℕ × Message)). AreReady 0 ts xs) steps at.invariant.ready in
    record {
      apart = apart.1;
      ready = subst (λ (ss : List BrokerSession). AreReady 0 ss cs) (sym c.publish.ensures.list) (placed_others c.in-Some.key c.in-Some.message 0 ts cs apart.0 ready.1);
      list = ap (placed_all cs) c.publish.ensures.list ∙ ap (λ (xs : List (ℕ × Message)). placed_all xs ts) (sym steps) ∙ at.invariant.list;
      room = c.publish.ensures.room ∙ at.invariant.room;
    }

pub returns-clause-goes : goal.returns-clause-goes
returns-clause-goes c = λ config clock next_key t said says due same can heard settles.
    let old = c.args.sessions.now.list in
    let cs = c.args.copies.items in
    let at = c.loop-key in
    let rest = at.key-iterator.rest in
    let none : rest.items ≡ [] = nil_from_length rest.items (omega (arith, c.in-None.ensures.steps.0, rest.ok)) in
    let list : at.sessions.list ≡ placed_all cs old = ap (λ (xs : List (ℕ × Message)). placed_all xs at.sessions.list) (sym none) ∙ at.invariant.list in
    goes config clock next_key t said says due cs old at.sessions.list same can heard settles (all_placeable 0 old cs c.requires.ready) list
