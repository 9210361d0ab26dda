use Rattle.std.proofs.Common.{◌≡◌, ◌∙◌, ◌∷◌, [], List, sym, ap, subst, arith}
use Rattle.std.proofs.lemmas.List.{nil_from_length}
use Rattle.mq_packet.specs.declared.message.Message.{Message}
use Rattle.mq_route.specs.Hub.{for_key}
use Rattle.mq_tables.specs.Publishing.{IsReadyAt, placed_at}
use Rattle.mq_tables.proofs.EndPublishes.{only_first}
use Rattle.mq_hub.specs.Inside.Placement.{placed_all}
use Rattle.mq_hub.proofs.PlacedCopies.{for_placeable, goes}
use Rattle.mq_hub.proofs.publish.enqueue.enqueue_for.Goals as goal

pub publish-requires : goal.publish-requires
publish-requires c =
    let at = c.loop-message in
    let m = c.in-Some.message in
    let ms = c.next.new.self.rest.items in
    let steps : at.message-iterator.rest.items ≡ m ∷ ms = c.in-Some.ensures.steps.0 in
    let ready = subst (λ (xs : List Message). IsReadyAt c.args.key xs 0 at.sessions.list) steps at.invariant.ready in
    let one : IsReadyAt c.args.key (m ∷ []) 0 at.sessions.list = record { session = ready.session; there = ready.there; ready = only_first m ms 0 ready.session.end ready.ready } in
    subst (λ (x : Message). IsReadyAt c.args.key (x ∷ []) 0 at.sessions.list) (sym c.new.ensures) one

pub loop-message-preserved : goal.loop-message-preserved
loop-message-preserved c =
    let at = c.loop-message in
    let m = c.in-Some.message in
    let ms = c.next.new.self.rest.items in
    let key = c.args.key in
    let steps : at.message-iterator.rest.items ≡ m ∷ ms = c.in-Some.ensures.steps.0 in
    let ready = subst (λ (xs : List Message). IsReadyAt key xs 0 at.sessions.list) steps at.invariant.ready in
    record {
      ready = c.publish.ensures.left ms 0 (subst (λ (x : Message). IsReadyAt key (x ∷ ms) 0 at.sessions.list) (sym c.new.ensures) ready);
      list = ap (placed_all (for_key key ms)) (c.publish.ensures.list ∙ ap (λ (x : Message). placed_at key x at.sessions.list) c.new.ensures) ∙ ap (λ (xs : List Message). placed_all (for_key key xs) at.sessions.list) (sym steps) ∙ at.invariant.list;
      room = c.publish.ensures.room ∙ at.invariant.room;
    }

pub returns-clause-goes : goal.returns-clause-goes
returns-clause-goes c = λ config clock next_key t said says due same can heard settles.
    let old = c.args.sessions.now.list in
    let ms = c.args.messages.items in
    let key = c.args.key in
    let at = c.loop-message in
    let rest = at.message-iterator.rest in
    let none : rest.items ≡ [] = nil_from_length rest.items (omega (arith, c.in-None.ensures.steps.0, rest.ok)) in
    let list : at.sessions.list ≡ placed_all (for_key key ms) old = ap (λ (xs : List Message). placed_all (for_key key xs) at.sessions.list) (sym none) ∙ at.invariant.list in
    goes config clock next_key t said says due (for_key key ms) old at.sessions.list same can heard settles (for_placeable key ms 0 old c.requires) list
