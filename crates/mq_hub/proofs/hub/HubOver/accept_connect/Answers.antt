use Rattle.std.proofs.Common.{◌≡◌, ◌∙◌, true, List, Some, sym, subst}
use Rattle.mq_route.specs.declared.act.Act.{Act}
use Rattle.mq_route.specs.Arrives.{accept_connect}
use Rattle.mq_route.specs.Hub.{key_of}
use Rattle.mq_tables.proofs.FirstPackets.{ok_by}
use Rattle.mq_hub.specs.Inside.Refinement.{Refines}
use Rattle.mq_hub.proofs.AcceptConnect.{goes_admitted}
use Rattle.mq_hub.proofs.hub.HubOver.accept_connect.Goals as goal

pub returns-then-is_up-clause-goes : goal.returns-then-is_up-clause-goes
returns-then-is_up-clause-goes g c =
    let k = c.args.conn in
    let h = c.args.self.now in
    let new = c.take_over.new.self in
    let says = c.take_over.new.log.acts in
    let key = c.in-Some.key in
    let found : key_of c.args.client h.sessions ≡ Some key = sym c.key_of.ensures ∙ c.in-Some.is in
    ok_by c.take_over.result
    (λ q. (
      q.0,
      goes_admitted k c.args.connect q.0 h new c.args.log.now.acts says c.args.client (Some key) found
          (subst (λ (did : List Act). Refines (accept_connect k c.args.connect c.args.client (Some key) q.0) h did new says) c.reserve.ensures.same q.1),
    ))
    c.take_over.ensures.goes

pub returns-clause-goes : goal.returns-clause-goes
returns-clause-goes g c =
    let k = c.args.conn in
    let h = c.args.self.now in
    let new = c.resume.new.self in
    let says = c.resume.new.log.acts in
    let key = c.in-Some.key in
    let found : key_of c.args.client h.sessions ≡ Some key = sym c.key_of.ensures ∙ c.in-Some.is in
    ok_by c.resume.result
    (λ q. (
      true,
      goes_admitted k c.args.connect true h new c.args.log.now.acts says c.args.client (Some key) found
          (subst (λ (did : List Act). Refines (accept_connect k c.args.connect c.args.client (Some key) true) h did new says) c.reserve.ensures.same (q true)),
    ))
    c.resume.ensures.goes
