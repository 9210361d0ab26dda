use Rattle.std.proofs.Common.{◌≡◌, ◌∙◌, ◌+◌, ◌<◌, ◌++◌, ◌∷◌, [], ℕ, List, length, take, sym, ap, add-one, arith}
use Rattle.std.proofs.Math.Seq.{take-suc}
use Rattle.std.proofs.lemmas.Result.{err_from_is_err_and}
use Rattle.mq_route.specs.declared.event.HubEvent.{HubEvent}
use Rattle.mq_route.specs.declared.reply.HubReply.{HubReply}
use Rattle.mq_route.specs.Hub.{HubState}
use Rattle.mq_hub.specs.Run.{IsFollowed}
use Rattle.mq_hub.proofs.RunLemmas.{followed_last, followed_so, stopped}
use Rattle.mq_hub.proofs.hub.HubOver.follow.Goals as goal

pub loop-event-preserved : goal.loop-event-preserved
loop-event-preserved g c =
    let events : List HubEvent = c.args.events.now in
    let i = c.loop-event.event-index in
    let event : HubEvent = c.event-item.result in
    let within : i < length events = omega (arith, c.loop-event-test.true) in
    let h : HubState = c.args.self.now in
    let new : HubState = c.step.new.self in
    let replies : List HubReply = c.loop-event.replies.items in
    let reply : HubReply = c.in_ok-reply.reply in
    let front : take (i + 1) events ≡ take i events ++ event ∷ [] =
    ap (λ (n : ℕ). take n events) (add-one i) ∙ take-suc events i event within ∙ ap (λ (e : HubEvent). take i events ++ e ∷ []) (sym c.event-item.is) in
    let last : IsFollowed h (take i events ++ event ∷ []) (replies ++ reply ∷ []) new =
    followed_last h c.loop-event.self new (take i events) replies event reply c.loop-event.invariant c.in_ok-reply.ensures.step in
    followed_so h new (take (i + 1) events) (take i events ++ event ∷ []) c.push_reserved.new.self.items (replies ++ reply ∷ []) front (c.push_reserved.ensures.items ∙ ap (λ (rs : List HubReply). rs ++ reply ∷ []) c.reserve.ensures.items) last

pub returns-in_err-reply-clause-err : goal.returns-in_err-reply-clause-err
returns-in_err-reply-clause-err g c =
    let events : List HubEvent = c.args.events.now in
    let within : c.loop-event.event-index < length events = omega (arith, c.loop-event-test.true) in
    let p = err_from_is_err_and c.from_residual.result c.from_residual.ensures.1 in
    rw (p.1, p.2) (stopped c.args.self.now c.loop-event.self events c.loop-event.event-index c.event-item.result c.loop-event.replies.items c.step.result
    c.in_err-reply.field-0.0 within c.event-item.is c.loop-event.invariant c.in_err-reply.was c.step.ensures.refused c.step.ensures.memory)
