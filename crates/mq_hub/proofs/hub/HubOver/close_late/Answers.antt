use Rattle.std.proofs.Common.{[], ◌<◌, ◌≤◌, ◌∙◌, get_or, length, refl, sym, ap, arith}
use Rattle.mq_route.specs.Work.{Work}
use Rattle.std.proofs.lemmas.List.{get_or_default}
use Rattle.std.specs.List.{slice_get}
use Rattle.mq_route.specs.Hub.{HubState}
use Rattle.mq_hub.specs.Inside.Tick.{late_of}
use Rattle.mq_hub.proofs.LateWalk.{closing_all, closing_first, closing_last, closing_late, closing_past, none_by}
use Rattle.mq_hub.proofs.hub.HubOver.close_late.Goals as goal

pub loop-place-init : goal.loop-place-init
loop-place-init g c = record {
  closing = λ start hub did. closing_first c.args.self.now.config.connect_within c.args.now start c.args.self.now c.args.places.now c.args.log.now.acts c.requires.late hub did;
  room = omega (arith, c.requires.room);
}

pub loop-place-preserved-in_default : goal.loop-place-preserved-in_default
loop-place-preserved-in_default g c =
    let i = c.loop-place.place-index in
    let ps = c.args.places.now in
    let p = get_or ps i 0 in
    let inside : i < length ps = omega (arith, c.loop-place-test.true) in
    record {
      closing = λ start hub did.
          closing_past c.args.self.now.config.connect_within c.args.now start ps i c.loop-place.self c.loop-place.log.acts (c.loop-place.invariant.closing start hub did) p inside (get_or_default ps i 0 p inside)
          (sym (none_by c.late_at.result (λ late e. c.in_default.not-Some late e)) ∙ c.late_at.ensures.late
          ∙ ap (λ (h : HubState). late_of h.config.connect_within c.args.now (slice_get c.loop-place.self.connections p)) c.self.view_is);
      room = omega (arith, c.loop-place.invariant.room);
    }

pub loop-place-preserved : goal.loop-place-preserved
loop-place-preserved g c =
    let i = c.loop-place.place-index in
    let ps = c.args.places.now in
    let p = get_or ps i 0 in
    let inside : i < length ps = omega (arith, c.loop-place-test.true) in
    record {
      closing = λ start hub did.
          closing_late c.args.self.now.config.connect_within c.args.now start ps i c.loop-place.self c.loop-place.log.acts (c.loop-place.invariant.closing start hub did) p inside (get_or_default ps i 0 p inside)
          c.requires.ascending c.in-Some.conn c.in-Some.why
          (c.in-Some.ensures.late ∙ ap (λ (h : HubState). late_of h.config.connect_within c.args.now (slice_get c.loop-place.self.connections p)) c.self.view_is) c.close.new.self c.close.new.log.acts c.in-Some.ensures.apart c.close.ensures.goes;
      room = omega (arith, c.loop-place.invariant.room, c.close.ensures.room);
    }

pub returns-clause-ticks : goal.returns-clause-ticks
returns-clause-ticks g c =
    let past : length c.args.places.now ≤ c.loop-place.place-index = omega (arith, c.loop-place-test.false) in
    λ start hub did. closing_last c.args.self.now.config.connect_within c.args.now start c.args.places.now c.loop-place.place-index c.loop-place.self c.loop-place.log.acts (c.loop-place.invariant.closing start hub did) past

pub returns-clause-all : goal.returns-clause-all
returns-clause-all g c =
    let past : length c.args.places.now ≤ c.loop-place.place-index = omega (arith, c.loop-place-test.false) in
    let start : Work = record { hub = c.args.self.now; did = c.args.log.now.acts; sent = []; came = [] } in
    closing_all c.args.self.now.config.connect_within c.args.now start c.args.places.now c.loop-place.place-index c.loop-place.self c.loop-place.log.acts
    (c.loop-place.invariant.closing start refl refl) past
