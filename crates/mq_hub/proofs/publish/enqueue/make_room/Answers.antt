use Rattle.std.proofs.Common.{◌≡◌, ◌∙◌, ◌+◌, ◌<◌, ◌∷◌, ◌++◌, ◌&&◌, [], ℕ, suc, List, Bool, false, Ok, length, take, drop, sym, ap, subst, add-one, arith}
use Rattle.mq_packet.specs.declared.message.Message.{Message}
use Rattle.mq_route.specs.Hub.{for_key}
use Rattle.mq_route.specs.Work.{all_fit}
use Rattle.mq_tables.specs.Publishing.{IsReadyAt}
use Rattle.mq_hub.specs.Inside.Placement.{AreReady, IsFor, is_among}
use Rattle.mq_hub.proofs.SessionRoom.{all_at, all_more, apart_at, are_for_same, drop_at, has_same, fit_none, still_all, ended}
use Rattle.mq_hub.proofs.publish.enqueue.make_room.Goals as goal

pub make_room_for-requires : goal.make_room_for-requires
make_room_for-requires c =
    let cs = c.args.copies.now in
    let i = c.loop-due.due-index in
    let d = c.due-item.result in
    let ts = c.loop-due.sessions.list in
    let at = all_at (λ x. IsFor x.0 (x.1 ∷ []) ts) cs i d (omega (arith, c.loop-due-test.true)) c.loop-due.invariant.due in
    subst (λ (ms : List Message). IsFor d.0 ms ts) (sym (c.from_ref.ensures.value ∙ ap (λ (m : Message). m ∷ []) c.message.ensures)) (subst (λ (x : ℕ × Message). IsFor x.0 (x.1 ∷ []) ts) (sym c.due-item.is) at)

pub returns-in_err-make_room_for-clause-still : goal.returns-in_err-make_room_for-clause-still
returns-in_err-make_room_for-clause-still c = λ key ms more was. c.make_room_for.ensures.still key ms more (c.loop-due.invariant.still key ms more was)

pub returns-then-not-branch-clause-still : goal.returns-then-not-branch-clause-still
returns-then-not-branch-clause-still c = λ key ms more was. c.make_room_for.ensures.still key ms more (c.loop-due.invariant.still key ms more was)

pub returns-then-not-branch-clause-enough : goal.returns-then-not-branch-clause-enough
returns-then-not-branch-clause-enough c = λ h has stored.
    let cs = c.args.copies.now in
    let i = c.loop-due.due-index in
    let d = c.due-item.result in
    let l : i < length cs = omega (arith, c.loop-due-test.true) in
    let rest = drop (suc i) cs in
    let none = subst (λ (x : ℕ × Message). is_among x.0 rest ≡ false) (sym c.due-item.is) (apart_at cs i d l c.requires.apart) in
    let now = has_same c.args.sessions.now.list c.loop-due.sessions.list h c.loop-due.invariant.same has in
    let front = drop_at cs i d l ∙ ap (λ (x : ℕ × Message). x ∷ rest) (sym c.due-item.is) in
    let says = subst (λ (ms : List Message). all_fit (for_key d.0 ms ++ rest) h ≡ (c.in_ok-make_room_for.field-0 && all_fit rest h)) (c.from_ref.ensures.value ∙ ap (λ (m : Message). m ∷ []) c.message.ensures)
    (c.in_ok-make_room_for.ensures.enough rest h now stored none) in
    sym (c.loop-due.invariant.enough h has stored ∙ ap (λ (xs : List (ℕ × Message)). all_fit xs h) front ∙ says
    ∙ ap (λ (b : Bool). b && all_fit rest h) c.if-not-branch.true)

pub loop-due-preserved : goal.loop-due-preserved
loop-due-preserved c =
    let cs = c.args.copies.now in
    let i = c.loop-due.due-index in
    let d = c.due-item.result in
    let old = c.loop-due.sessions.list in
    let new = c.make_room_for.new.sessions.list in
    let l : i < length cs = omega (arith, c.loop-due-test.true) in
    let rest = drop (suc i) cs in
    let one : i + 1 ≡ suc i = add-one i in
    let none = subst (λ (x : ℕ × Message). is_among x.0 rest ≡ false) (sym c.due-item.is) (apart_at cs i d l c.requires.apart) in
    let front = drop_at cs i d l ∙ ap (λ (x : ℕ × Message). x ∷ rest) (sym c.due-item.is) in
    let enough = c.if-not-branch.false in
    let own = c.in_ok-make_room_for.ensures.ready (ap (λ (b : Bool). Ok b) enough) in
    let own_ready = subst (λ (x : ℕ × Message). IsReadyAt x.0 (x.1 ∷ []) c.args.more new) c.due-item.is
    (subst (λ (ms : List Message). IsReadyAt d.0 ms c.args.more new) (c.from_ref.ensures.value ∙ ap (λ (m : Message). m ∷ []) c.message.ensures) own) in
    record {
      due = are_for_same old new cs c.make_room_for.ensures.same c.loop-due.invariant.due;
      enough = λ h has stored.
          let now = has_same c.args.sessions.now.list old h c.loop-due.invariant.same has in
          let says = subst (λ (ms : List Message). all_fit (for_key d.0 ms ++ rest) h ≡ (c.in_ok-make_room_for.field-0 && all_fit rest h)) (c.from_ref.ensures.value ∙ ap (λ (m : Message). m ∷ []) c.message.ensures)
          (c.in_ok-make_room_for.ensures.enough rest h now stored none) in
          c.loop-due.invariant.enough h has stored ∙ ap (λ (xs : List (ℕ × Message)). all_fit xs h) front ∙ says
          ∙ ap (λ (b : Bool). b && all_fit rest h) enough
          ∙ ap (λ (n : ℕ). all_fit (drop n cs) h) (sym one);
      ready = subst (λ (n : ℕ). AreReady c.args.more new (take n cs)) (sym one)
          (all_more (λ x. IsReadyAt x.0 (x.1 ∷ []) c.args.more new) cs i d l (still_all c.args.more old new (take i cs) c.make_room_for.ensures.still c.loop-due.invariant.ready) own_ready);
      same = c.make_room_for.ensures.same ∙ c.loop-due.invariant.same;
      still = λ key ms more was. c.make_room_for.ensures.still key ms more (c.loop-due.invariant.still key ms more was);
      room = c.make_room_for.ensures.room ∙ c.loop-due.invariant.room;
    }

pub returns-clause-enough : goal.returns-clause-enough
returns-clause-enough c = λ h has stored.
    let cs = c.args.copies.now in
    let i = c.loop-due.due-index in
    sym (c.loop-due.invariant.enough h has stored ∙ ap (λ (xs : List (ℕ × Message)). all_fit xs h) (ended cs i (omega (arith, c.loop-due-test.false))) ∙ fit_none h)
