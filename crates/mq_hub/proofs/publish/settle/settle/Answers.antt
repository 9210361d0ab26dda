use Rattle.std.proofs.Common.{append-nil, ◌≡◌, ◌∙◌, ◌++◌, ◌∷◌, ◌&&◌, [], ℕ, Bool, List, Ok, cond, length, map, sym, ap, subst, arith, true≢false}
use Rattle.std.proofs.lemmas.List.{nil_from_length}
use Rattle.mq_packet.specs.declared.message.Message.{Message}
use Rattle.mq_route.specs.declared.act.Act.TheVariants as acts
use Rattle.mq_route.specs.Work.{all_fit, drops_copies}
use Rattle.mq_tables.specs.declared.rules.CopyRules.{CopyRules}
use Rattle.mq_hub.specs.Inside.Placement.{AreApart, AreFor, misses}
use Rattle.mq_hub.specs.Inside.QueuedAnswer.{answer_for}
use Rattle.mq_hub.proofs.MissedCopies.{acts_next, apart_later, apart_next, fitting, fitting_next, misses_same, not_true, room_all, room_lacks, settled_act, settles_apart}
use Rattle.mq_hub.proofs.SessionRoom.{are_for_same, fit_none, has_same}
use Rattle.mq_hub.proofs.publish.settle.settle.Goals as goal

pub settle_copy-requires : goal.settle_copy-requires
settle_copy-requires c = (subst (λ (xs : List (ℕ × Message)). AreFor c.loop-key.sessions.list xs) c.in-Some.ensures.steps.0 c.loop-key.invariant.due).0

pub loop-key-preserved : goal.loop-key-preserved
loop-key-preserved c =
    let at = c.loop-key in
    let rest = c.next.new.self.rest.items in
    let d : ℕ × Message = (c.in-Some.key, c.in-Some.message) in
    let first = c.args.sessions.now.list in
    let old = at.sessions.list in
    let new = c.settle_copy.new.sessions.list in
    let queued = answer_for c.args.answer in
    let steps : at.key-iterator.rest.items ≡ d ∷ rest = c.in-Some.ensures.steps.0 in
    let due = subst (λ (xs : List (ℕ × Message)). AreFor old xs) steps at.invariant.due in
    let now = at.settled in
    let next = c.settle_copy.new.settled in
    let goes = ap (λ (b : Bool). Ok b) c.if-not-branch.false in
    let apart = subst (λ (xs : List (ℕ × Message)). AreApart (now.kept.items ++ xs)) steps at.invariant.apart in
    record {
      due = are_for_same old new rest c.settle_copy.ensures.same due.1;
      apart = apart_next d rest now.kept.items next.kept.items apart (c.in_ok-settle_copy.ensures.kept goes);
      enough = λ h has same closes.
          at.invariant.enough h has same closes
          ∙ ap (λ (xs : List (ℕ × Message)). all_fit xs h) steps
          ∙ c.in_ok-settle_copy.ensures.enough rest h (has_same first old h at.invariant.same has) same (apart_later d now.kept.items rest apart) closes
          ∙ ap (λ (b : Bool). b && all_fit rest h) c.if-not-branch.false;
      kept = λ h has same.
          let one = c.in_ok-settle_copy.ensures.settles goes h (has_same first old h at.invariant.same has) same in
          let alike = ap (λ (n : ℕ). misses h.config (λ k. n) old d) c.answer_for-queued.ensures ∙ misses_same h.config queued first old d at.invariant.same in
          fitting_next h.config queued first d rest (fitting h.config queued first c.args.copies.items) now.kept.items next.kept.items
          (ap (λ (xs : List (ℕ × Message)). now.kept.items ++ fitting h.config queued first xs) (sym steps) ∙ at.invariant.kept h has same)
          (one.kept ∙ ap (λ (b : Bool). now.kept.items ++ cond b [] (d ∷ [])) alike);
      acts = λ h has same.
          let one = c.in_ok-settle_copy.ensures.settles goes h (has_same first old h at.invariant.same has) same in
          let alike = ap (λ (n : ℕ). misses h.config (λ k. n) old d) c.answer_for-queued.ensures ∙ misses_same h.config queued first old d at.invariant.same in
          acts_next h.config queued first d rest (map (settled_act h.config queued first) c.args.copies.items) now.acts.items next.acts.items
          (ap (λ (xs : List (ℕ × Message)). now.acts.items ++ map (settled_act h.config queued first) xs) (sym steps) ∙ at.invariant.acts h has same)
          (one.acts ∙ ap (λ (b : Bool). now.acts.items ++ cond b (acts.Missed d.0 d.1) (acts.Placed d.0 d.1) ∷ []) alike);
      count = let l = ap (λ (xs : List (ℕ × Message)). length xs) steps in omega (arith, l, at.invariant.count, c.in_ok-settle_copy.ensures.count goes);
      ready = c.in_ok-settle_copy.ensures.ready goes at.invariant.ready;
      same = c.settle_copy.ensures.same ∙ at.invariant.same;
      still = λ key ms more was. c.settle_copy.ensures.still key ms more (at.invariant.still key ms more was);
      room = c.settle_copy.ensures.room ∙ at.invariant.room;
    }

pub returns-in_err-settle_copy-clause-still : goal.returns-in_err-settle_copy-clause-still
returns-in_err-settle_copy-clause-still c = λ key ms more was. c.settle_copy.ensures.still key ms more (c.loop-key.invariant.still key ms more was)

-- a session has no room for its copy, which is not dropped

pub returns-then-not-branch-clause-still : goal.returns-then-not-branch-clause-still
returns-then-not-branch-clause-still c = λ key ms more was. c.settle_copy.ensures.still key ms more (c.loop-key.invariant.still key ms more was)

pub returns-then-not-branch-clause-enough : goal.returns-then-not-branch-clause-enough
returns-then-not-branch-clause-enough c = λ h has same.
    let at = c.loop-key in
    let rest = c.next.new.self.rest.items in
    let d : ℕ × Message = (c.in-Some.key, c.in-Some.message) in
    let first = c.args.sessions.now.list in
    let old = at.sessions.list in
    let steps : at.key-iterator.rest.items ≡ d ∷ rest = c.in-Some.ensures.steps.0 in
    let apart = subst (λ (xs : List (ℕ × Message)). AreApart (at.settled.kept.items ++ xs)) steps at.invariant.apart in
    let closes = not_true (drops_copies c.args.rules.when_full) (λ drops. true≢false (sym (c.in_ok-settle_copy.ensures.dropped drops) ∙ c.if-not-branch.true)) in
    let here = ap (λ (r : CopyRules). drops_copies r.when_full) same ∙ closes in
    room_lacks c.args.copies.items h here
    (at.invariant.enough h has same closes
    ∙ ap (λ (xs : List (ℕ × Message)). all_fit xs h) steps
    ∙ c.in_ok-settle_copy.ensures.enough rest h (has_same first old h at.invariant.same has) same (apart_later d at.settled.kept.items rest apart) closes
    ∙ ap (λ (b : Bool). b && all_fit rest h) c.if-not-branch.true)

-- all copies are settled

pub returns-clause-enough : goal.returns-clause-enough
returns-clause-enough c = λ h has same.
    let at = c.loop-key in
    let zero : length at.key-iterator.rest.items ≡ 0 = grind arith in
    let none : at.key-iterator.rest.items ≡ [] = nil_from_length at.key-iterator.rest.items zero in
    room_all c.args.copies.items h (λ here.
    at.invariant.enough h has same (ap (λ (r : CopyRules). drops_copies r.when_full) (sym same) ∙ here)
    ∙ ap (λ (xs : List (ℕ × Message)). all_fit xs h) none ∙ fit_none h)

pub returns-clause-settles : goal.returns-clause-settles
returns-clause-settles c = λ h has same.
    let at = c.loop-key in
    let first = c.args.sessions.now.list in
    let queued = answer_for c.args.answer in
    let zero : length at.key-iterator.rest.items ≡ 0 = grind arith in
    let none : at.key-iterator.rest.items ≡ [] = nil_from_length at.key-iterator.rest.items zero in
    settles_apart h.config queued first c.args.copies.items at.settled.kept.items at.settled.acts.items c.requires.apart
    (sym (append-nil at.settled.kept.items) ∙ ap (λ (xs : List (ℕ × Message)). at.settled.kept.items ++ fitting h.config queued first xs) (sym none) ∙ at.invariant.kept h has same)
    (sym (append-nil at.settled.acts.items) ∙ ap (λ (xs : List (ℕ × Message)). at.settled.acts.items ++ map (settled_act h.config queued first) xs) (sym none) ∙ at.invariant.acts h has same)

pub returns-clause-apart : goal.returns-clause-apart
returns-clause-apart c =
    let at = c.loop-key in
    let zero : length at.key-iterator.rest.items ≡ 0 = grind arith in
    let none : at.key-iterator.rest.items ≡ [] = nil_from_length at.key-iterator.rest.items zero in
    subst AreApart (ap (λ (xs : List (ℕ × Message)). at.settled.kept.items ++ xs) none ∙ append-nil at.settled.kept.items) at.invariant.apart
