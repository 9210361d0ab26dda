use Rattle.std.proofs.Common.{rules as fast, inl, inr, ◌≡◌, ◌∙◌, ◌++◌, ◌∷◌, ◌&&◌, [], ℕ, Bool, List, Ok, not, refl, sym, ap, ap₂, subst, true≢false}
use Rattle.mq_packet.specs.declared.message.Message.{Message}
use Rattle.mq_route.specs.declared.act.Act.TheVariants as acts
use Rattle.mq_route.specs.Hub.{for_key}
use Rattle.mq_route.specs.Work.{all_fit, drops_copies}
use Rattle.mq_tables.specs.declared.rules.CopyRules.{CopyRules}
use Rattle.mq_tables.specs.Publishing.{IsReadyAt}
use Rattle.mq_hub.specs.Inside.Placement.{AreReady, IsFor, is_cut}
use Rattle.mq_hub.proofs.DeliveryInvariant.{all_last}
use Rattle.mq_hub.proofs.SessionRoom.{plain_fits, still_all}
use Rattle.mq_hub.proofs.MissedCopies.{and_no, cut_plain, misses_cut, misses_here, settled_kept, settled_missed}
use Rattle.mq_hub.proofs.publish.settle.settle_copy.Goals as goal

pub make_room_for-requires : goal.make_room_for-requires
make_room_for-requires c = subst (λ (ms : List Message). IsFor c.args.key ms c.args.sessions.now.list) (sym (c.from_ref.ensures.value ∙ ap (λ (m : Message). m ∷ []) c.message-3.ensures)) c.requires

-- the output has no room for the copy

pub returns-then-is_cut-clause-settles : goal.returns-then-is_cut-clause-settles
returns-then-is_cut-clause-settles c = λ done h has same.
    let ts = c.args.sessions.now.list in
    let d : ℕ × Message = (c.args.key, c.args.message) in
    let cut = ap (λ (r : CopyRules). is_cut r.most_waiting c.args.queued ts d) same ∙ (ap (λ (m : Message). is_cut c.args.rules.most_waiting c.args.queued c.args.sessions.now.list (c.args.key, m)) (sym c.message-2.ensures) ∙ sym c.is_cut.ensures) ∙ c.if-is_cut.true in
    settled_missed h.config (λ k. c.args.queued) ts d c.args.settled.now (record { kept = c.args.settled.now.kept; acts = c.push.new.self })
    (misses_cut h.config (λ k. c.args.queued) ts d cut) refl
    (c.in_ok-push.ensures.items ∙ ap (λ (m : Message). c.args.settled.now.acts.items ++ acts.Missed c.args.key m ∷ []) c.into_message.ensures)

pub returns-then-is_cut-clause-enough : goal.returns-then-is_cut-clause-enough
returns-then-is_cut-clause-enough c = λ cs h has same none closes.
    let d : ℕ × Message = (c.args.key, c.args.message) in
    plain_fits c.args.key c.args.message cs h (cut_plain c.args.rules.most_waiting c.args.queued c.args.sessions.now.list d ((ap (λ (m : Message). is_cut c.args.rules.most_waiting c.args.queued c.args.sessions.now.list (c.args.key, m)) (sym c.message-2.ensures) ∙ sym c.is_cut.ensures) ∙ c.if-is_cut.true))

pub returns-then-is_cut-clause-kept : goal.returns-then-is_cut-clause-kept
returns-then-is_cut-clause-kept c = λ done. inl refl

-- the session has room for it

pub returns-then-branch-clause-settles : goal.returns-then-branch-clause-settles
returns-then-branch-clause-settles c = λ done h has same.
    let ts = c.args.sessions.now.list in
    let d : ℕ × Message = (c.args.key, c.args.message) in
    let whole = ap (λ (r : CopyRules). is_cut r.most_waiting c.args.queued ts d) same ∙ (ap (λ (m : Message). is_cut c.args.rules.most_waiting c.args.queued c.args.sessions.now.list (c.args.key, m)) (sym c.message-2.ensures) ∙ sym c.is_cut.ensures) ∙ c.if-is_cut.false in
    let stored = ap (λ (r : CopyRules). r.most_stored) same in
    let fits = c.in_ok-make_room_for.ensures.one c.args.message h has stored (c.from_ref.ensures.value ∙ ap (λ (m : Message). m ∷ []) c.message-3.ensures) ∙ ap not c.if-branch.true in
    let goes = misses_here (λ k. c.args.queued) d ts h has whole ∙ ap (λ (b : Bool). drops_copies h.config.when_full && b) fits ∙ and_no (drops_copies h.config.when_full) in
    let cloned : c.in_ok-placed.placed ≡ c.args.message = search fast in
    settled_kept h.config (λ k. c.args.queued) ts d c.args.settled.now (record { kept = c.push-then-branch-2.new.self; acts = c.push-then-branch.new.self }) goes c.in_ok-push-3.ensures.items
    (c.in_ok-push-2.ensures.items ∙ ap (λ (m : Message). c.args.settled.now.acts.items ++ acts.Placed c.args.key m ∷ []) cloned)

pub returns-then-branch-clause-enough : goal.returns-then-branch-clause-enough
returns-then-branch-clause-enough c = λ cs h has same none closes.
    let stored = ap (λ (r : CopyRules). r.most_stored) same in
    subst (λ (ms : List Message). all_fit (for_key c.args.key ms ++ cs) h ≡ (c.in_ok-make_room_for.field-0 && all_fit cs h)) (c.from_ref.ensures.value ∙ ap (λ (m : Message). m ∷ []) c.message-3.ensures)
    (c.in_ok-make_room_for.ensures.enough cs h has stored none)
    ∙ ap (λ (b : Bool). b && all_fit cs h) c.if-branch.true

pub returns-then-branch-clause-ready : goal.returns-then-branch-clause-ready
returns-then-branch-clause-ready c = λ done was.
    let old = c.args.sessions.now.list in
    let new = c.make_room_for.new.sessions.list in
    let kept = c.args.settled.now.kept.items in
    let own = subst (λ (ms : List Message). IsReadyAt c.args.key ms c.args.more new) (c.from_ref.ensures.value ∙ ap (λ (m : Message). m ∷ []) c.message-3.ensures)
    (c.in_ok-make_room_for.ensures.ready (ap (λ (b : Bool). Ok b) c.if-branch.true)) in
    subst (λ (xs : List (ℕ × Message)). AreReady c.args.more new xs) (sym c.in_ok-push-3.ensures.items)
    (all_last (λ x. IsReadyAt x.0 (x.1 ∷ []) c.args.more new) kept (c.args.key, c.args.message)
    (still_all c.args.more old new kept c.make_room_for.ensures.still was) own)

pub returns-then-branch-clause-kept : goal.returns-then-branch-clause-kept
returns-then-branch-clause-kept c = λ done. inr c.in_ok-push-3.ensures.items

-- it has none, and the publisher is to be closed

pub returns-then-not-drops_copies-clause-enough : goal.returns-then-not-drops_copies-clause-enough
returns-then-not-drops_copies-clause-enough c = λ cs h has same none closes.
    let stored = ap (λ (r : CopyRules). r.most_stored) same in
    subst (λ (ms : List Message). all_fit (for_key c.args.key ms ++ cs) h ≡ (c.in_ok-make_room_for.field-0 && all_fit cs h)) (c.from_ref.ensures.value ∙ ap (λ (m : Message). m ∷ []) c.message-3.ensures)
    (c.in_ok-make_room_for.ensures.enough cs h has stored none)
    ∙ ap (λ (b : Bool). b && all_fit cs h) c.if-branch.false

pub returns-then-not-drops_copies-clause-dropped : goal.returns-then-not-drops_copies-clause-dropped
returns-then-not-drops_copies-clause-dropped c = λ drops. absurd (true≢false (sym drops ∙ sym c.drops_copies.ensures ∙ c.if-not-drops_copies.true))

-- it has none, and the copy is missed

pub returns-clause-settles : goal.returns-clause-settles
returns-clause-settles c = λ done h has same.
    let ts = c.args.sessions.now.list in
    let d : ℕ × Message = (c.args.key, c.args.message) in
    let whole = ap (λ (r : CopyRules). is_cut r.most_waiting c.args.queued ts d) same ∙ (ap (λ (m : Message). is_cut c.args.rules.most_waiting c.args.queued c.args.sessions.now.list (c.args.key, m)) (sym c.message-2.ensures) ∙ sym c.is_cut.ensures) ∙ c.if-is_cut.false in
    let stored = ap (λ (r : CopyRules). r.most_stored) same in
    let lacks = c.in_ok-make_room_for.ensures.one c.args.message h has stored (c.from_ref.ensures.value ∙ ap (λ (m : Message). m ∷ []) c.message-3.ensures) ∙ ap not c.if-branch.false in
    let drops = ap (λ (r : CopyRules). drops_copies r.when_full) same ∙ sym c.drops_copies.ensures ∙ c.if-not-drops_copies.false in
    let missed = misses_here (λ k. c.args.queued) d ts h has whole ∙ ap₂ (λ (a b : Bool). a && b) drops lacks in
    settled_missed h.config (λ k. c.args.queued) ts d c.args.settled.now (record { kept = c.args.settled.now.kept; acts = c.push-2.new.self }) missed refl
    (c.in_ok-push-4.ensures.items ∙ ap (λ (m : Message). c.args.settled.now.acts.items ++ acts.Missed c.args.key m ∷ []) c.into_message-2.ensures)

pub returns-clause-enough : goal.returns-clause-enough
returns-clause-enough c = λ cs h has same none closes. absurd (true≢false (sym c.if-not-drops_copies.false ∙ c.drops_copies.ensures ∙ closes))

pub returns-clause-ready : goal.returns-clause-ready
returns-clause-ready c = λ done was.
    still_all c.args.more c.args.sessions.now.list c.make_room_for.new.sessions.list c.args.settled.now.kept.items c.make_room_for.ensures.still was

pub returns-clause-kept : goal.returns-clause-kept
returns-clause-kept c = λ done. inl refl
