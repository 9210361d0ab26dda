use Rattle.std.proofs.Common.{◌≡◌, ◌∙◌, ◌+◌, ◌<◌, ℕ, suc, Option, length, drop, sym, ap, ap₂, add-one, arith, eq-eqb}
use Rattle.std.proofs.lemmas.Bool.{ne_eqb}
use Rattle.mq_tables.specs.Rules.{fits_left, left_of}
use Rattle.mq_tables.proofs.FittingMessages.{ended, fits_in, fits_next, fits_no_more, fits_none, fits_plain, fits_too_many, front}
use Rattle.mq_tables.proofs.sessions.session.fits.Goals as goal
use Rattle.mq_tables.proofs.sessions.session.fits.Goals.{then-has_identifier+else-unused-eq0+else-not-fits_left, else-has_identifier}

pub returns-then-unused-eq0 : goal.returns-then-unused-eq0
returns-then-unused-eq0 c =
    let ms = c.args.messages.now in
    let at = c.loop-message in
    let i = at.message-index in
    let m = c.message-item.result in
    let l : i < length ms = omega (arith, c.loop-message-test.true) in
    let has = sym c.has_identifier.ensures ∙ c.if-has_identifier.true in
    sym (at.invariant ∙ ap (fits_in at.unused at.left) (front ms i m l c.message-item.is)
    ∙ fits_no_more at.unused at.left m (drop (suc i) ms) has (eq-eqb at.unused 0 c.if-unused-eq0.true))

pub returns-then-not-fits_left : goal.returns-then-not-fits_left
returns-then-not-fits_left c =
    let ms = c.args.messages.now in
    let at = c.loop-message in
    let i = at.message-index in
    let m = c.message-item.result in
    let l : i < length ms = omega (arith, c.loop-message-test.true) in
    let has = sym c.has_identifier.ensures ∙ c.if-has_identifier.true in
    let short = ap (fits_left at.left) (sym c.message_bytes-bytes.ensures.value) ∙ sym c.fits_left.ensures ∙ c.if-not-fits_left.true in
    sym (at.invariant ∙ ap (fits_in at.unused at.left) (front ms i m l c.message-item.is)
    ∙ fits_too_many at.unused at.left m (drop (suc i) ms) has short)

pub loop-message-preserved : goal.loop-message-preserved
loop-message-preserved c =
    let ms = c.args.messages.now in
    let at = c.loop-message in
    let i = at.message-index in
    let m = c.message-item.result in
    let l : i < length ms = omega (arith, c.loop-message-test.true) in
    let rest = drop (suc i) ms in
    let was = at.invariant ∙ ap (fits_in at.unused at.left) (front ms i m l c.message-item.is) in
    let one : i + 1 ≡ suc i = add-one i in
    let goes = ap (λ (n : ℕ). fits_in c.if-has_identifier.unused c.if-has_identifier.left (drop n ms)) (sym one) in
    elim c.if-has_identifier.branch [
      | then-has_identifier+else-unused-eq0+else-not-fits_left w ↦
          let has = sym c.has_identifier.ensures ∙ w.if-has_identifier.true in
          let bytes = w.message_bytes-bytes.ensures.value in
          let fits = ap (fits_left at.left) (sym bytes) ∙ sym w.fits_left.ensures ∙ w.if-not-fits_left.false in
          was ∙ fits_next at.unused at.left m rest has (ne_eqb at.unused 0 (λ z. omega (arith, z, w.if-unused-eq0.false))) fits
          ∙ ap₂ (λ (n : ℕ) (o : Option ℕ). fits_in n o rest) (sym w.unused-is) (ap (left_of at.left) (sym bytes) ∙ sym w.left_of-left.ensures ∙ sym w.left-is)
          ∙ goes
      | else-has_identifier w ↦
          was ∙ fits_plain at.unused at.left m rest (sym c.has_identifier.ensures ∙ w.if-has_identifier.false)
          ∙ ap₂ (λ (n : ℕ) (o : Option ℕ). fits_in n o rest) (sym w.unused-is) (sym w.left-is)
          ∙ goes
    ]

pub returns : goal.returns
returns c =
    let ms = c.args.messages.now in
    let at = c.loop-message in
    sym (at.invariant ∙ ap (fits_in at.unused at.left) (ended ms at.message-index (omega (arith, c.loop-message-test.false))) ∙ fits_none at.unused at.left)
