use Rattle.std.proofs.Common.{sym, ◌∙◌}
use Rattle.mq_topic.specs.Inside.Matching.{levels_left}
use Rattle.mq_topic.proofs.Fitting.{fits-hash, fits-next, fits-other, fits-none, is_none-answer}
use Rattle.mq_topic.proofs.matching.levels_fit.Goals as goal

pub returns-then-is_hash_alone : goal.returns-then-is_hash_alone
returns-then-is_hash_alone c =
    let first = c.first_level.result in
    let turn = rw (c.in-Some.is, c.first_level.ensures.levels) at c.levels.invariant in
    let hash = sym c.is_hash_alone.ensures ∙ c.if-is_hash_alone.true in
    sym (fits-hash first.0.now (levels_left first.1) (levels_left c.levels.name_left) hash) ∙ turn

pub returns-in_default-name_left : goal.returns-in_default-name_left
returns-in_default-name_left c =
    let turn = rw (c.in-Some.is, c.first_level.ensures.levels, c.in_default-name_left.is) at c.levels.invariant in
    let more = sym c.is_hash_alone.ensures ∙ c.if-is_hash_alone.false in
    sym more ∙ turn

pub returns-then-not-fits_level : goal.returns-then-not-fits_level
returns-then-not-fits_level c =
    let first = c.first_level.result in
    let other = c.first_level-in-Some.result in
    let turn = rw (c.in-Some.is, c.first_level.ensures.levels, c.in-Some-name_left.is, c.first_level-in-Some.ensures.levels) at c.levels.invariant in
    let more = sym c.is_hash_alone.ensures ∙ c.if-is_hash_alone.false in
    let differs = sym c.fits_level.ensures ∙ c.if-not-fits_level.true in
    sym (fits-other first.0.now other.0.now (levels_left first.1) (levels_left other.1) more differs) ∙ turn

pub levels-preserved : goal.levels-preserved
levels-preserved c =
    let first = c.first_level.result in
    let other = c.first_level-in-Some.result in
    let turn = rw (c.in-Some.is, c.first_level.ensures.levels, c.in-Some-name_left.is, c.first_level-in-Some.ensures.levels) at c.levels.invariant in
    let more = sym c.is_hash_alone.ensures ∙ c.if-is_hash_alone.false in
    let same = sym c.fits_level.ensures ∙ c.if-not-fits_level.false in
    sym (fits-next first.0.now other.0.now (levels_left first.1) (levels_left other.1) more same) ∙ turn

pub returns : goal.returns
returns c =
    is_none-answer c.levels.name_left c.is_none.result c.is_none.ensures ∙ sym (fits-none c.levels.name_left) ∙ rw c.in_default.is at c.levels.invariant
