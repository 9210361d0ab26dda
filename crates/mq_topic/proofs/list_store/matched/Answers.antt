use Rattle.std.proofs.Common.{sym, ◌∙◌}
use Rattle.mq_topic.specs.Rows.{Row, matched}
use Rattle.mq_topic.proofs.Greatest.{matched-is, matched-once, walked-end, walked-noted, walked-start}
use Rattle.mq_topic.proofs.list_store.matched.Goals as goal

pub rows-init : goal.rows-init
rows-init c = rw (c.new-found.ensures.items, c.into_iter-key-iterator.ensures.into_iter_gives, c.iter-key-items.ensures.rest) (walked-start c.args.name.now c.args.rows.now.entries c.requires)

pub rows-preserved-in-Continue-1 : goal.rows-preserved-in-Continue-1
rows-preserved-in-Continue-1 c =
    let rows = c.args.rows.now.entries in
    let row : Row = (c.in-Some.key.now, c.in-Some.qos.now) in
    let walked = rw c.in-Some.ensures.steps at c.rows.invariant in
    let fits = sym c.matches.ensures.value ∙ c.if-matches.true in
    rw c.in_ok-note.ensures (walked-noted c.args.name.now rows c.next.new.self c.rows.found.items row fits walked)

pub returns-clause-value : goal.returns-clause-value
returns-clause-value c =
    let name = c.args.name.now in
    let rows = c.args.rows.now.entries in
    let walked = rw c.in-None.ensures.steps.0 at c.rows.invariant in
    matched-once name rows c.rows.found.items (matched name rows) (walked-end name rows c.rows.found.items walked) (matched-is name rows)

pub returns-clause-greatest : goal.returns-clause-greatest
returns-clause-greatest c =
    let walked = rw c.in-None.ensures.steps.0 at c.rows.invariant in
    walked-end c.args.name.now c.args.rows.now.entries c.rows.found.items walked
