use Rattle.std.proofs.Common.{Some, sym, ap, ◌∙◌}
use Rattle.mq_topic.specs.Rows.{greater_of}
use Rattle.mq_topic.proofs.Gathering.{noted, qos_of-lookup}
use Rattle.mq_topic.proofs.Nodes.{is_client-other}
use Rattle.mq_topic.proofs.trie_walk.note.Goals as goal

pub returns : goal.returns
returns c =
    let client = c.args.client in
    let old = c.args.found.now.entries in
    let new = c.insert.new.self.entries in
    let was = qos_of-lookup client old ∙ sym c.get.ensures.value ∙ sym c.copied.ensures in
    let updates = c.in_ok-insert.ensures.updates in
    noted client c.args.qos old new
    (qos_of-lookup client new ∙ updates.1 ∙ ap (λ q. Some q) (c.greater_of-greatest.ensures ∙ ap (greater_of c.args.qos) (sym was)))
    (λ d ne. qos_of-lookup d new ∙ updates.2 d (is_client-other client d (λ e. ne (sym e))) ∙ sym (qos_of-lookup d old))
