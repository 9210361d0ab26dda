use Rattle.std.proofs.Common.{◌≡◌, ap, refl}
use Rattle.std.proofs.lemmas.List.{nil_from_length}
use Rattle.std.proofs.lemmas.Map.Entries.{entries_from_clone}
use Rattle.std.specs.Map.{lookup}
use Rattle.std.specs.Ordering.{nat_cmp}
use Rattle.mq_topic.proofs.Gathering.{gathering_begins, gathering_ends, gathering_goes, gathers_copy, ordered-sorted}
use Rattle.mq_topic.proofs.Nodes.{is_client}
use Rattle.mq_topic.proofs.trie_walk.gather_map.Goals as goal

pub clients-init : goal.clients-init
clients-init c =
    let entries = c.args.clients.now.entries in
    rw (c.into_iter-client-iterator.ensures.into_iter_gives, c.iter-client-items.ensures.rest)
    (gathering_begins (λ d. lookup (is_client d) entries) c.args.found.now.entries entries (ordered-sorted nat_cmp entries c.iter-client-items.ensures.ordered) (λ d. refl))

pub clients-preserved : goal.clients-preserved
clients-preserved c =
    let walked = rw c.in-Some.ensures.steps at c.clients.invariant in
    gathering_goes (λ d. lookup (is_client d) c.args.clients.now.entries) c.args.found.now.entries c.clients.found.entries c.note.new.found.entries c.next.new.self
    (c.in-Some.client.now, c.in-Some.qos.now) walked c.in_ok-note.ensures

pub returns : goal.returns
returns c =
    let walked = rw c.in-None.ensures.steps.0 at c.clients.invariant in
    gathering_ends (λ d. lookup (is_client d) c.args.clients.now.entries) c.args.found.now.entries c.clients.found.entries walked

pub returns-then-is_empty : goal.returns-then-is_empty
returns-then-is_empty c =
    let entries = c.args.clients.now.entries in
    let copied : c.in_ok-found.field-0.entries ≡ entries = entries_from_clone _ _ (λ x y e. e) (λ v w e. e) entries c.in_ok-found.field-0.entries c.in_ok-found.ensures.cases in
    gathers_copy (λ d. lookup (is_client d) entries) c.args.found.now.entries c.in_ok-found.field-0.entries (nil_from_length c.args.found.now.entries (c.is_empty.ensures.0 c.if-is_empty.true)) (λ d. ap (lookup (is_client d)) copied)
