use Rattle.std.proofs.Common.{◌∷◌, T, subst}
use Rattle.std.specs.Cmp.Lexicographic.{slice_cmp}
use Rattle.std.specs.FinMap.{is_sorted}
use Rattle.std.specs.FinMap.Entries.{below_all}
use Rattle.std.specs.Ordering.{nat_cmp}
use Rattle.mq_topic.specs.Tree.{IsTrieOf}
use Rattle.mq_topic.specs.TrieView.{tree}
use Rattle.mq_topic.proofs.Gathering.{ordered-sorted}
use Rattle.mq_topic.proofs.Leaving.{left_of, leaves_all, leaves_none, leaves_one}
use Rattle.mq_topic.proofs.Placing.{second}
use Rattle.mq_topic.proofs.trie_store.unlink_all.Goals as goal

pub rows-init : goal.rows-init
rows-init c =
    let entries = c.args.own.now.entries in
    rw (c.into_iter-filter-iterator.ensures.into_iter_gives, c.iter-filter-items.ensures.rest)
    (record {
      ascending = ordered-sorted (slice_cmp nat_cmp) entries c.iter-filter-items.ensures.ordered;
      stands = λ row same h. leaves_all row c.args.client entries (tree c.args.trie.now) same h;
    })

pub rows-preserved : goal.rows-preserved
rows-preserved c =
    let client = c.args.client in
    let f = c.in-Some.filter.now in
    let q = c.in-Some.field-0-1.now in
    let rest = c.next.new.self in
    let steps = c.in-Some.ensures.steps in
    let sorted : T (is_sorted (slice_cmp nat_cmp) ((f, q) ∷ rest)) = subst (λ xs. T (is_sorted (slice_cmp nat_cmp) xs)) steps c.rows.invariant.ascending in
    record {
      ascending = second (below_all (slice_cmp nat_cmp) f rest) (is_sorted (slice_cmp nat_cmp) rest) sorted;
      stands = λ row same h.
          let before : IsTrieOf (left_of row client ((f, q) ∷ rest)) (tree c.rows.trie) = subst (λ xs. IsTrieOf (left_of row client xs) (tree c.rows.trie)) steps (c.rows.invariant.stands row same h) in
          leaves_one row client f q rest sorted (tree c.unlink.new.trie) (c.unlink.ensures (left_of row client ((f, q) ∷ rest)) before);
    }

pub returns : goal.returns
returns c = λ row same h.
    leaves_none row c.args.client (tree c.rows.trie) (subst (λ xs. IsTrieOf (left_of row c.args.client xs) (tree c.rows.trie)) c.in-None.ensures.steps.0 (c.rows.invariant.stands row same h))
