use Rattle.std.proofs.Common.{◌≡◌, ◌++◌}
use Rattle.mq_topic.proofs.trie_store.listed.Given as goal

-- The list and the remaining entries are all entries that were found.
abbrev pub invariant-found : goal.invariant-found
invariant-found l = l.list.items ++ l.client-iterator ≡ l.found.entries
