-- The names that the source files of this crate cite. It declares none of its own.
pub use Rattle.std.specs.Arc.{arc_str_bytes}
pub use Rattle.std.specs.Bool.{MatchBool}
pub use Rattle.std.specs.Cmp.{partial_equiv_from_equiv}
pub use Rattle.std.specs.Cmp.Lexicographic.{slice_cmp, pointwise, nat_list_eq_equiv, nat_list_cmp_total, texts_ties, texts_po}
pub use Rattle.std.specs.Cmp.Rules.{hashing}
pub use Rattle.std.specs.FinMap.{find, is_sorted, put}
pub use Rattle.std.specs.List.{prefix_len, list_any}
pub use Rattle.std.specs.Map.{lookup}
pub use Rattle.std.specs.Ordering.{nat_cmp, is_eq, is_lt}
pub use Rattle.indexmap.specs.IndexMap.{index_map_len}
pub use Rattle.slab.specs.Slab.{slab_len}
pub use Rattle.mq_topic.specs.ClientRows.{own_rows}
pub use Rattle.mq_topic.specs.Fault.{text_fault, topic_code, filter_fault, name_fault}
pub use Rattle.mq_topic.specs.Inside.Found.{Among, Finds, Gathers, IsAt, IsThere, Steps}
pub use Rattle.mq_topic.specs.Laws.{TopicLaws}
pub use Rattle.mq_topic.specs.Match.{Match}
pub use Rattle.mq_topic.specs.Matching.{fits, fits_level, is_hash_alone, is_hidden, is_match, begins, is_dollar}
pub use Rattle.mq_topic.specs.Inside.Matching.{levels_left}
pub use Rattle.mq_topic.specs.NodeView.{child_beside, child_in, own_child, client_in, child_numbered, mapped_child}
pub use Rattle.mq_topic.specs.Inside.NodeView.{ChildIn, is_own, ClientIn}
pub use Rattle.mq_topic.specs.Prefixes.{PrefixCount}
pub use Rattle.mq_topic.specs.Qos.{greater, qos_number, qos_from}
pub use Rattle.mq_topic.specs.Rows.{IsAscending, row_qos, with_row, without_client, without_row, Row, IsMatched, greater_of, is_key, key_cmp, matched, qos_of}
pub use Rattle.mq_topic.specs.Inside.Rows.{UpTo}
pub use Rattle.mq_topic.specs.StoreLaws.{StoreLaws}
pub use Rattle.mq_topic.specs.Topic.{IsTopicFilter, is_topic_filter, level_fault, levels, levels_fault, IsTopicName, is_topic_name, is_wildcard}
pub use Rattle.mq_topic.specs.Tree.{Cut, IsPlace, IsTrieOf, client_from, IsLinked, Leads, RowMap, without}
pub use Rattle.mq_topic.specs.Inside.Tree.{ChildIs, ClientIs, Grown, IsBare, IsUsed, SameTree, row_with, without_all, IsTrieUpTo}
pub use Rattle.mq_topic.specs.TrieView.{child_of, client_of, tree}
pub use Rattle.mq_topic.specs.declared.trie_nodes.NodeId.{NodeId}
