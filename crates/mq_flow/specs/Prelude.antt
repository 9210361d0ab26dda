-- The names that the source files of this crate cite. It declares none of its own.
pub use Rattle.std.specs.BTreeSet.{IsOrdered}
pub use Rattle.std.specs.Iterator.{at_most}
pub use Rattle.std.specs.List.{list_any, flat_map}
pub use Rattle.std.specs.Map.Iter.{TakesFirst, deref, ShowsInOrder, GivesInOrder}
pub use Rattle.std.specs.Ordering.{nat_cmp}
pub use Rattle.mq_packet.specs.Identifier.{IsIdentifier}
pub use Rattle.mq_topic.specs.Topic.{IsTopicName}
pub use Rattle.mq_topic.specs.declared.qos.Qos.TheVariants.{Q0, Q1, Q2}
pub use Rattle.mq_wire.specs.Number.{number}
pub use Rattle.mq_wire.specs.Text.{counted}
pub use Rattle.mq_flow.specs.Codes.{load_code, sender_code}
pub use Rattle.mq_flow.specs.Held.{messages, releases, pairs_in}
pub use Rattle.mq_flow.specs.Inside.Held.{bytes_under}
pub use Rattle.mq_flow.specs.Laws.{IdentifierLaws, ReceiverLaws, SendingLaws, StrayLaws, IsSound}
pub use Rattle.mq_flow.specs.Loading.{Gives, Loads, number_at, count_at, capacity_at, number_within, free_at, qos_at, flag_at, flags_at, topic_at, is_over_limit, payload_at, message_at, entry_at, with_entry_at, entries_at, with_released, with_released_at, released_at, sender_at, next_at, received_at, receiver_at, end_at, session_at, read_session, has_version, placed}
pub use Rattle.mq_flow.specs.Inside.Loading.{Same}
pub use Rattle.mq_flow.specs.Next.{NextLaws, next_identifier}
pub use Rattle.mq_flow.specs.Receiver.{none_received, is_new, on_publish, on_pubrel, AreIdentifiers}
pub use Rattle.mq_flow.specs.Saved.{Saved, IsSession, count, saved_payload, saved_flags, saved_entry, saved_ids, saved_sender, saved_receiver, saved_form, signature, without_claims, AreWithin}
pub use Rattle.mq_flow.specs.Inside.Saved.{HaveTopics, IsSenderWithin}
pub use Rattle.mq_flow.specs.SavedLaws.{SavedLaws, SavedTwoLaws}
pub use Rattle.mq_flow.specs.SavedTwo.{IsSavedAs, first_at, has_version_two, read_saved, saved_form_two, second_at, text_at}
pub use Rattle.mq_flow.specs.Sender.{on_puback, on_pubrec, on_pubcomp, puback_reaction, pubrec_reaction, pubcomp_reaction, IsFree, is_full, uses, blank_book, held, is_subscribe, resent, all_sent, publish_packet, same_qos, times, IsFirstFree, is_awaited, claim, release, no_claims, awaits_suback, awaits_unsuback}
pub use Rattle.mq_flow.specs.Stored.{stored_bytes, message_bytes, entry_bytes}
pub use Rattle.mq_flow.specs.Window.{fits_window}
pub use Rattle.mq_flow.specs.declared.entry.SenderEntry.{SenderEntry}
pub use Rattle.mq_flow.specs.declared.load.Unread.TheVariants.{Bad, Memory}
pub use Rattle.mq_flow.specs.declared.table.Held.{Held}
