-- The names that the source files of this crate cite. It declares none of its own.
pub use Rattle.mq_durable.specs.Recorded.{events_of, events_in}
pub use Rattle.mq_durable.specs.Inside.Recorded.{AreReadable, events_in_all}
pub use Rattle.mq_file.specs.History.{MayLeave, seen_after}
pub use Rattle.mq_log.specs.Blocks.{at_rest, gate, rest, tail_of}
pub use Rattle.mq_log.specs.Journal.{IsSettled}
pub use Rattle.mq_record.specs.Reading.{IsEntry}
pub use Rattle.mq_route.specs.Hub.{HubState}
pub use Rattle.mq_route.specs.Snapshot.{eight, IsStorable, restored, snapshot, IsKeptWhole}
pub use Rattle.mq_store.specs.Configuration.{bool_number, bound_bytes, config_bytes, hashed_bytes, hashed_table, hashed_users_bytes, limit_bytes, option_bytes, packet_bytes, text_bytes, user_bytes, user_table, users_bytes, when_full_number}
pub use Rattle.mq_store.specs.Continued.{HasNext, IsContinued, IsFull, MayContinue, MayHaveNext, journal_path, next_snapshot, snapshot_path}
pub use Rattle.mq_store.specs.Inside.Continued.{next_path}
pub use Rattle.mq_store.specs.Faults.{of_folder, of_recovery, of_disk, of_commit, of_part}
pub use Rattle.mq_store.specs.Inside.Faults.{of_configuration}
pub use Rattle.mq_store.specs.Restoring.{MayBeLeft, EndsAfter, IsEnded, IsRestored, IsFound, IsOpened}
pub use Rattle.mq_store.specs.Inside.Restoring.{may_end}
pub use Rattle.mq_store.specs.SnapshotFile.{parts_of, with_digest, file_signature, saved_file}
pub use Rattle.mq_store.specs.declared.fault.StoreError.TheVariants.{Memory}
