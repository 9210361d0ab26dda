-- The names that the source files of this crate cite. It declares none of its own.
pub use Rattle.std.specs.Borrow.{ftrue}
pub use Rattle.std.specs.IoError.{error_kind}
pub use Rattle.mq_log.specs.Disk.{Elapses, Follows, HasCause, Holds, Torn}
pub use Rattle.mq_file.specs.FolderHistory.{files_after, IsNoted}
pub use Rattle.mq_file.specs.Folders.{IsNotWritten}
pub use Rattle.mq_file.specs.Inside.Folders.{lock_error}
pub use Rattle.mq_file.specs.History.{LeftSince, MayLeave, failures, file_size, seen_after, FileCall}
pub use Rattle.mq_file.specs.Inside.History.{call_of}
pub use Rattle.mq_file.specs.Named.{AreApart, IsEitherPair, IsSwitched, Removed, Throughout, Content, Files, IsOldOrNew, IsReplaced, Leads, OthersStay, Related, Renamed, Synced, Unchanged, Writes}
pub use Rattle.mq_file.specs.Inside.Named.{OthersAreKept}
pub use Rattle.mq_file.specs.Times.{left_now, now_only}
