-- The growth of a record.
use Rattle.std.specs.Prelude.{◌≡◌, ◌++◌, List}
use Rattle.mq_picture.specs.declared.entry.RecordEntry.{RecordEntry}
use Rattle.mq_picture.specs.declared.record.Recorder.{Recorder}
use Rattle.mq_picture.specs.Records.{unsent}

-- these entries were recorded, and perhaps packets that were sent
abbrev pub Records : Recorder → Recorder → List RecordEntry → Type 0
Records old new more = unsent new.entries.items ≡ unsent old.entries.items ++ more
