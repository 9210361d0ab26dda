-- Reasons of a worker to stop.
use Rattle.mq_book.specs.declared.refusal.BookRefusal.{BookRefusal}
use Rattle.mq_book.specs.declared.refusal.BookRefusal.TheVariants as refusals
use Rattle.mq_book.specs.declared.work_end.WorkEnd.{WorkEnd}
use Rattle.mq_book.specs.declared.work_end.WorkEnd.TheVariants as ends

-- the reason of a worker whose step a book refused
abbrev pub end_of : BookRefusal → WorkEnd
end_of refusals.JournalFull = ends.JournalFull
end_of refusals.Memory = ends.Memory
end_of (refusals.Hub why) = ends.Hub why
