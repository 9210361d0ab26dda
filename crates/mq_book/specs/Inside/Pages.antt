-- A book, a journal and a share, as contracts see them. Only proofs cite these definitions.
use Rattle.std.specs.Prelude.{◌≤◌, ◌⊎◌, length, Option, Some, None}
use Rattle.mq_book.specs.Pages.{Pages, Sealed, after_checkpoint, weight}

-- the book after a checkpoint, if it handed out this journal
abbrev pub checkpointed : Pages → Option Sealed → Pages
checkpointed book None = book
checkpointed book (Some journal) = after_checkpoint book

-- the journal must be handed out before the next step: it is full, or larger than 16 MiB
abbrev pub IsDue : Pages → Type 0
IsDue book = (book.limit ≤ length book.entries) ⊎ (16777216 ≤ weight book.entries)
