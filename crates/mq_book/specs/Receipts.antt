-- Receipts, compared with a journal.
use Rattle.std.specs.Prelude.{◌≡◌, ℕ, ◌+◌, ◌≤◌, List, [], ◌∷◌, Some, slice_get}
use Rattle.mq_book.specs.declared.entry.Entry.{Entry}
use Rattle.mq_book.specs.declared.entry.Receipt.{Receipt}

-- the journal has an entry at the receipt's place, with its worker and reply
abbrev pub StandsAt : ℕ → List Entry → Receipt → Type 0
StandsAt first entries receipt =
    (index : ℕ) × (entry : Entry) × (receipt.place ≡ first + index) × (slice_get entries index ≡ Some entry)
    × (entry.worker ≡ receipt.worker) × (entry.reply ≡ receipt.reply)

-- the journal has an entry for each receipt; their places strictly increase, from `from` on
abbrev pub Stand : ℕ → List Entry → ℕ → List Receipt → Type 0
Stand first entries from [] = Unit {0}
Stand first entries from (receipt ∷ rest) =
    (from ≤ receipt.place) × StandsAt first entries receipt × Stand first entries (receipt.place + 1) rest
