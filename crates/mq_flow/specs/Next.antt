-- The identifier that the next packet gets, as a function (2.3.1).
use Rattle.std.specs.Prelude.{ℕ, zero, suc, ◌+◌, ◌≤◌, ◌≡◌, false, if◌then◌else◌, List, ◌==◌, nat_lt}
use Rattle.std.specs.List.{list_any}
use Rattle.mq_flow.specs.Sender.{SenderBook, IsFirstFree, is_full, uses}

-- the identifier after this one, counted round from 65,535 to 1
abbrev pub following : ℕ → ℕ
following id = if nat_lt id 65535 then id + 1 else 1

-- The first identifier that is not in use among the next `count + 1`.
abbrev pub free_after : ℕ → ℕ → List ℕ → ℕ
free_after zero id used = following id
free_after (suc more) id used = if list_any (λ other. other == following id) used then free_after more (following id) used else following id

-- the first one after the identifier that was given last that is not in use (2.3.1)
unfoldable pub next_identifier : ℕ → SenderBook → ℕ
next_identifier last book = free_after 65535 last (uses book)

-- The next identifier is the first free one, wherever the book is not full, and there is no other
-- first free one.
pub record NextLaws : Type 0 where
  pub first : (capacity last : ℕ) (book : SenderBook) → capacity ≤ 65535 → is_full capacity book ≡ false → IsFirstFree last book (next_identifier last book)
  pub only : (last id : ℕ) (book : SenderBook) → IsFirstFree last book id → id ≡ next_identifier last book
