-- Reading the saved form of a session (3.1.2.4, 4.1). Each reads a field from the front of the
-- bytes, and gives its value and the bytes after it; or else how many bytes there are from the bad
-- field on, to the end.
use Rattle.std.specs.Prelude.{◌≡◌, ℕ, zero, suc, ◌+◌, ◌-◌, ◌*◌, Bool, true, false, ◌&&◌, ◌||◌, if◌then◌else◌, List, [], ◌∷◌, ◌++◌, length, take, drop, ◌==◌, nat_le, nat_lt, nat_eq, Result, Ok, Err}
use Rattle.std.specs.List.{starts_with}
use Rattle.std.specs.Option.{is_none}
use Rattle.std.specs.Str.{is_utf8}
use Rattle.mq_topic.specs.declared.qos.Qos.{Qos}
use Rattle.mq_topic.specs.declared.qos.Qos.TheVariants.{Q1, Q2}
use Rattle.mq_topic.specs.Fault.{name_fault}
use Rattle.mq_packet.specs.declared.message.Message.{Message}
use Rattle.mq_flow.specs.declared.entry.SenderEntry.{SenderEntry}
use Rattle.mq_flow.specs.declared.load.Flags.{Flags}
use Rattle.mq_flow.specs.declared.load.Unread.{Unread}
use Rattle.mq_flow.specs.declared.load.Unread.TheVariants as unread
use Rattle.mq_flow.specs.declared.load.LoadError.{LoadError}
use Rattle.mq_flow.specs.declared.load.LoadError.TheVariants as errors
use Rattle.mq_flow.specs.declared.session.Session.{Session}
use Rattle.mq_flow.specs.Sender.{SenderBook, blank_book, uses, times, accept}
use Rattle.mq_flow.specs.Sending.{Sending}
use Rattle.mq_flow.specs.Receiver.{ReceiverBook, none_received, on_publish}
use Rattle.mq_flow.specs.Saved.{signature}

-- Reads one field after another, up to the first invalid one.
infixl 10 ◌>>=◌
abbrev pub ◌>>=◌ : {A B : Type 0} → Result A ℕ → (A → Result B ℕ) → Result B ℕ
(Ok x) >>= f = f x
(Err left) >>= f = Err left

-- the field at the front of these bytes is bad
abbrev pub bad_at : {A : Type 0} → List ℕ → Result A ℕ
bad_at bytes = Err (length bytes)

-- a number of two bytes
unfoldable pub number_at : List ℕ → Result (ℕ × List ℕ) ℕ
number_at [] = bad_at []
number_at (high ∷ []) = bad_at (high ∷ [])
number_at (high ∷ low ∷ rest) = Ok (256 * high + low, rest)

-- a number of four bytes
unfoldable pub count_at : List ℕ → Result (ℕ × List ℕ) ℕ
count_at bytes = if nat_lt (length bytes) 4 then bad_at bytes else (number_at bytes >>= λ high. number_at high.1 >>= λ low. Ok (65536 * high.0 + low.0, low.1))

-- a number from 1 on
unfoldable pub capacity_at : List ℕ → Result (ℕ × List ℕ) ℕ
capacity_at bytes = number_at bytes >>= λ capacity. if capacity.0 == 0 then bad_at bytes else Ok capacity

-- A number of items for which there is room.
unfoldable pub number_within : ℕ → List ℕ → Result (ℕ × List ℕ) ℕ
number_within room bytes = number_at bytes >>= λ number. if nat_lt room number.0 then bad_at bytes else Ok number

-- an identifier that is free (2.3.1)
unfoldable pub free_at : SenderBook → List ℕ → Result (ℕ × List ℕ) ℕ
free_at book bytes = number_at bytes >>= λ id. if id.0 == 0 || nat_lt 0 (times id.0 (uses book)) then bad_at bytes else Ok id

-- a quality of service over 0
unfoldable pub qos_at : List ℕ → Result (Qos × List ℕ) ℕ
qos_at [] = bad_at []
qos_at (byte ∷ rest) = if byte == 1 then Ok (Q1, rest) else (if byte == 2 then Ok (Q2, rest) else bad_at (byte ∷ rest))

-- 0 or 1
unfoldable pub flag_at : List ℕ → Result (Bool × List ℕ) ℕ
flag_at [] = bad_at []
flag_at (byte ∷ rest) = if byte == 0 then Ok (false, rest) else (if byte == 1 then Ok (true, rest) else bad_at (byte ∷ rest))

-- quality of service, whether it was sent, RETAIN
unfoldable pub flags_at : List ℕ → Result (Flags × List ℕ) ℕ
flags_at bytes = qos_at bytes >>= λ qos. flag_at qos.1 >>= λ sent. flag_at sent.1 >>= λ retain. Ok (record { qos = qos.0; sent = sent.0; retain = retain.0 }, retain.1)

-- UTF-8 that is a topic name (4.7)
abbrev pub is_topic : List ℕ → Bool
is_topic text = is_utf8 text && is_none (name_fault text)

-- a topic name, behind a count of two bytes
unfoldable pub topic_at : List ℕ → Result (List ℕ × List ℕ) ℕ
topic_at bytes = number_at bytes >>= λ size.
    if nat_lt (length size.1) size.0 then bad_at bytes else (if is_topic (take size.0 size.1) then Ok (take size.0 size.1, drop size.0 size.1) else bad_at bytes)

-- The PUBLISH with a topic name and a payload of these sizes has a remaining length over the limit
-- (2.2.3, 3.3).
abbrev pub is_over_limit : (limit : ℕ) → ℕ → ℕ → Bool
is_over_limit limit topic payload = nat_lt limit (2 + topic + 2 + payload)

-- A payload behind a length of four bytes; if it is invalid, its place is behind the length.
unfoldable pub payload_at : (limit : ℕ) → ℕ → List ℕ → Result (List ℕ × List ℕ) ℕ
payload_at limit topic bytes = count_at bytes >>= λ size. if is_over_limit limit topic size.0 || nat_lt (length size.1) size.0 then bad_at size.1 else Ok (take size.0 size.1, drop size.0 size.1)

unfoldable pub message_at : (limit : ℕ) → Flags → List ℕ → Result (Message × List ℕ) ℕ
message_at limit flags bytes = topic_at bytes >>= λ topic. payload_at limit (length topic.0) topic.1 >>= λ payload.
    Ok (record { topic = topic.0; payload = payload.0; qos = flags.qos; retain = flags.retain }, payload.1)

-- a message that is not acknowledged, with an identifier that is free before it
unfoldable pub entry_at : (limit : ℕ) → SenderBook → List ℕ → Result (SenderEntry × List ℕ) ℕ
entry_at limit book bytes = free_at book bytes >>= λ id. flags_at id.1 >>= λ flags. message_at limit flags.0 flags.1 >>= λ message.
    Ok (record { id = id.0; message = message.0; sent = flags.0.sent }, message.1)

-- the book with one entry more
unfoldable pub with_entry_at : (limit : ℕ) → SenderBook → List ℕ → Result (SenderBook × List ℕ) ℕ
with_entry_at limit book bytes = entry_at limit book bytes >>= λ entry. Ok (accept entry.0.id entry.0.message entry.0.sent book, entry.1)

-- The book with `count` more entries.
abbrev pub entries_at : (limit : ℕ) → ℕ → SenderBook → List ℕ → Result (SenderBook × List ℕ) ℕ
entries_at limit zero book bytes = Ok (book, bytes)
entries_at limit (suc more) book bytes = with_entry_at limit book bytes >>= λ next. entries_at limit more next.0 next.1

-- the book with one released identifier more
abbrev pub with_released : ℕ → SenderBook → SenderBook
with_released id book = record book { released = book.released ++ id ∷ [] }

unfoldable pub with_released_at : SenderBook → List ℕ → Result (SenderBook × List ℕ) ℕ
with_released_at book bytes = free_at book bytes >>= λ id. Ok (with_released id.0 book, id.1)

-- The book with `count` more released identifiers.
abbrev pub released_at : ℕ → SenderBook → List ℕ → Result (SenderBook × List ℕ) ℕ
released_at zero book bytes = Ok (book, bytes)
released_at (suc more) book bytes = with_released_at book bytes >>= λ next. released_at more next.0 next.1

-- how many identifiers are released, and they
abbrev pub released_within : ℕ → SenderBook → List ℕ → Result (SenderBook × List ℕ) ℕ
released_within room book bytes = number_within room bytes >>= λ count. released_at count.0 book count.1

-- The entries and the released identifiers, each list behind its length.
abbrev pub book_at : (limit : ℕ) → ℕ → List ℕ → Result (SenderBook × List ℕ) ℕ
book_at limit capacity bytes = number_within capacity bytes >>= λ count. entries_at limit count.0 blank_book count.1 >>= λ entries. released_within (capacity - count.0) entries.0 entries.1

-- The sender's state: the capacity, the identifier assigned last, the book.
unfoldable pub sender_at : (limit : ℕ) → List ℕ → Result (Sending × List ℕ) ℕ
sender_at limit bytes = capacity_at bytes >>= λ capacity. number_at capacity.1 >>= λ last. book_at limit capacity.0 last.1 >>= λ book.
    Ok (record { book = book.0; capacity = capacity.0; last = last.0; room = 0 }, book.1)

-- an identifier after this one
unfoldable pub next_at : ℕ → List ℕ → Result (ℕ × List ℕ) ℕ
next_at last bytes = number_at bytes >>= λ id. if nat_le id.0 last then bad_at bytes else Ok id

-- The set with `count` more identifiers in ascending order.
abbrev pub received_at : ℕ → ℕ → ReceiverBook → List ℕ → Result (ReceiverBook × List ℕ) ℕ
received_at zero last book bytes = Ok (book, bytes)
received_at (suc more) last book bytes = next_at last bytes >>= λ id. received_at more id.0 (on_publish id.0 book) id.1

-- the identifiers that were received: each from 1 on, ascending
unfoldable pub receiver_at : List ℕ → Result (ReceiverBook × List ℕ) ℕ
receiver_at bytes = number_at bytes >>= λ count. received_at count.0 0 none_received count.1

-- nothing follows
abbrev pub end_at : List ℕ → Result (Unit {0}) ℕ
end_at [] = Ok tt
end_at (byte ∷ bytes) = bad_at (byte ∷ bytes)

-- The rest behind the version.
unfoldable pub session_at : (limit : ℕ) → List ℕ → Result Session ℕ
session_at limit bytes = sender_at limit bytes >>= λ sender. receiver_at sender.1 >>= λ receiver. end_at receiver.1 >>= λ end. Ok (record { sender = sender.0; receiver = receiver.0 })

-- ---- the whole

-- the first four bytes are `MQS` and the version
abbrev pub has_version : List ℕ → Bool
has_version bytes = starts_with nat_eq bytes signature

-- the place of a bad field, from the beginning
abbrev pub placed : {A : Type 0} → ℕ → Result A ℕ → Result A LoadError
placed total (Ok x) = Ok x
placed total (Err left) = Err (errors.Malformed (total - left))

-- The session in a saved form, or why there is no session.
unfoldable pub read_session : List ℕ → Result Session LoadError
read_session bytes = if has_version bytes then placed (length bytes) (session_at 268435455 (drop 4 bytes)) else Err errors.Version

-- ---- The results of functions

-- the same, unless memory ran out
abbrev pub Fails : {Y : Type 0} → Unread → Result Y ℕ → Type 0
Fails unread.Memory read = Unit {0}
Fails (unread.Bad bad) read = read ≡ Err bad.left

abbrev pub Gives : {X Y : Type 0} → (X → Y) → Result X Unread → Result Y ℕ → Type 0
Gives view (Ok x) read = read ≡ Ok (view x)
Gives view (Err why) read = Fails why read

-- and of the whole
abbrev pub Loads : {A : Type 0} → Result A LoadError → Result A LoadError → Type 0
Loads (Ok x) read = read ≡ Ok x
Loads (Err errors.Memory) read = Unit {0}
Loads (Err why) read = read ≡ Err why
