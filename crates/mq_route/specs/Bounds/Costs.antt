-- The cost of incoming bytes for an end.
use Rattle.std.specs.Prelude.{ℕ, ◌+◌, Bool, true, false, if◌then◌else◌, List, [], length}
use Rattle.std.specs.List.{list_any}
use Rattle.mq_packet.specs.declared.packet.Packet.{Packet}
use Rattle.mq_packet.specs.declared.packet.Packet.TheVariants as packets
use Rattle.mq_packet.specs.Encoding.{encodings}
use Rattle.mq_flow.specs.Sender.{SenderBook, blank_book, resent}
use Rattle.mq_end.specs.declared.happening.Happening.{Happening}
use Rattle.mq_end.specs.declared.happening.Happening.TheVariants as happens
use Rattle.mq_end.specs.State.{EndState}

-- the end reports that it is connected (3.2)
abbrev pub is_up_event : Happening → Bool
is_up_event (happens.Up session_present) = true
is_up_event happening = false

-- one of these reports says that the end is connected
abbrev pub has_up_event : List Happening → Bool
has_up_event happenings = list_any is_up_event happenings

-- the sender's book with which a packet connects an end: a CONNECT with clean session 1 discards
-- the book (3.1.2.4)
abbrev pub book_for : Packet → SenderBook → SenderBook
book_for (packets.Connect connect) book = if connect.clean_session then blank_book else book
book_for packet book = book

-- the bytes that an end sends again when it connects with this book: a PUBREL for each released
-- identifier and a PUBLISH for each message (4.4)
abbrev pub sent_again : Bool → SenderBook → List ℕ
sent_again false book = []
sent_again true book = encodings (resent book)

-- the number of bytes that an end stores for its connection: pending output and an incomplete
-- packet
abbrev pub kept : EndState → ℕ
kept state = length state.output + length state.held
