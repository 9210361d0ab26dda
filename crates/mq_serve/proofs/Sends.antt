-- What may go to another thread: a book, and what holds one.
use mathlib.Core.List.{List, [], ◌∷◌}
use Prim.Native.Nat.{ℕ, zero, suc}
use base.Shift.{Keyless}
use denote.RattleType.{RattleType}
use denote.Param.Send.{IsSend, IsSync, sendable}
use Rattle.std.proofs.Crossing.{crosses}
use Rattle.std.specs.Sync.Ledger.{chain, row, Rule, book_owns}
use Rattle.std.specs.declared.sync.ledger.Ledger.{Ghosts}
use Rattle.std.specs.contracts.sync.ledger.Book as Count
use Rattle.std.specs.contracts.sync.Mutex as Mutex
use Rattle.mq_topic.proofs.trie_store.TrieStore.TheSendSync as tries
use Rattle.mq_book.specs.contracts.book.Book as Book
use Rattle.mq_book.proofs.entry_log.EntryLog.TheSendSync as logs
use Rattle.mq_hub.proofs.hub.HubOver.TheSendSync as hubs
use Rattle.mq_book.specs.contracts.shared.SharedHub as SharedHub
use Rattle.mq_serve.specs.contracts.acceptor.Acceptor as Acceptor
use Rattle.mq_serve.specs.contracts.server.Server as Server

chain_keyless : (xs : List (ℕ × ℕ)) (γ : ℕ) → Keyless (chain xs γ)
chain_keyless [] γ = (tt, tt)
chain_keyless (x ∷ xs) γ = λ c. (tt, (tt, (tt, chain_keyless xs c.1)))

row_keyless : (i : ℕ) (x : ℕ × ℕ) (γ : ℕ) → Keyless (row i x γ)
row_keyless zero x γ = λ c. (tt, tt)
row_keyless (suc i) x γ = λ c. (tt, row_keyless i x c.1)

kept_keyless : (γ parts : ℕ) → Keyless (Rule γ parts)
kept_keyless γ parts = λ s. (chain_keyless ((0, s.0) ∷ s.1) γ, λ _. tt)

book_keyless : (γ parts total : ℕ) → Keyless (book_owns γ parts total)
unfolding book_owns
book_keyless γ parts total = (kept_keyless γ parts, row_keyless 0 (0, total) γ)

-- a count of a ledger
pub count_send : (L : RattleType) (g : Ghosts L.Denot) → IsSend (Count.the_row L g)
count_send L g = record { owned = λ d vs. ((λ vss. (tt, ((λ uss. (tt, tt)), tt))), book_keyless g.name g.parts d.total); leaving = λ k f vs. tt }

pub book_send : (L : RattleType) (g : Ghosts L.Denot) → IsSend (Book.the_row L g)
book_send L g = search (sendable, crosses, count_send, hubs.the_send, tries.the_send, logs.the_send) depth 60

-- the same as the field of a struct
pub hub_field_sync : (L : RattleType) (g : Ghosts L.Denot) → IsSync (SharedHub.the_field L g).row
hub_field_sync L g = search (sendable, crosses, book_send) depth 40

pub acceptor_sync : IsSync (Mutex.the_row Acceptor.the_row)
acceptor_sync = search (sendable, crosses) depth 40

pub server_sync : (L : RattleType) (g : Ghosts L.Denot) → IsSync (Server.the_row L g)
server_sync L g = search (sendable, crosses, hub_field_sync, acceptor_sync) depth 60
