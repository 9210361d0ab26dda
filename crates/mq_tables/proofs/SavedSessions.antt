-- Sessions in a snapshot.
use Rattle.std.proofs.Common.{◌≡◌, ℕ, List, [], ◌∷◌, ◌++◌, All, length, refl, sym, ◌∙◌, append_assoc}
use Rattle.std.specs.List.{flat_map, AllByRecursion}
use Rattle.std.proofs.lemmas.List.Elements.{recursion_from_All}
use Rattle.std.proofs.lemmas.List.{length-map}
use Rattle.mq_route.specs.Snapshot.{eight, listed, saved_session, HasIdentifiers}
use Rattle.mq_tables.specs.declared.sessions.session.BrokerSession.{BrokerSession}
use Rattle.mq_tables.specs.Sessions.{session_of, sessions_of}

-- the bytes of a session of the table
abbrev pub saved_by : BrokerSession → List ℕ
saved_by t = saved_session (session_of t)

each_saved : (ts : List BrokerSession) → flat_map saved_by ts ≡ flat_map saved_session (sessions_of ts)
each_saved [] = refl
each_saved (t ∷ ts) = λ i. saved_by t ++ each_saved ts i

-- the number of the sessions, and the bytes of each
pub all_saved : (front : List ℕ) (ts : List BrokerSession) → (front ++ eight (length ts)) ++ flat_map saved_by ts ≡ front ++ listed saved_session (sessions_of ts)
all_saved front ts =
    append_assoc front (eight (length ts)) (flat_map saved_by ts)
    ∙ λ i. front ++ (eight (sym (length-map ts session_of) i) ++ each_saved ts i)

each_identified : (ts : List BrokerSession) → AllByRecursion (λ t. HasIdentifiers (session_of t)) ts → AllByRecursion HasIdentifiers (sessions_of ts)
each_identified [] h = tt
each_identified (t ∷ ts) h = (h.0, each_identified ts h.1)

-- the broker's sessions have valid identifiers if those of the table have
pub all_identified : (ts : List BrokerSession) → All (λ t. HasIdentifiers (session_of t)) ts → AllByRecursion HasIdentifiers (sessions_of ts)
all_identified ts h = each_identified ts (recursion_from_All (λ t. HasIdentifiers (session_of t)) ts h)
