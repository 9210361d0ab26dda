-- The lines that `serve` prints.
use Rattle.std.specs.Prelude.{◌≡◌, ◌⊎◌, ℕ, List, ◌++◌, Option, Some, codes, decimal, map}
use Rattle.std.specs.Cmp.Lexicographic.{slice_cmp}
use Rattle.std.specs.List.{flat_map}
use Rattle.std.specs.List.Sorted.{IsPermutation, IsSorted}
use Rattle.std.specs.Net.Text.{socket_text}
use Rattle.std.specs.Ordering.{nat_cmp}
use Rattle.std.specs.declared.io.ErrorKind.{ErrorKind}
use Rattle.std.specs.declared.net.SocketAddr.{SocketAddr}
use Rattle.mq_packet.specs.Lines.{escaped}
use Rattle.mq_route.specs.Hub.{HubState}
use Rattle.mq_serve.specs.Ends.{end_status}
use Rattle.mq_serve.specs.declared.serve_end.ServeEnd.{ServeEnd}
use Rattle.mq_serve.specs.declared.serve_end.ServeEnd.TheVariants.{Listen, Net, JournalFull, Refused, Memory}

-- the reason of an early end
abbrev pub end_line : ServeEnd → List ℕ
end_line (Listen kind) = codes "connection failed\n"
end_line (Net kind) = codes "connection failed\n"
end_line JournalFull = codes "journal full\n"
end_line Refused = codes "broker refused\n"
end_line Memory = codes "out of memory\n"

-- a session, by its client identifier (3.1.3.1)
abbrev pub session_line : List ℕ → List ℕ
session_line name = codes "session " ++ (escaped name ++ codes "\n")

-- the number of connections that were served
abbrev pub served_line : ℕ → List ℕ
served_line count = codes "served " ++ (decimal count ++ codes "\n")

-- the lines at the end
abbrev pub end_lines : List (List ℕ) → ℕ → List ℕ
end_lines names count = flat_map session_line names ++ served_line count

-- the client identifiers of a broker's sessions, ascending by their bytes
pub record AreSessions (hub : HubState) (names : List (List ℕ)) : Type 0 where
  pub clients : IsPermutation (map (λ s. s.client) hub.sessions) names
  pub sorted : IsSorted (slice_cmp nat_cmp) names

-- the address of the listener
abbrev pub listening_line : SocketAddr → List ℕ
listening_line address = codes "listening " ++ (socket_text address ++ codes "\n")

-- This number of connections was served: the lines at the end, with the sessions of some broker.
abbrev pub IsServed : ℕ → List ℕ → Type 0
IsServed count text =
    (hub : HubState) × (names : List (List ℕ)) × AreSessions hub names × (text ≡ end_lines names count)

-- The end is reported and printed, with its status.
abbrev pub IsEarly : ServeEnd → Option ServeEnd → ℕ → List ℕ → Type 0
IsEarly why reported status text =
    (reported ≡ Some why) × (status ≡ end_status why) × (text ≡ end_line why)

-- All connections were served and no end is reported, or the broker ended early.
abbrev pub ServeEnds : ℕ → Option ServeEnd → Option ServeEnd → ℕ → List ℕ → Type 0
ServeEnds count old new status text =
    ((status ≡ 0) × (new ≡ old) × IsServed count text)
    ⊎ ((why : ServeEnd) × IsEarly why new status text)

-- `serve`: the address of the listener and then the end, or that there is no listener
abbrev pub IsServeRun : ℕ → Option ServeEnd → Option ServeEnd → ℕ → List ℕ → Type 0
IsServeRun count old new status text =
    ((address : SocketAddr) × (rest : List ℕ) × (text ≡ listening_line address ++ rest)
    × ServeEnds count old new status rest)
    ⊎ ((kind : ErrorKind) × IsEarly (Listen kind) new status text)
