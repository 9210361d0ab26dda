-- The end that a program reports.
use Rattle.std.proofs.Common.{◌≡◌, ℕ, zero, suc, List, ◌++◌, Option, None, Some, Result, Ok, Err, inl, inr, refl}
use Rattle.std.specs.Prelude.{IfOk, MatchResult, OnOk}
use Rattle.std.specs.Io.KnownBytes.{Appends}
use Rattle.std.specs.declared.io.ErrorKind.{ErrorKind}
use Rattle.std.specs.declared.net.SocketAddr.{SocketAddr}
use Rattle.std.proofs.KnownBytes.{Appends-trans}
use Rattle.mq_route.specs.Hub.{HubState}
use Rattle.mq_book.specs.declared.work_end.WorkEnd.{WorkEnd}
use Rattle.mq_packet.specs.Lines.{Prints}
use Rattle.mq_serve.specs.declared.serve_end.ServeEnd.{ServeEnd}
use Rattle.mq_serve.specs.declared.serve_end.ServeEnd.TheVariants.{Listen}
use Rattle.mq_serve.specs.Ends.{IsReported, end_of_work, end_status}
use Rattle.mq_serve.specs.Inside.Ends.{stop_of}
use Rattle.mq_serve.specs.Printed.{AreSessions, IsEarly, IsServeRun, ServeEnds, end_line, end_lines, listening_line}

pub early : (status : ℕ) (old : Option ServeEnd) (why : ServeEnd) → status ≡ end_status why → IsReported status old (Some why)
early status old why is = inr (why, refl, is)

-- a server is finished if no worker stopped early and all connections were accepted
pub none_stopped : (stopped : Option WorkEnd) (left : ℕ) (failure : ErrorKind) → stop_of stopped left failure ≡ None → (stopped ≡ None) × (left ≡ 0)
none_stopped None zero failure none = (refl, refl)
none_stopped None (suc left) failure none = absurd (cc none)
none_stopped (Some why) left failure none = absurd (cc none)

-- the reason of a worker comes first
pub first_stopped : (stopped : Option WorkEnd) (left : ℕ) (failure : ErrorKind) (why : WorkEnd) → stopped ≡ Some why → stop_of stopped left failure ≡ Some (end_of_work why)
first_stopped stopped left failure why is = rw is refl

-- ---- printed lines

-- The end of a broker, with the status, the reported end and the printed text.
abbrev pub IsReport : {N : Type 0} → (N → List (List ℕ)) → ℕ → Result N ServeEnd → Option ServeEnd → Option ServeEnd → ℕ → List ℕ → Type 0
IsReport items count served old new status text =
    MatchResult served (λ names. (status ≡ 0) × (new ≡ old) × (text ≡ end_lines (items names) count)) (λ why. IsEarly why new status text)

-- the sessions of a broker and the number of connections are printed
pub served_lines : {N : Type 0} (items : N → List (List ℕ)) (served : Result N ServeEnd) (names : N) (count : ℕ) (end : Option ServeEnd) (old new : Option (List ℕ)) → served ≡ Ok names
    → Appends old new (end_lines (items names) count) → Prints old new (IsReport items count served end end 0)
served_lines items served names count end old new is printed = rw is (end_lines (items names) count, printed, (refl, refl, refl))

-- the reason of an early end is printed
pub early_lines : {N E : Type 0} (items : N → List (List ℕ)) (served : Result N ServeEnd) (why : ServeEnd) (r : Result ℕ E) (count : ℕ) (end reported : Option ServeEnd) (old new : Option (List ℕ))
    → served ≡ Err why → reported ≡ Some why → IfOk r (λ status. status ≡ end_status why) → OnOk r (Appends old new (end_line why))
    → IfOk r (λ status. Prints old new (IsReport items count served end reported status))
early_lines items served why (Ok x) count end reported old new is told status printed = rw is (end_line why, printed, (told, status, refl))
early_lines items served why (Err e) count end reported old new is told status printed = tt

-- the end of a broker whose sessions are those of some state
pub ended : {N E : Type 0} (items : N → List (List ℕ)) (served : Result N ServeEnd) (r : Result ℕ E) (count : ℕ) (end reported : Option ServeEnd) (old new : Option (List ℕ))
    → IfOk served (λ names. (hub : HubState) × AreSessions hub (items names)) → IfOk r (λ status. Prints old new (IsReport items count served end reported status))
    → IfOk r (λ status. Prints old new (ServeEnds count end reported status))
ended items (Ok names) (Ok x) count end reported old new sessions p = (p.0, p.1, inl (p.2.0, p.2.1, (sessions.0, items names, sessions.1, p.2.2)))
ended items (Err why) (Ok x) count end reported old new sessions p = (p.0, p.1, inr (why, p.2))
ended items served (Err e) count end reported old new sessions p = tt

-- the status and the reported end of a broker
pub ended_status : {N E : Type 0} (items : N → List (List ℕ)) (served : Result N ServeEnd) (r : Result ℕ E) (count : ℕ) (end reported : Option ServeEnd) (old new : Option (List ℕ))
    → IfOk r (λ status. Prints old new (IsReport items count served end reported status)) → IfOk r (λ status. IsReported status end reported)
ended_status items (Ok names) (Ok x) count end reported old new p = inl (p.2.0, p.2.1)
ended_status items (Err why) (Ok x) count end reported old new p = inr (why, p.2.0, p.2.1)
ended_status items served (Err e) count end reported old new p = tt

-- there is no listener
pub unheard : {E : Type 0} (r : Result ℕ E) (kind : ErrorKind) (count : ℕ) (end reported : Option ServeEnd) (old new : Option (List ℕ)) → reported ≡ Some (Listen kind)
    → IfOk r (λ status. status ≡ end_status (Listen kind)) → OnOk r (Appends old new (end_line (Listen kind))) → IfOk r (λ status. Prints old new (IsServeRun count end reported status))
unheard (Ok x) kind count end reported old new told status printed = (end_line (Listen kind), printed, inr (kind, (told, status, refl)))
unheard (Err e) kind count end reported old new told status printed = tt

-- the line of the listener is in front
pub heard : {E : Type 0} (r : Result ℕ E) (address : SocketAddr) (count : ℕ) (end reported : Option ServeEnd) (old mid new : Option (List ℕ)) → Appends old mid (listening_line address)
    → IfOk r (λ status. Prints mid new (ServeEnds count end reported status)) → IfOk r (λ status. Prints old new (IsServeRun count end reported status))
heard (Ok x) address count end reported old mid new line ends =
    (listening_line address ++ ends.0, Appends-trans old mid new (listening_line address) ends.0 line ends.1, inl (address, ends.0, refl, ends.2))
heard (Err e) address count end reported old mid new line ends = tt
