-- The whole programs.
use Rattle.std.proofs.Common.{◌≡◌, ◌∙◌, ap, [], ℕ, Bool, true, false, List, Option, Result, Ok, Err, IfOk, OnOk, inl, inr, subst, sym}
use Rattle.std.specs.Bool.{⊤}
use Rattle.std.specs.Io.KnownBytes.{Appends}
use Rattle.mq_packet.specs.Lines.{Prints}
use Rattle.mq_end.specs.Publishing.{ClientState}
use Rattle.mq_client.specs.declared.collector.CollectGoal.{CollectGoal}
use Rattle.mq_client.specs.declared.publisher.Publications.{Publications}
use Rattle.mq_client.specs.Course.{Moment}
use Rattle.mq_client.specs.Program.{IsNewClient}
use Rattle.mq_client.specs.declared.error.ClientError.{ClientError}
use Rattle.mq_client.specs.Disk.{FileState, history_of, stands_of}
use Rattle.mq_client.specs.Programs.{IsClientOf, IsDiscarded, IsLostDone, IsMessagesDone, IsSessionDone, IsTextsDone}
use Rattle.mq_client.specs.Inside.Programs.{IsKeptDone}
use Rattle.mq_client.specs.Publishing.{IsPublishDone, IsResumeDone, Published}
use Rattle.mq_client.specs.Collecting.{IsCollectDone}

-- a line was printed, and the status is its status
pub line_done : {E : Type 0} → (r : Result ℕ E) (w v : Option (List ℕ)) (line : List ℕ) (n : ℕ) (P : ℕ → List ℕ → Type 0) → P n line → OnOk r (Appends w v line) → IfOk r (λ status. status ≡ n)
    → IfOk r (λ status. Prints w v (P status))
line_done (Ok status) w v line n P p printed is = (line, printed, subst (λ k. P k line) (sym is) p)
line_done (Err e) w v line n P p printed is = tt

pub texts_done : {E : Type 0} → (r : Result ℕ E) (id : List ℕ) (t : Publications) (a b : Moment) (w v : Option (List ℕ)) → IsNewClient id a.client
    → IfOk r (λ status. Prints w v (IsPublishDone a b true t status)) → IfOk r (λ status. Prints w v (IsTextsDone id t status))
texts_done (Ok status) id t a b w v new p = (p.0, p.1, inl (a, b, new, p.2))
texts_done (Err e) id t a b w v new p = tt

pub messages_done : {E : Type 0} → (r : Result ℕ E) (id : List ℕ) (clean : Bool) (goal : CollectGoal) (a b : Moment) (w v : Option (List ℕ)) → IsNewClient id a.client
    → IfOk r (λ status. Prints w v (IsCollectDone a b clean goal status)) → IfOk r (λ status. Prints w v (IsMessagesDone id clean goal status))
messages_done (Ok status) id clean goal a b w v new p = (p.0, p.1, inl (a, b, new, p.2))
messages_done (Err e) id clean goal a b w v new p = tt

pub kept_done : {E : Type 0} → (r : Result ℕ E) (kept : Option (List ℕ)) (client : ClientState) (t : Publications) (a b : Moment) (w v : Option (List ℕ)) → a.client ≡ client → a.kept ≡ kept
    → IfOk r (λ status. Prints w v (IsResumeDone a b t status)) → IfOk r (λ status. Prints w v (IsKeptDone kept client t status))
kept_done (Ok status) kept client t a b w v same keeps p = (p.0, p.1, inl (a, b, same, keeps, p.2))
kept_done (Err e) kept client t a b w v same keeps p = tt

pub session_done : {E : Type 0} → (r : Result ℕ E) (files : Option (List ℕ → List FileState)) (name : List ℕ) (forgotten : Bool) (id : List ℕ) (file : Option (List FileState)) (client : ClientState) (t : Publications) (w v : Option (List ℕ))
    → IsClientOf files name forgotten id false client → file ≡ history_of files name → IfOk r (λ status. Prints w v (IsKeptDone (stands_of file) client t status))
    → IfOk r (λ status. Prints w v (IsSessionDone files name forgotten id t status))
session_done (Ok status) files name forgotten id file client t w v own same p = (
  p.0,
  p.1,
  elim p.2 [
    | inl x ↦ inl (x.0, x.1, subst (IsClientOf files name forgotten id false) (sym x.2) own, x.3 ∙ ap stands_of same, x.4)
    | inr halts ↦ inr (inl halts)
  ],
)
session_done (Err e) files name forgotten id file client t w v own same p = tt

-- the file says that the server lost the session
pub lost_done : {E : Type 0} → (r : Result ℕ E) (files : Option (List ℕ → List FileState)) (name : List ℕ) (forgotten : Bool) (id : List ℕ) (client : ClientState) (t : Publications) (w v : Option (List ℕ))
    → IsClientOf files name forgotten id true client → IfOk r (λ status. Prints w v (IsLostDone client status)) → IfOk r (λ status. Prints w v (IsSessionDone files name forgotten id t status))
lost_done (Ok status) files name forgotten id client t w v own p = (p.0, p.1, inr (inr (inr (client, own, p.2))))
lost_done (Err e) files name forgotten id client t w v own p = tt

-- nothing was published over a clean session
pub discarded : (r : Result ⊤ ClientError) (id : List ℕ) (a b : Moment) (t : Publications) → IsNewClient id a.client → t.texts.now ≡ [] → OnOk r (Published a b true t) → OnOk r (IsDiscarded id)
discarded (Ok x) id a b t new none p = (a, b, t, new, none, p)
discarded (Err e) id a b t new none p = tt
