-- The output of the client programs, for their arguments.
use Rattle.std.proofs.Common.{◌≡◌, ℕ, Bool, List, Option, Some, None, Result, Ok, Err, IfOk, OnOk, inl, inr, refl, subst, sym}
use Rattle.std.specs.Prelude.{◌≢◌, IfErr, IfNone, IfSome, IsErrOf}
use Rattle.mq_packet.specs.Lines.{Prints}
use Rattle.mq_topic.specs.declared.fault.TopicFault.{TopicFault}
use Rattle.mq_topic.specs.declared.fault.TopicFault.TheVariants.{Memory}
use Rattle.mq_cli.specs.declared.jobs.Collect.{Collect}
use Rattle.mq_cli.specs.declared.jobs.Publish.{Publish}
use Rattle.mq_client.specs.declared.collector.CollectGoal.{CollectGoal}
use Rattle.mq_client.specs.declared.publisher.Publications.{Publications}
use Rattle.mq_client.specs.declared.error.ClientError.{ClientError}
use Rattle.mq_client.specs.Halts.{halt_status}
use Rattle.mq_client.specs.Printed.{halt_line}
use Rattle.mq_client.specs.Programs.{IsMessagesDone, IsSessionDone, IsTextsDone}
use Rattle.mq_programs.specs.Runs.{AreTextsOf, IsBadTopic, IsCollected, IsLockedRun, IsPublished, IsGoalOf, IsSessionRun}
use Rattle.std.specs.Io.KnownBytes.{Appends}

-- the same output under another description
pub in_other_words : {E : Type 0} (r : Result ℕ E) (a b : Option (List ℕ)) (P Q : ℕ → List ℕ → Type 0) → ((status : ℕ) (text : List ℕ) → P status text → Q status text) → IfOk r (λ status. Prints a b (P status))
    → IfOk r (λ status. Prints a b (Q status))
in_other_words (Ok status) a b P Q more p = (p.0, p.1, more status p.0 p.2)
in_other_words (Err e) a b P Q more p = tt

pub collected : {E : Type 0} (r : Result ℕ E) (a b : Option (List ℕ)) (id : List ℕ) (words : Collect) (w : CollectGoal) → id ≡ words.id.now → IsGoalOf words w
    → IfOk r (λ status. Prints a b (IsMessagesDone id words.clean w status)) → IfOk r (λ status. Prints a b (IsCollected words status))
collected r a b id words w same own =
    in_other_words r a b (IsMessagesDone id words.clean w) (IsCollected words) (λ status text p. (w, own, subst (λ i. IsMessagesDone i words.clean w status text) same p))

pub published : {E : Type 0} (r : Result ℕ E) (a b : Option (List ℕ)) (id : List ℕ) (words : Publish) (t : Publications) → id ≡ words.id.now → words.session ≡ None → AreTextsOf words t
    → IfOk r (λ status. Prints a b (IsTextsDone id t status)) → IfOk r (λ status. Prints a b (IsPublished words status))
published r a b id words t same none own =
    in_other_words r a b (IsTextsDone id t) (IsPublished words)
    (λ status text p. (t, own, rw none (subst (λ i. IsTextsDone i t status text) same p)))

pub resumed : {E : Type 0} (r : Result ℕ E) (a b : Option (List ℕ)) (id : List ℕ) (words : Publish) (t : Publications) (name : _) → id ≡ words.id.now → words.session ≡ Some name → AreTextsOf words t
    → IfOk r (λ status. Prints a b (IsSessionRun words.forget id t status)) → IfOk r (λ status. Prints a b (IsPublished words status))
resumed r a b id words t name same some own =
    in_other_words r a b (IsSessionRun words.forget id t) (IsPublished words)
    (λ status text p. (t, own, rw some (subst (λ i. IsSessionRun words.forget i t status text) same p)))

-- the lock could not be taken
pub unlocked_done : {E : Type 0} (r : Result ℕ E) (a b : Option (List ℕ)) (file : List ℕ) (forgotten : Bool) (id : List ℕ) (t : Publications) (halt : ClientError) → OnOk r (Appends a b (halt_line halt)) → IfOk r (λ status. status ≡ halt_status halt)
    → IfOk r (λ status. Prints a b (IsLockedRun file forgotten id t status))
unlocked_done (Ok status) a b file forgotten id t halt printed is = (halt_line halt, printed, inl (inr (inl (halt, is, refl))))
unlocked_done (Err e) a b file forgotten id t halt printed is = tt

-- the lock was taken
pub locked_done : {E : Type 0} (r : Result ℕ E) (a b : Option (List ℕ)) (file : List ℕ) (forgotten : Bool) (id : List ℕ) (t : Publications) → IfOk r (λ status. Prints a b (IsSessionDone None file forgotten id t status))
    → IfOk r (λ status. Prints a b (IsLockedRun file forgotten id t status))
locked_done r a b file forgotten id t own = in_other_words r a b (IsSessionDone None file forgotten id t) (IsLockedRun file forgotten id t) (λ status text p. inl p) own

-- a name leads to the file of a session
pub linked_done : {E : Type 0} (r : Result ℕ E) (a b : Option (List ℕ)) (file : List ℕ) (forgotten : Bool) (id : List ℕ) (t : Publications) → IfOk r (λ status. Prints a b (IsLockedRun file forgotten id t status))
    → IfOk r (λ status. Prints a b (IsSessionRun forgotten id t status))
linked_done r a b file forgotten id t own = in_other_words r a b (IsLockedRun file forgotten id t) (IsSessionRun forgotten id t) (λ status text p. (file, p)) own

-- a fault other than a failed allocation is the first one of the argument
fault_found : {T : Type 0} (p : Result T TopicFault) (found : Option TopicFault) (fault : TopicFault) → p ≡ Err fault → IfSome found (λ first. IsErrOf p first)
    → IfNone found (IfErr p (λ why. why ≡ Memory)) → fault ≢ Memory → found ≡ Some fault
fault_found p None fault is refused memory other = absurd (other (subst (λ q. IfErr q (λ why. why ≡ Memory)) is memory))
fault_found p (Some first) fault is refused memory other = cc

pub told : {T E : Type 0} (r : Result ℕ E) (a b : Option (List ℕ)) (kind : List ℕ) (p : Result T TopicFault) (found : Option TopicFault) (fault : TopicFault) → p ≡ Err fault
    → IfSome found (λ first. IsErrOf p first) → IfNone found (IfErr p (λ why. why ≡ Memory)) → IfOk r (λ status. fault ≢ Memory) → IfOk r (λ status. Prints a b (IsBadTopic kind (Some fault) status))
    → IfOk r (λ status. Prints a b (IsBadTopic kind found status))
told (Ok status) a b kind p found fault is refused memory other bad = subst (λ o. Prints a b (IsBadTopic kind o status)) (sym (fault_found p found fault is refused memory other)) bad
told (Err e) a b kind p found fault is refused memory other bad = tt
