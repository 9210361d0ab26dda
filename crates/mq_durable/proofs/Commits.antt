-- The outcomes of a commit, as contracts see them.
use Rattle.std.proofs.Common.{◌≡◌, ◌≢◌, ℕ, List, [], ◌∷◌, ◌++◌, sym, ap, ◌∙◌, subst}
use Rattle.std.proofs.lemmas.List.{append-nil}
use Rattle.mq_route.specs.declared.event.HubEvent.{HubEvent}
use Rattle.mq_route.specs.Hub.{HubState}
use Rattle.mq_log.specs.Blocks.{entries}
use Rattle.mq_log.specs.Disk.{LeavesOnly}
use Rattle.mq_log.specs.Journal.{IsBeforeOrAfter}
use Rattle.mq_log.specs.Laws.{JournalLaws}
use Rattle.mq_log.specs.declared.journal.Journal.{Journal}
use Rattle.mq_durable.specs.declared.condition.Condition.{Condition}
use Rattle.mq_durable.specs.declared.condition.Condition.TheVariants.{Broken}
use Rattle.mq_durable.specs.Recorded.{AfterCrash, events_in, events_of, HoldsAllOrNone}
use Rattle.mq_durable.specs.State.{DurableState, IsDurable}
use Rattle.mq_durable.proofs.Crashes.{all_or_none, kept, left_now, weaker}
use Rattle.mq_durable.proofs.Entries.{none_found, of_push}
use Rattle.mq_durable.proofs.Kept.{state}

module _ {D : Type 0} (clock : D → ℕ) (left_since : D → ℕ → List ℕ → Type 0) (seen : D → List ℕ) (may_leave : D → List ℕ → Type 0)
    (base hub : HubState) (journal : Journal D) (entry : List ℕ) (condition : Condition) (old : DurableState D)
    (d : IsDurable seen may_leave base hub journal entry condition) (view : state base hub (events_in entry) journal.disk condition ≡ old) where
  -- between two calls
  pub crash_now : JournalLaws → old.condition ≢ Broken → AfterCrash (may_leave old.disk) (HoldsAllOrNone (events_of (seen old.disk)) old.pending)
  crash_now laws =
      subst (λ (o : DurableState D). o.condition ≢ Broken → AfterCrash (may_leave o.disk) (HoldsAllOrNone (events_of (seen o.disk)) o.pending)) view
      (λ sound. left_now laws seen may_leave journal entry (d.kept sound).settled (d.kept sound).readable d.encoded)

  -- no call of the disk
  pub crash_without : JournalLaws → ((c : List ℕ) → left_since journal.disk (clock journal.disk) c → may_leave journal.disk c)
      → old.condition ≢ Broken → LeavesOnly clock left_since old.disk old.disk (HoldsAllOrNone (events_of (seen old.disk)) old.pending)
  crash_without laws now =
      subst (λ (o : DurableState D). o.condition ≢ Broken → LeavesOnly clock left_since o.disk o.disk (HoldsAllOrNone (events_of (seen o.disk)) o.pending)) view
      (λ sound. kept laws clock left_since seen may_leave journal entry (d.kept sound).settled now (d.kept sound).readable d.encoded)

  -- a `put`
  pub crash_with : (later : D) (slice : List ℕ) → slice ≡ entry
      → LeavesOnly clock left_since journal.disk later (IsBeforeOrAfter (entries (seen journal.disk)) slice)
      → old.condition ≢ Broken → LeavesOnly clock left_since old.disk later (HoldsAllOrNone (events_of (seen old.disk)) old.pending)
  crash_with later slice same l =
      subst (λ (o : DurableState D). o.condition ≢ Broken → LeavesOnly clock left_since o.disk later (HoldsAllOrNone (events_of (seen o.disk)) o.pending)) view
      (λ sound. weaker clock left_since (IsBeforeOrAfter (entries (seen journal.disk)) slice) (HoldsAllOrNone (events_of (seen journal.disk)) (events_in entry)) journal.disk later
      (λ c is. all_or_none (seen journal.disk) entry c (d.kept sound).readable d.encoded (subst (λ (e : List ℕ). IsBeforeOrAfter (entries (seen journal.disk)) e c) same is)) l)

  pub condition_is : condition ≡ old.condition
  condition_is = ap (λ (o : DurableState D). o.condition) view

  -- the pending events are in the file
  pub recorded : (later : D) (slice : List ℕ) → slice ≡ entry → entries (seen later) ≡ entries (seen journal.disk) ++ slice ∷ [] → events_of (seen later) ≡ events_of (seen old.disk) ++ old.pending
  recorded later slice same is =
      subst (λ (o : DurableState D). events_of (seen later) ≡ events_of (seen o.disk) ++ o.pending) view
      (of_push (seen journal.disk) (seen later) entry (is ∙ ap (λ (e : List ℕ). entries (seen journal.disk) ++ e ∷ []) same))

  pub done : (later : D) (none : List ℕ) → none ≡ [] → state base hub (events_in none) later condition ≡ record old { pending = []; disk = later }
  done later none empty =
      subst (λ (o : DurableState D). state base hub (events_in none) later condition ≡ record o { pending = []; disk = later }) view
      (ap (λ (l : List HubEvent). state base hub l later condition) (ap events_in empty ∙ none_found))

  pub not_done : (later : D) (same : List ℕ) → same ≡ entry → state base hub (events_in same) later Broken ≡ record old { disk = later; condition = Broken }
  not_done later same is =
      subst (λ (o : DurableState D). state base hub (events_in same) later Broken ≡ record o { disk = later; condition = Broken }) view
      (ap (λ (l : List ℕ). state base hub (events_in l) later Broken) is)

  pub none_pending : entry ≡ [] → old.pending ≡ []
  none_pending empty = sym (ap (λ (o : DurableState D). o.pending) view) ∙ ap events_in empty ∙ none_found

-- a commit of nothing
pub nothing_done : {D : Type 0} (old : DurableState D) → old.pending ≡ [] → old ≡ record old { pending = []; disk = old.disk }
nothing_done old none = λ i. record old { pending = none i }

pub nothing_recorded : {D : Type 0} (seen : D → List ℕ) (old : DurableState D) → old.pending ≡ [] → events_of (seen old.disk) ≡ events_of (seen old.disk) ++ old.pending
nothing_recorded seen old none = sym (append-nil (events_of (seen old.disk))) ∙ ap (λ (l : List HubEvent). events_of (seen old.disk) ++ l) (sym none)
