-- The facts of a durable broker, after each of its calls.
use Rattle.std.proofs.lemmas.List.{length-take-le, take_at}
use Rattle.std.proofs.Common.{◌≡◌, ◌≢◌, inl, inr, Bool, false, true≢false, length-append, ℕ, ◌+◌, ◌<◌, ◌≤◌, ◌^◌, true, List, [], ◌∷◌, ◌++◌, length, take, refl, sym, ap, ◌∙◌, subst, arith, append_assoc, Option, Some, None, Result, Ok, Err}
use Rattle.std.specs.Option.{IfSome}
use Rattle.std.specs.Result.{IfErr, IfOk, OnOk, OnErr}
use Rattle.mq_route.specs.declared.conn.Conn.{Conn}
use Rattle.mq_route.specs.declared.event.HubEvent.{HubEvent}
use Rattle.mq_route.specs.declared.event.HubEvent.TheVariants.{Bytes, Collect}
use Rattle.mq_route.specs.declared.refusal.HubRefusal.{HubRefusal}
use Rattle.mq_route.specs.declared.refusal.HubRefusal.TheVariants as refusals
use Rattle.mq_route.specs.declared.reply.HubReply.{HubReply}
use Rattle.mq_route.specs.Hub.{HubState}
use Rattle.mq_route.specs.Step.{HubStep, event_refusal}
use Rattle.mq_route.specs.StepSome.{HubStepSome}
use Rattle.mq_record.specs.Encoding.{event_bytes, entry_bytes, is_recorded}
use Rattle.mq_record.specs.Laws.{RecordLaws}
use Rattle.mq_record.specs.Reading.{IsEntry}
use Rattle.mq_log.specs.Blocks.{at_rest, entries}
use Rattle.mq_log.specs.Journal.{IsSettled}
use Rattle.mq_log.specs.declared.journal.Journal.{Journal}
use Rattle.mq_durable.specs.declared.condition.Condition.{Condition}
use Rattle.mq_durable.specs.declared.condition.Condition.TheVariants.{Sound, Broken}
use Rattle.mq_durable.specs.Recorded.{events_in, events_of}
use Rattle.mq_durable.specs.declared.fault.StepRefusal.{StepRefusal}
use Rattle.mq_durable.specs.declared.fault.StepRefusal.TheVariants as steps
use Rattle.mq_durable.specs.Calls.{Collected, Continued, MakesCall, Stepped}
use Rattle.mq_durable.specs.State.{DurableState, IsDurable, IsKept, IsHubRefusal, IsStepRefused, after_step, reply_in}
use Rattle.mq_durable.specs.Inside.State.{IsNotStepped}
use Rattle.mq_durable.proofs.Entries.{entry_push, found_push, is_empty, no_entry, none_found, of_none, of_push, readable_none, readable_push}
use Rattle.mq_durable.proofs.Runs.{reaches_collect, reaches_none, reaches_push, reaches_so}

-- the refusal of a step
pub hub_refusal : (hub : HubState) (event : HubEvent) (r : Result HubReply HubRefusal) (why : HubRefusal) → r ≡ Err why
    → IfSome (event_refusal event hub) (λ w. r ≡ Err w) → (event_refusal event hub ≡ None → IfErr r (λ w. w ≡ refusals.Memory)) → IsHubRefusal hub event why
hub_refusal hub event r why is refused memory = go (event_refusal event hub) refl refused memory
  where
    go : (o : Option HubRefusal) → event_refusal event hub ≡ o → IfSome o (λ w. r ≡ Err w) → (o ≡ None → IfErr r (λ w. w ≡ refusals.Memory)) → IsHubRefusal hub event why
    go None e says none = inl (subst (λ (x : Result HubReply HubRefusal). IfErr x (λ w. w ≡ refusals.Memory)) is (none refl))
    go (Some w) e says none =
        let both : ◌≡◌ {A = Result HubReply HubRefusal} (Err w) (Err why) = sym says ∙ is in
        let same : w ≡ why = cc in
        inr (e ∙ ap Some same)

module _ {D : Type 0} (seen : D → List ℕ) (may_leave : D → List ℕ → Type 0) where
  new_kept : (hub : HubState) (journal : Journal D) → IsSettled seen may_leave journal → entries (seen journal.disk) ≡ [] → IsKept seen may_leave hub hub journal (events_in [])
  new_kept hub journal settled none = record {
    settled = settled;
    readable = readable_none (seen journal.disk) none;
    follows = reaches_so hub hub [] (events_of (seen journal.disk) ++ events_in [])
        (ap (λ (l : List HubEvent). l ++ events_in []) (of_none (seen journal.disk) none) ∙ none_found) (reaches_none hub);
  }

  pub new_durable : (hub : HubState) (journal : Journal D) (entry : List ℕ) → IsSettled seen may_leave journal → seen journal.disk ≡ at_rest [] → entry ≡ []
      → IsDurable seen may_leave hub hub journal entry Sound
  new_durable hub journal entry settled begun none =
      subst (λ (e : List ℕ). IsDurable seen may_leave hub hub journal e Sound) (sym none) (record {
        encoded = no_entry;
        short = omega arith;
        kept = λ sound. new_kept hub journal settled (ap entries begun);
      })

  -- another file
  pub continued : (base hub : HubState) (journal later : Journal D) (entry : List ℕ) (condition : Condition) → IsDurable seen may_leave base hub journal entry condition → events_in entry ≡ []
      → IsSettled seen may_leave later → seen later.disk ≡ at_rest [] → IsDurable seen may_leave hub hub later entry condition
  continued base hub journal later entry condition d none settled begun =
      let empty : entry ≡ [] = is_empty entry d.encoded none in
      record {
        encoded = d.encoded;
        short = d.short;
        kept = λ sound. subst (λ (e : List ℕ). IsKept seen may_leave hub hub later (events_in e)) (sym empty) (new_kept hub later settled (ap entries begun));
      }

  -- a step
  pub stepped : (laws : RecordLaws) (base hub next : HubState) (journal : Journal D) (entry later : List ℕ) (event : HubEvent) (reply : HubReply) (condition after : Condition)
      → IsDurable seen may_leave base hub journal entry condition → condition ≢ Broken → HubStep hub event reply next → is_recorded event ≡ true
      → later ≡ entry ++ event_bytes event → length later < 2 ^ 32 → IsDurable seen may_leave base next journal later after
  stepped laws base hub next journal entry later event reply condition after d sound step recorded is short =
      subst (λ (e : List ℕ). IsDurable seen may_leave base next journal e after) (sym is) (record {
        encoded = entry_push laws entry event d.encoded recorded;
        short = subst (λ (e : List ℕ). length e < 2 ^ 32) is short;
        kept = λ fine.
            let k = d.kept sound in
            record {
              settled = k.settled;
              readable = k.readable;
              follows = reaches_so base next ((events_of (seen journal.disk) ++ events_in entry) ++ event ∷ []) (events_of (seen journal.disk) ++ events_in (entry ++ event_bytes event))
                  (ap (λ (l : List HubEvent). events_of (seen journal.disk) ++ l) (found_push laws entry event d.encoded recorded)
                  ∙ sym (append_assoc (events_of (seen journal.disk)) (events_in entry) (event ∷ [])))
                  (reaches_push base hub next (events_of (seen journal.disk) ++ events_in entry) event reply k.follows step recorded);
            };
      })

  -- a refused step
  pub refused : (base hub next : HubState) (journal : Journal D) (entry later : List ℕ) (condition after : Condition)
      → IsDurable seen may_leave base hub journal entry condition → condition ≢ Broken → next ≡ hub → later ≡ entry → IsDurable seen may_leave base next journal later after
  refused base hub next journal entry later condition after d sound same is =
      subst (λ (h : HubState). IsDurable seen may_leave base h journal later after) (sym same)
      (subst (λ (e : List ℕ). IsDurable seen may_leave base hub journal e after) (sym is) (record { encoded = d.encoded; short = d.short; kept = λ fine. d.kept sound }))

  -- taken output
  pub collected : (base hub next : HubState) (journal : Journal D) (entry : List ℕ) (conn : Conn) (reply : HubReply) (condition : Condition)
      → IsDurable seen may_leave base hub journal entry condition → HubStep hub (Collect conn) reply next → IsDurable seen may_leave base next journal entry condition
  collected base hub next journal entry conn reply condition d step = record {
    encoded = d.encoded;
    short = d.short;
    kept = λ sound.
        let k = d.kept sound in
        record {
          settled = k.settled;
          readable = k.readable;
          follows = reaches_collect base hub next (events_of (seen journal.disk) ++ events_in entry) conn reply k.follows step;
        };
  }

  pub collect_failed : (base hub next : HubState) (journal : Journal D) (entry : List ℕ) (condition : Condition)
      → IsDurable seen may_leave base hub journal entry condition → next ≡ hub → IsDurable seen may_leave base next journal entry condition
  collect_failed base hub next journal entry condition d same = subst (λ (h : HubState). IsDurable seen may_leave base h journal entry condition) (sym same) d

  -- a commit
  pub committed : (base hub : HubState) (journal later : Journal D) (entry none : List ℕ) (condition after : Condition)
      → IsDurable seen may_leave base hub journal entry condition → condition ≢ Broken → IsSettled seen may_leave later → entries (seen later.disk) ≡ entries (seen journal.disk) ++ entry ∷ []
      → none ≡ [] → IsDurable seen may_leave base hub later none after
  committed base hub journal later entry none condition after d sound settled is empty =
      subst (λ (e : List ℕ). IsDurable seen may_leave base hub later e after) (sym empty) (record {
        encoded = no_entry;
        short = omega arith;
        kept = λ fine.
            let k = d.kept sound in
            record {
              settled = settled;
              readable = readable_push (seen journal.disk) (seen later.disk) entry is k.readable d.encoded;
              follows = reaches_so base hub (events_of (seen journal.disk) ++ events_in entry) (events_of (seen later.disk) ++ events_in [])
                  (ap (λ (l : List HubEvent). events_of (seen later.disk) ++ l) none_found ∙ nothing (events_of (seen later.disk)) ∙ of_push (seen journal.disk) (seen later.disk) entry is) k.follows;
            };
      })
    where
      nothing : (l : List HubEvent) → l ++ [] ≡ l
      nothing [] = refl
      nothing (e ∷ es) = ap (λ (l : List HubEvent). e ∷ l) (nothing es)

  -- a failed commit
  pub failed : (base hub : HubState) (journal later : Journal D) (entry same : List ℕ) (condition : Condition)
      → IsDurable seen may_leave base hub journal entry condition → same ≡ entry → IsDurable seen may_leave base hub later same Broken
  failed base hub journal later entry same condition d is =
      subst (λ (e : List ℕ). IsDurable seen may_leave base hub later e Broken) (sym is) (record { encoded = d.encoded; short = d.short; kept = λ sound. absurd (sound refl) })

-- ---- by the result of a call

abbrev Outcome : Type 0
Outcome = Result HubReply StepRefusal

module _ {D : Type 0} (seen : D → List ℕ) (may_leave : D → List ℕ → Type 0) where
  pub step_kept : (laws : RecordLaws) (r : Outcome) (base hub next : HubState) (journal : Journal D) (entry later : List ℕ) (event : HubEvent) (condition after : Condition)
      → IsDurable seen may_leave base hub journal entry condition → condition ≢ Broken → is_recorded event ≡ true
      → IfOk r (λ reply. HubStep hub event reply next) → OnOk r (later ≡ entry ++ event_bytes event) → OnOk r (length later < 2 ^ 32) → OnErr r (next ≡ hub) → OnErr r (later ≡ entry)
      → IsDurable seen may_leave base next journal later after
  step_kept laws (Ok reply) base hub next journal entry later event condition after d sound recorded step noted short same is =
      stepped seen may_leave laws base hub next journal entry later event reply condition after d sound step recorded noted short
  step_kept laws (Err why) base hub next journal entry later event condition after d sound recorded step noted short same is =
      refused seen may_leave base hub next journal entry later condition after d sound same is

  pub collect_kept : (r : Outcome) (base hub next : HubState) (journal : Journal D) (entry : List ℕ) (conn : Conn) (condition : Condition)
      → IsDurable seen may_leave base hub journal entry condition → IfOk r (λ reply. HubStep hub (Collect conn) reply next) → OnErr r (next ≡ hub)
      → IsDurable seen may_leave base next journal entry condition
  collect_kept (Ok reply) base hub next journal entry conn condition d step same = collected seen may_leave base hub next journal entry conn reply condition d step
  collect_kept (Err why) base hub next journal entry conn condition d step same = collect_failed seen may_leave base hub next journal entry condition d same

  pub some_kept : (laws : RecordLaws) (r : Result (HubReply × ℕ) StepRefusal) (base hub next : HubState) (journal : Journal D) (entry later : List ℕ) (conn : Conn) (piece : List ℕ) (most : ℕ) (condition after : Condition)
      → IsDurable seen may_leave base hub journal entry condition → condition ≢ Broken
      → IfOk r (λ x. HubStepSome hub conn piece most x.0 x.1 next) → IfOk r (λ x. later ≡ entry ++ event_bytes (Bytes conn (take x.1 piece)))
      → OnOk r (length later < 2 ^ 32) → OnErr r (next ≡ hub) → OnErr r (later ≡ entry)
      → IsDurable seen may_leave base next journal later after
  some_kept laws (Ok x) base hub next journal entry later conn piece most condition after d sound step noted short same is =
      stepped seen may_leave laws base hub next journal entry later (Bytes conn (take x.1 piece)) x.0 condition after d sound step.step refl noted short
  some_kept laws (Err why) base hub next journal entry later conn piece most condition after d sound step noted short same is =
      refused seen may_leave base hub next journal entry later condition after d sound same is

-- the view of a durable broker
abbrev pub state : {D : Type 0} → HubState → HubState → List HubEvent → D → Condition → DurableState D
state base hub pending disk condition = record { base = base; hub = hub; pending = pending; disk = disk; condition = condition }

pub step_ok : (laws : RecordLaws) {D : Type 0} (r : Outcome) (base hub next : HubState) (disk : D) (entry later : List ℕ) (event : HubEvent) (condition after : Condition) (old : DurableState D)
    → state base hub (events_in entry) disk condition ≡ old → IsEntry (events_in entry) entry → is_recorded event ≡ true → OnOk r (later ≡ entry ++ event_bytes event) → after ≡ after_step r condition
    → OnOk r (state base next (events_in later) disk after ≡ record old { hub = next; pending = old.pending ++ event ∷ []; condition = after_step r old.condition })
step_ok laws {D} (Ok reply) base hub next disk entry later event condition after old view encoded recorded noted is =
    let pending : events_in later ≡ events_in entry ++ event ∷ [] = ap events_in noted ∙ found_push laws entry event encoded recorded in
    subst (λ (o : DurableState D). state base next (events_in later) disk after ≡ record o { hub = next; pending = o.pending ++ event ∷ []; condition = after_step (Ok reply) o.condition }) view
    (λ i. state base next (pending i) disk (is i))
step_ok laws (Err why) base hub next disk entry later event condition after old view encoded recorded noted is = tt

pub step_err : {D : Type 0} (r : Outcome) (base hub next : HubState) (disk : D) (entry later : List ℕ) (condition after : Condition) (old : DurableState D)
    → state base hub (events_in entry) disk condition ≡ old → OnErr r (next ≡ hub) → OnErr r (later ≡ entry) → after ≡ after_step r condition
    → OnErr r (state base next (events_in later) disk after ≡ record old { condition = after_step r old.condition })
step_err {D} (Ok reply) base hub next disk entry later condition after old view same noted is = tt
step_err {D} (Err why) base hub next disk entry later condition after old view same noted is =
    subst (λ (o : DurableState D). state base next (events_in later) disk after ≡ record o { condition = after_step (Err why) o.condition }) view
    (λ i. state base (same i) (events_in (noted i)) disk (is i))

pub some_ok : (laws : RecordLaws) {D : Type 0} (r : Result (HubReply × ℕ) StepRefusal) (base hub next : HubState) (disk : D) (entry later : List ℕ) (conn : Conn) (piece : List ℕ) (condition after : Condition) (old : DurableState D)
    → state base hub (events_in entry) disk condition ≡ old → IsEntry (events_in entry) entry → IfOk r (λ x. later ≡ entry ++ event_bytes (Bytes conn (take x.1 piece))) → after ≡ after_step (reply_in r) condition
    → IfOk r (λ x. state base next (events_in later) disk after ≡ record old { hub = next; pending = old.pending ++ Bytes conn (take x.1 piece) ∷ []; condition = after_step (reply_in r) old.condition })
some_ok laws {D} (Ok x) base hub next disk entry later conn piece condition after old view encoded noted is =
    step_ok laws (Ok x.0) base hub next disk entry later (Bytes conn (take x.1 piece)) condition after old view encoded refl noted is
some_ok laws (Err why) base hub next disk entry later conn piece condition after old view encoded noted is = tt

pub some_err : {D : Type 0} (r : Result (HubReply × ℕ) StepRefusal) (base hub next : HubState) (disk : D) (entry later : List ℕ) (condition after : Condition) (old : DurableState D)
    → state base hub (events_in entry) disk condition ≡ old → OnErr r (next ≡ hub) → OnErr r (later ≡ entry) → after ≡ after_step (reply_in r) condition
    → OnErr r (state base next (events_in later) disk after ≡ record old { condition = after_step (reply_in r) old.condition })
some_err (Ok x) base hub next disk entry later condition after old view same noted is = tt
some_err {D} (Err why) base hub next disk entry later condition after old view same noted is =
    step_err (Err why) base hub next disk entry later condition after old view same noted is

pub some_call : {D : Type 0} (r : Result (HubReply × ℕ) StepRefusal) (seen : D → List ℕ) (old new : DurableState D) (conn : Conn) (piece : List ℕ) (next : HubState) (after : Condition)
    → IfOk r (λ x. new ≡ record old { hub = next; pending = old.pending ++ Bytes conn (take x.1 piece) ∷ []; condition = after })
    → IfOk r (λ x. MakesCall seen (Stepped (Bytes conn (take x.1 piece))) old new)
some_call {D} (Ok x) seen old new conn piece next after is = (ap (λ (d : DurableState D). d.disk) is, ap (λ (d : DurableState D). d.pending) is)
some_call (Err why) seen old new conn piece next after is = tt

pub step_call : {D : Type 0} (r : Outcome) (seen : D → List ℕ) (old new : DurableState D) (event : HubEvent) (next : HubState) (after : Condition)
    → OnOk r (new ≡ record old { hub = next; pending = old.pending ++ event ∷ []; condition = after }) → OnOk r (MakesCall seen (Stepped event) old new)
step_call {D} (Ok reply) seen old new event next after is = (ap (λ (d : DurableState D). d.disk) is, ap (λ (d : DurableState D). d.pending) is)
step_call (Err why) seen old new event next after is = tt

-- the refusal of a step, by what contracts see
pub step_refused : {T : Type 0} (r : Result T StepRefusal) {D : Type 0} (base hub : HubState) (disk : D) (entry : List ℕ) (event : HubEvent) (condition : Condition) (old : DurableState D)
    → state base hub (events_in entry) disk condition ≡ old → IsEntry (events_in entry) entry → IfErr r (IsNotStepped entry hub event) → IfErr r (IsStepRefused old event)
step_refused (Ok reply) base hub disk entry event condition old view encoded why = tt
step_refused (Err (steps.Hub w)) {D} base hub disk entry event condition old view encoded why = subst (λ (o : DurableState D). IsHubRefusal o.hub event w) view why
step_refused (Err steps.EntryFull) {D} base hub disk entry event condition old view encoded why =
    subst (λ (o : DurableState D). 2 ^ 32 ≤ length (entry_bytes o.pending) + length (event_bytes event)) view
    (subst (λ (l : List ℕ). 2 ^ 32 ≤ length l + length (event_bytes event)) encoded.parts why)
step_refused (Err steps.Broken) base hub disk entry event condition old view encoded why = absurd why

pub collect_refused : (r : Outcome) {D : Type 0} (base hub : HubState) (disk : D) (entry : List ℕ) (event : HubEvent) (condition : Condition) (old : DurableState D)
    → state base hub (events_in entry) disk condition ≡ old → event_bytes event ≡ [] → IfErr r (IsNotStepped [] hub event) → IfErr r (IsStepRefused old event)
collect_refused (Ok reply) base hub disk entry event condition old view none why = tt
collect_refused (Err (steps.Hub w)) {D} base hub disk entry event condition old view none why = subst (λ (o : DurableState D). IsHubRefusal o.hub event w) view why
collect_refused (Err steps.EntryFull) base hub disk entry event condition old view none why = absurd (omega (arith, why, ap length none))
collect_refused (Err steps.Broken) base hub disk entry event condition old view none why = absurd why

pub collect_ok : {D : Type 0} (r : Outcome) (base hub next : HubState) (pending : List HubEvent) (disk : D) (condition : Condition) (old : DurableState D)
    → state base hub pending disk condition ≡ old → OnOk r (state base next pending disk condition ≡ record old { hub = next })
collect_ok {D} (Ok reply) base hub next pending disk condition old view = subst (λ (o : DurableState D). state base next pending disk condition ≡ record o { hub = next }) view refl
collect_ok (Err why) base hub next pending disk condition old view = tt

pub collect_err : {D : Type 0} (r : Outcome) (base hub next : HubState) (pending : List HubEvent) (disk : D) (condition : Condition) (old : DurableState D)
    → state base hub pending disk condition ≡ old → OnErr r (next ≡ hub) → OnErr r (state base next pending disk condition ≡ old)
collect_err (Ok reply) base hub next pending disk condition old view same = tt
collect_err (Err why) base hub next pending disk condition old view same = ap (λ (h : HubState). state base h pending disk condition) same ∙ view

pub collect_call : {D : Type 0} (r : Outcome) (seen : D → List ℕ) (old new : DurableState D) (conn : Conn) (next : HubState)
    → old.pending ≡ [] → OnOk r (new ≡ record old { hub = next }) → OnOk r (MakesCall seen (Collected conn) old new)
collect_call {D} (Ok reply) seen old new conn next none is = (none, ap (λ (d : DurableState D). d.disk) is, ap (λ (d : DurableState D). d.pending) is ∙ none)
collect_call (Err why) seen old new conn next none is = tt

-- a broken one
pub broken_err : {D : Type 0} (old : DurableState D) → old.condition ≡ Broken → old ≡ record old { condition = after_step (Err steps.Broken) old.condition }
broken_err old is = λ i. record old { condition = (is ∙ sym (ap (λ (c : Condition). after_step (Err steps.Broken) c) is)) i }

-- a new one
pub new_state : {D : Type 0} (base hub : HubState) (disk : D) (entry : List ℕ) → base ≡ hub → entry ≡ [] → state base hub (events_in entry) disk Sound ≡ state hub hub [] disk Sound
new_state base hub disk entry same none =
    let found : events_in entry ≡ [] = ap events_in none ∙ none_found in
    λ i. state (same i) hub (found i) disk Sound

-- a file without an event
pub begun_none : (file : List ℕ) → file ≡ at_rest [] → events_of file ≡ []
begun_none file begun = of_none file (ap entries begun)

pub still_none : {D : Type 0} (base hub : HubState) (pending : List HubEvent) (disk : D) (condition : Condition) (old : DurableState D)
    → state base hub pending disk condition ≡ old → old.pending ≡ [] → pending ≡ []
still_none {D} base hub pending disk condition old view none = ap (λ (o : DurableState D). o.pending) view ∙ none

pub continued_call : {D : Type 0} (seen : D → List ℕ) (base new hub : HubState) (pending : List HubEvent) (disk later : D) (condition : Condition) (old : DurableState D)
    → state base hub pending disk condition ≡ old → new ≡ hub → old.pending ≡ [] → seen later ≡ at_rest [] → MakesCall seen Continued old (state new hub pending later condition)
continued_call {D} seen base new hub pending disk later condition old view same none begun =
    (none, same ∙ ap (λ (o : DurableState D). o.hub) view, begun_none (seen later) begun, still_none base hub pending disk condition old view none)

-- the test for pending events
pub pending_test : {D : Type 0} (b : Bool) (base hub : HubState) (disk : D) (slice entry : List ℕ) (condition : Condition) (old : DurableState D)
    → state base hub (events_in entry) disk condition ≡ old → IsEntry (events_in entry) entry → slice ≡ entry → (b ≡ true → slice ≢ []) → (b ≡ false → slice ≡ [])
    → (b ≡ false → old.pending ≡ []) × (old.pending ≡ [] → b ≡ false)
pending_test {D} true base hub disk slice entry condition old view whole same some none =
    (λ e. absurd (true≢false e), λ e. absurd (some refl (same ∙ is_empty entry whole (ap (λ (o : DurableState D). o.pending) view ∙ e))))
pending_test {D} false base hub disk slice entry condition old view whole same some none =
    (λ e. sym (ap (λ (o : DurableState D). o.pending) view) ∙ ap events_in (sym same ∙ none refl) ∙ none_found, λ e. refl)

-- the front of a piece that is kept
pub front_noted : (before all new : List ℕ) (conn : Conn) (piece : List ℕ) (at taken : ℕ) → length before ≡ at → all ≡ before ++ event_bytes (Bytes conn piece) → taken ≤ length piece
    → ((k : Conn) (p : List ℕ) → all ≡ take at all ++ event_bytes (Bytes k p) → taken ≤ length p → new ≡ take at all ++ event_bytes (Bytes k (take taken p)))
    → new ≡ before ++ event_bytes (Bytes conn (take taken piece))
front_noted before all new conn piece at taken at_is is within shortened =
    let low : take at all ≡ before = ap (λ (l : List ℕ). take at l) is ∙ take_at before (event_bytes (Bytes conn piece)) at at_is in
    shortened conn piece (is ∙ ap (λ (l : List ℕ). l ++ event_bytes (Bytes conn piece)) (sym low)) within ∙ ap (λ (l : List ℕ). l ++ event_bytes (Bytes conn (take taken piece))) low

pub front_short : (before all new : List ℕ) (conn : Conn) (piece : List ℕ) (taken : ℕ) → all ≡ before ++ event_bytes (Bytes conn piece) → taken ≤ length piece
    → new ≡ before ++ event_bytes (Bytes conn (take taken piece)) → length all < 2 ^ 32 → length new < 2 ^ 32
front_short before all new conn piece taken is within new_is low =
    let first : length all ≡ length before + length (event_bytes (Bytes conn piece)) = ap (λ (l : List ℕ). length l) is ∙ length-append before (event_bytes (Bytes conn piece)) in
    let second : length new ≡ length before + length (event_bytes (Bytes conn (take taken piece))) = ap (λ (l : List ℕ). length l) new_is ∙ length-append before (event_bytes (Bytes conn (take taken piece))) in
    omega (arith, first, second, length-take-le taken piece within, within, low)
