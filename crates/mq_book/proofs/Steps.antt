-- Steps of a book: its journal, and checkpoints before them.
use Rattle.std.proofs.Common.{◌≡◌, ℕ, ◌+◌, ◌-◌, ◌^◌, ◌<◌, ◌≤◌, ◌⊎◌, inl, inr, true, false, List, [], ◌∷◌, ◌++◌, length, Option, Some, None, IfSome, IsSome, min, refl, sym, ap, ◌∙◌, subst, arith, length-append}
use Rattle.mq_route.specs.declared.event.HubEvent.{HubEvent}
use Rattle.mq_route.specs.declared.reply.HubReply.{HubReply}
use Rattle.mq_route.specs.Hub.{HubState}
use Rattle.mq_route.specs.Step.{HubStep}
use Rattle.std.proofs.lemmas.List.Sums.{sum_by-append}
use Rattle.mq_book.specs.declared.entry.Entry.{Entry}
use Rattle.mq_book.specs.declared.entry.Receipt.{Receipt}
use Rattle.mq_book.specs.declared.refusal.BookRefusal.{BookRefusal}
use Rattle.mq_book.specs.declared.refusal.BookRefusal.TheVariants.{Hub, JournalFull, Memory}
use Rattle.mq_book.specs.declared.work_end.OnFull.{OnFull}
use Rattle.mq_book.specs.declared.work_end.OnFull.TheVariants.{Stop, Checkpoint}
use Rattle.mq_book.specs.Pages.{IsFull, JournalledStep, Pages, RefusedAs, RefusedOn, Sealed, after_checkpoint, journal_of, weight, weight_of}
use Rattle.mq_book.specs.Inside.Pages.{IsDue, checkpointed}
use Rattle.mq_book.specs.Replays.{Replay}
use Rattle.mq_book.proofs.Replayed.{replay_snoc}

pub journalled : (worker : ℕ) (event : HubEvent) (mid before : Pages) (r : Receipt) (after : Pages) → mid ≡ before
    → HubStep mid.hub event r.reply after.hub → after.entries ≡ mid.entries ++ record { worker = worker; event = event; reply = r.reply } ∷ []
    → (r.worker ≡ worker) × (r.place ≡ mid.first + length mid.entries)
    → (after.base ≡ mid.base) × (after.first ≡ mid.first) × (after.limit ≡ mid.limit) → JournalledStep worker event before r after
journalled worker event mid before r after same stepped grown receipt kept =
    let P : Pages → Type 0 = λ m. JournalledStep worker event m r after in
    subst P same (record {
      stepped = stepped;
      grown = grown;
      own = receipt.0;
      place = receipt.1;
      base = kept.0;
      first = kept.1;
      limit = kept.2;
    })

clash : false ≡ true → ⊥
clash e = cc

-- a journal grows by an entry
pub size_grows : (es : List Entry) (e : Entry) (size more new : ℕ) → size ≡ min (weight es) (2 ^ 64 - 1) → more ≡ min (weight_of e) (2 ^ 64 - 1)
    → new ≡ min (size + more) (2 ^ 64 - 1) → new ≡ min (weight (es ++ e ∷ [])) (2 ^ 64 - 1)
size_grows es e size more new a b c = omega (arith, a, b, c, sum_by-append weight_of es (e ∷ []))

-- a journal grows by the entry of a step
pub step_invariant : (base : HubState) (old mid new : List Entry) (hub next : HubState) (e : Entry) (reply : HubReply) (first total total2 n : ℕ)
    → Replay base old hub × (first + length old ≡ total) × (first + length old < n) → mid ≡ old → new ≡ mid ++ e ∷ [] → HubStep hub e.event reply next
    → e.reply ≡ reply → total2 ≡ total + 1 → first + length old + 1 < n
    → Replay base new next × (first + length new ≡ total2) × (first + length new < n)
step_invariant base old mid new hub next e reply first total total2 n inv same grown step said counted fits =
    let Q : HubReply → Type 0 = λ r. HubStep hub e.event r next in
    let P : List Entry → Type 0 = λ es. Replay base es next in
    let grows : new ≡ old ++ e ∷ [] = grown ∙ ap (λ (es : List Entry). es ++ e ∷ []) same in
    let long : length new ≡ length (old ++ e ∷ []) = ap (λ (es : List Entry). length es) grows in (
      subst P (sym grows) (replay_snoc base old hub e next inv.0 (subst Q (sym said) step)),
      omega (arith, inv.1, counted, long, length-append old (e ∷ [])),
      omega (arith, fits, long, length-append old (e ∷ [])),
    )

no_checkpoint : Stop ≡ Checkpoint → ⊥
no_checkpoint e = cc

full_after : (b : Pages) → (IsDue b → ⊥) → IsFull b → IsFull (after_checkpoint b)
full_after b kept (inl over) = absurd (kept (inl over))
full_after b kept (inr none) = inr (omega (arith, none))

full_before : (b : Pages) → IsFull (after_checkpoint b) → IsFull b
full_before b (inl over) = inl (omega (arith, over))
full_before b (inr none) = inr (omega (arith, none))

refused_after : (b : Pages) (journal : Option Sealed) (event : HubEvent) (why : BookRefusal) → (IsDue b → IsSome journal)
    → RefusedAs (checkpointed b journal) event why → RefusedAs (after_checkpoint b) event why
refused_after b (Some j) event why kept p = p
refused_after b None event (Hub why) kept p = p
refused_after b None event JournalFull kept p = (p.0, full_after b (λ due. clash (kept due)) p.1)
refused_after b None event Memory kept p = (p.0, λ full. p.1 (full_before b full))

refused_at : (on_full : OnFull) (b : Pages) (journal : Option Sealed) (event : HubEvent) (why : BookRefusal)
    → IfSome journal (λ j. (on_full ≡ Checkpoint) × IsDue b × (j ≡ journal_of b)) → (on_full ≡ Checkpoint → IsDue b → IsSome journal)
    → RefusedAs (checkpointed b journal) event why → RefusedOn on_full b event why
refused_at Checkpoint b journal event why handed kept p = refused_after b journal event why (kept refl) p
refused_at Stop b None event why handed kept p = p
refused_at Stop b (Some j) event why handed kept p = absurd (no_checkpoint handed.0)

-- why a step is refused, at the book that the checkpoint left
pub refused_on : (on_full : OnFull) (b mid : Pages) (journal : Option Sealed) (event : HubEvent) (why : BookRefusal) → mid ≡ checkpointed b journal
    → IfSome journal (λ j. (on_full ≡ Checkpoint) × IsDue b × (j ≡ journal_of b)) → (on_full ≡ Checkpoint → IsDue b → IsSome journal)
    → RefusedAs mid event why → RefusedOn on_full b event why
refused_on on_full b mid journal event why same handed kept p =
    let P : Pages → Type 0 = λ m. RefusedAs m event why in refused_at on_full b journal event why handed kept (subst P same p)
