-- The promise over a run of calls.
use Rattle.std.proofs.Common.{◌≡◌, ⊎_elim, ℕ, List, [], ◌∷◌, ◌++◌, refl, sym, ap, ◌∙◌, subst, append_assoc}
use Rattle.std.proofs.lemmas.List.{append-nil}
use Rattle.mq_route.specs.declared.event.HubEvent.{HubEvent}
use Rattle.mq_durable.specs.Calls.{DurableCall, Stepped, Committed, Collected, Continued, MakesCalls, came, shown, IsPrefix, DurableLaws}
use Rattle.mq_durable.specs.Recorded.{events_of, HoldsAllOrNone}
use Rattle.mq_durable.specs.State.{DurableState}

longer : (front all rest later : List HubEvent) → later ≡ all ++ rest → IsPrefix front all → IsPrefix front later
longer front all rest later is p = (p.0 ++ rest, is ∙ ap (λ (l : List HubEvent). l ++ rest) p.1 ∙ append_assoc front p.0 rest)

whole : (all : List HubEvent) → IsPrefix all all
whole all = ([], sym (append-nil all))

module _ {D : Type 0} (seen : D → List ℕ) where
  abbrev Between : List HubEvent → List HubEvent → List HubEvent → Type 0
  Between low mid high = IsPrefix low mid × IsPrefix mid high

  promised : (calls : List DurableCall) (s t : DurableState D) (before last : List HubEvent) (file : List ℕ)
      → before ≡ events_of (seen s.disk) ++ s.pending → IsPrefix last (events_of (seen s.disk))
      → MakesCalls seen s calls t → HoldsAllOrNone (events_of (seen t.disk)) t.pending file
      → IsPrefix (shown before last calls) (events_of file) × IsPrefix (events_of file) (came before calls)
  promised [] s t before last file all some made holds =
      let journal : List HubEvent = events_of (seen s.disk) in
      let P : List HubEvent → Type 0 = λ l. IsPrefix last l × IsPrefix l before in
      let same_journal : events_of (seen t.disk) ≡ journal = ap (λ (d : DurableState D). events_of (seen d.disk)) made in
      let same_pending : t.pending ≡ s.pending = ap (λ (d : DurableState D). d.pending) made in
      ⊎_elim
      (λ old. subst P (sym (old ∙ same_journal)) (some, (s.pending, all)))
      (λ new. subst P (sym (new ∙ ap (λ (l : List HubEvent). l ++ t.pending) same_journal ∙ ap (λ (l : List HubEvent). journal ++ l) same_pending ∙ sym all))
      (longer last journal s.pending before all some, whole before))
      holds.holds
  promised (Stepped event ∷ calls) s t before last file all some made holds =
      let u : DurableState D = made.0 in
      let same : events_of (seen u.disk) ≡ events_of (seen s.disk) = ap (λ (d : D). events_of (seen d)) made.1.0 in
      promised calls u t (before ++ event ∷ []) last file
      (ap (λ (l : List HubEvent). l ++ event ∷ []) all ∙ append_assoc (events_of (seen s.disk)) s.pending (event ∷ [])
      ∙ ap (λ (l : List HubEvent). l ++ (s.pending ++ event ∷ [])) (sym same) ∙ ap (λ (l : List HubEvent). events_of (seen u.disk) ++ l) (sym made.1.1))
      (subst (IsPrefix last) (sym same) some) made.2 holds
  promised (Committed ∷ calls) s t before last file all some made holds =
      let u : DurableState D = made.0 in
      promised calls u t before last file
      (all ∙ sym made.1.0 ∙ sym (append-nil (events_of (seen u.disk))) ∙ ap (λ (l : List HubEvent). events_of (seen u.disk) ++ l) (sym made.1.1))
      (longer last (events_of (seen s.disk)) s.pending (events_of (seen u.disk)) made.1.0 some) made.2 holds
  promised (Collected conn ∷ calls) s t before last file all some made holds =
      let u : DurableState D = made.0 in
      let same : events_of (seen u.disk) ≡ events_of (seen s.disk) = ap (λ (d : D). events_of (seen d)) made.1.1 in
      let is : before ≡ events_of (seen u.disk) = all ∙ ap (λ (l : List HubEvent). events_of (seen s.disk) ++ l) made.1.0 ∙ append-nil (events_of (seen s.disk)) ∙ sym same in
      promised calls u t before before file
      (is ∙ sym (append-nil (events_of (seen u.disk))) ∙ ap (λ (l : List HubEvent). events_of (seen u.disk) ++ l) (sym made.1.2))
      (subst (IsPrefix before) is (whole before)) made.2 holds
  promised (Continued ∷ calls) s t before last file all some made holds =
      let u : DurableState D = made.0 in
      let none : events_of (seen u.disk) ≡ [] = made.1.2 in
      promised calls u t [] [] file
      (sym (ap (λ (l : List HubEvent). l ++ u.pending) none ∙ made.1.3))
      (events_of (seen u.disk), refl) made.2 holds

  pub laws : DurableLaws seen
  laws = record {
    promise = λ old new calls file made holds.
        promised calls old new (events_of (seen old.disk) ++ old.pending) (events_of (seen old.disk)) file refl (whole (events_of (seen old.disk))) made holds;
  }
