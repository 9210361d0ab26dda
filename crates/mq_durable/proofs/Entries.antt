-- Events that are encoded in an entry are found in it.
use Rattle.std.proofs.Common.{◌≡◌, ℕ, ◌<◌, ◌≤◌, true, List, [], ◌∷◌, ◌++◌, length, drop, refl, sym, ◌∙◌, ap, subst, arith, length-append, append_assoc, Result}
use Rattle.std.proofs.lemmas.Bool.{false≢true}
use Rattle.std.proofs.lemmas.Grind.{flat_map-append}
use Rattle.std.proofs.lemmas.List.{append-nil, drop_at}
use Rattle.std.specs.List.{flat_map, AllByRecursion}
use Rattle.mq_route.specs.declared.event.HubEvent.{HubEvent}
use Rattle.mq_route.specs.declared.event.HubEvent.TheVariants.{Opened, Bytes, Ended, Tick, Collect}
use Rattle.mq_record.specs.declared.fault.RecordFault.{RecordFault}
use Rattle.mq_record.specs.Encoding.{event_bytes, entry_bytes, is_recorded}
use Rattle.mq_record.specs.Reading.{AreRecorded, IsEntry}
use Rattle.mq_record.specs.Laws.{RecordLaws}
use Rattle.mq_log.specs.Blocks.{entries}
use Rattle.mq_durable.specs.Recorded.{events_in, events_of, events_within, first_and_more}

some_bytes : (event : HubEvent) → is_recorded event ≡ true → 0 < length (event_bytes event)
some_bytes (Opened conn) is = omega arith
some_bytes (Bytes conn piece) is = omega arith
some_bytes (Ended conn) is = omega arith
some_bytes (Tick now) is = omega arith
some_bytes (Collect conn) is = absurd (false≢true is)

count : (events : List HubEvent) → AreRecorded events → length events ≤ length (entry_bytes events)
count [] all = omega arith
count (e ∷ es) all = omega (arith, some_bytes e all.0, count es all.1, length-append (event_bytes e) (entry_bytes es))

pub bytes_push : (events : List HubEvent) (event : HubEvent) → entry_bytes (events ++ event ∷ []) ≡ entry_bytes events ++ event_bytes event
bytes_push [] event = append-nil (event_bytes event)
bytes_push (e ∷ es) event = ap (λ (l : List ℕ). event_bytes e ++ l) (bytes_push es event) ∙ sym (append_assoc (event_bytes e) (entry_bytes es) (event_bytes event))

recorded_push : (events : List HubEvent) (event : HubEvent) → AreRecorded events → is_recorded event ≡ true → AreRecorded (events ++ event ∷ [])
recorded_push [] event all is = (is, tt)
recorded_push (e ∷ es) event all is = (all.0, recorded_push es event all.1 is)

module _ (laws : RecordLaws) where
  within_again : (bound : List ℕ) (events : List HubEvent) → AreRecorded events → length events ≤ length bound → events_within bound (entry_bytes events) ≡ events
  within_again [] [] all le = refl
  within_again [] (e ∷ es) all le = absurd (omega (arith, le))
  within_again (b ∷ bound) [] all le = refl
  within_again (b ∷ bound) (e ∷ es) all le =
      let rest : drop (length (event_bytes e)) (event_bytes e ++ entry_bytes es) ≡ entry_bytes es = drop_at (event_bytes e) (entry_bytes es) (length (event_bytes e)) refl in
      ap (λ (r : Result (HubEvent × ℕ) RecordFault). first_and_more r (λ size. events_within bound (drop size (event_bytes e ++ entry_bytes es)))) (laws.again e (entry_bytes es) all.0)
      ∙ ap (λ (l : List ℕ). e ∷ events_within bound l) rest
      ∙ ap (λ (l : List HubEvent). e ∷ l) (within_again bound es all.1 (omega (arith, le)))

  -- the events of an entry
  pub found : (events : List HubEvent) (entry : List ℕ) → IsEntry events entry → events_in entry ≡ events
  unfolding events_in
  found events entry is =
      ap (λ (l : List ℕ). events_within l l) is.parts
      ∙ within_again (entry_bytes events) events is.recorded (count events is.recorded)

  -- the encodings of events are an entry of them
  pub entry_is : (events : List HubEvent) (entry : List ℕ) → IsEntry events entry → IsEntry (events_in entry) entry
  entry_is events entry is = subst (λ (l : List HubEvent). IsEntry l entry) (sym (found events entry is)) is

  pushed : (entry : List ℕ) (event : HubEvent) → IsEntry (events_in entry) entry → is_recorded event ≡ true → IsEntry (events_in entry ++ event ∷ []) (entry ++ event_bytes event)
  pushed entry event is recorded = record {
    recorded = recorded_push (events_in entry) event is.recorded recorded;
    parts = ap (λ (l : List ℕ). l ++ event_bytes event) is.parts ∙ sym (bytes_push (events_in entry) event);
  }

  -- one more event
  pub found_push : (entry : List ℕ) (event : HubEvent) → IsEntry (events_in entry) entry → is_recorded event ≡ true → events_in (entry ++ event_bytes event) ≡ events_in entry ++ event ∷ []
  found_push entry event is recorded = found (events_in entry ++ event ∷ []) (entry ++ event_bytes event) (pushed entry event is recorded)

  pub entry_push : (entry : List ℕ) (event : HubEvent) → IsEntry (events_in entry) entry → is_recorded event ≡ true → IsEntry (events_in (entry ++ event_bytes event)) (entry ++ event_bytes event)
  entry_push entry event is recorded = entry_is (events_in entry ++ event ∷ []) (entry ++ event_bytes event) (pushed entry event is recorded)

-- no byte, and no event
pub none_found : events_in [] ≡ []
unfolding events_in
none_found = refl

pub no_entry : IsEntry (events_in []) []
no_entry = subst (λ (l : List HubEvent). IsEntry l []) (sym none_found) (record { recorded = tt; parts = refl })

-- an entry without events is empty
pub is_empty : (entry : List ℕ) → IsEntry (events_in entry) entry → events_in entry ≡ [] → entry ≡ []
is_empty entry is none = is.parts ∙ ap entry_bytes none

-- one more entry of a file
pub of_push : (file later : List ℕ) (entry : List ℕ) → entries later ≡ entries file ++ entry ∷ [] → events_of later ≡ events_of file ++ events_in entry
unfolding events_of
of_push file later entry is =
    ap (λ (l : List (List ℕ)). flat_map events_in l) is
    ∙ flat_map-append events_in (entries file) (entry ∷ [])
    ∙ ap (λ (l : List HubEvent). flat_map events_in (entries file) ++ l) (append-nil (events_in entry))

pub of_same : (file later : List ℕ) → entries later ≡ entries file → events_of later ≡ events_of file
unfolding events_of
of_same file later is = ap (λ (l : List (List ℕ)). flat_map events_in l) is

pub of_none : (file : List ℕ) → entries file ≡ [] → events_of file ≡ []
unfolding events_of
of_none file is = ap (λ (l : List (List ℕ)). flat_map events_in l) is

abbrev pub IsWhole : List ℕ → Type 0
IsWhole entry = IsEntry (events_in entry) entry

all_push : (es : List (List ℕ)) (entry : List ℕ) → AllByRecursion IsWhole es → IsWhole entry → AllByRecursion IsWhole (es ++ entry ∷ [])
all_push [] entry all is = (is, tt)
all_push (e ∷ es) entry all is = (all.0, all_push es entry all.1 is)

pub readable_push : (file later : List ℕ) (entry : List ℕ) → entries later ≡ entries file ++ entry ∷ [] → AllByRecursion IsWhole (entries file) → IsWhole entry
    → AllByRecursion IsWhole (entries later)
readable_push file later entry is all whole = subst (λ (l : List (List ℕ)). AllByRecursion IsWhole l) (sym is) (all_push (entries file) entry all whole)

pub readable_same : (file later : List ℕ) → entries later ≡ entries file → AllByRecursion IsWhole (entries file) → AllByRecursion IsWhole (entries later)
readable_same file later is all = subst (λ (l : List (List ℕ)). AllByRecursion IsWhole l) (sym is) all

pub readable_none : (file : List ℕ) → entries file ≡ [] → AllByRecursion IsWhole (entries file)
readable_none file is = subst (λ (l : List (List ℕ)). AllByRecursion IsWhole l) (sym is) tt
