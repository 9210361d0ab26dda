-- A broker that is restored from a snapshot and a journal.
use Rattle.std.proofs.Common.{◌≡◌, ◌≢◌, ℕ, ◌+◌, ◌<◌, arith, List, [], ◌∷◌, length, take, get_or, map, refl, sym, ap, ◌∙◌, subst, length-append}
use Rattle.mq_route.specs.declared.config.HubConfig.{HubConfig}
use Rattle.mq_route.specs.declared.event.HubEvent.{HubEvent}
use Rattle.mq_route.specs.Hub.{HubConnection, HubState}
use Rattle.mq_route.specs.Snapshot.{IsKeptWhole, IsStorable, SnapshotLaws, quieted, restored, snapshot}
use Rattle.mq_log.specs.Blocks.{at_rest, gate, rest}
use Rattle.mq_durable.specs.Recorded.{IsReadable, events_in, events_of}
use Rattle.mq_durable.specs.Inside.Recorded.{events_in_all}
use Rattle.mq_durable.specs.Recovering.{HasEnded}
use Rattle.mq_durable.specs.Replaying.{Replays}
use Rattle.mq_durable.proofs.Entries.{of_none}
use Rattle.mq_durable.proofs.Recoveries.{Entry, in_all_push, in_none}
use Rattle.mq_store.specs.Configuration.{config_bytes}
use Rattle.mq_store.specs.Restoring.{EndsAfter, IsEnded}
use Rattle.mq_store.specs.SnapshotFile.{parts_of, snapshot_file, with_digest}

-- ---- the number of events

pub count_none : 0 ≡ length (events_in_all [])
count_none = sym (ap (λ (l : List HubEvent). length l) in_none)

pub count_more : (count more : ℕ) (all : List Entry) (i : ℕ) (entry : Entry) → i < length all → entry ≡ get_or all i entry
    → count ≡ length (events_in_all (take i all)) → more ≡ length (events_in entry.items)
    → count + more ≡ length (events_in_all (take (i + 1) all))
count_more count more all i entry within is so_far here =
    let pushed : length (events_in_all (take (i + 1) all)) ≡ length (events_in_all (take i all)) + length (events_in entry.items) =
    ap (λ (l : List HubEvent). length l) (in_all_push all i entry within is) ∙ length-append (events_in_all (take i all)) (events_in entry.items) in
    omega arith

pub no_events : (file : List ℕ) → file ≡ at_rest [] → events_of file ≡ []
no_events file is = ap events_of is ∙ of_none (at_rest []) refl

-- ---- the broker

pub ended_after : (begun first second new : HubState) (journal : List ℕ) → first ≡ begun → Replays first (events_of journal) second
    → IsReadable journal → gate (rest journal) ≢ 1 → HasEnded second new → new.connections ≡ [] → EndsAfter begun journal new
ended_after begun first second new journal is replays readable whole ended none = record {
  undamaged = (readable, whole);
  replayed = second;
  replays = subst (λ (h : HubState). Replays h (events_of journal) second) is replays;
  ended = ended;
  none = none;
}

pub ended_from : (nth : ℕ) (config hub journal : List ℕ) (begun new : HubState) (events : ℕ) → config_bytes begun.config ≡ config → snapshot begun ≡ hub
    → IsKeptWhole begun → events ≡ length (events_of journal) → EndsAfter begun journal new
    → IsEnded (with_digest (parts_of nth config hub)) journal new events
ended_from nth config hub journal begun new events config_is hub_is whole counted after = record {
  nth = nth;
  begun = begun;
  saved = ap (λ (c : List ℕ). with_digest (parts_of nth c hub)) (sym config_is) ∙ ap (λ (h : List ℕ). with_digest (parts_of nth (config_bytes begun.config) h)) (sym hub_is);
  whole = whole;
  events_are = counted;
  ends_after = after;
}

pub loaded : (laws : SnapshotLaws) (config : HubConfig) (saved : List ℕ) (old new : HubState) → snapshot new ≡ saved → new.config ≡ config
    → IsKeptWhole new → IsStorable new → saved ≡ snapshot old → IsStorable old → new ≡ restored config old
loaded laws config saved old new read is whole new_storable from old_storable =
    sym (subst (λ (c : HubConfig). restored c new ≡ new) is whole) ∙ laws.one config new old new_storable old_storable (read ∙ from)

-- a broker that is loaded has connections only if the saved one has
pub none_loaded : (config : HubConfig) (old new : HubState) → new ≡ restored config old → old.connections ≡ [] → new.connections ≡ []
none_loaded config old new is none =
    ap (λ (h : HubState). h.connections) is ∙ ap (λ (xs : List HubConnection). map quieted xs) none
