-- Replayed files, and connections that end after them.
use Rattle.std.proofs.Common.{◌≡◌, ◌≢◌, ◌⊎◌, ⊎_elim, ℕ, ◌+◌, ◌<◌, Bool, true, false, if◌then◌else◌, List, [], ◌∷◌, ◌++◌, length, take, drop, get_or, map, Vec, refl, sym, ap, ◌∙◌, subst, add-one, drop-cons, ◌==◌, nat_le, ◌&&◌}
use Rattle.std.proofs.Math.Seq.{take-suc}
use Rattle.std.proofs.lemmas.Grind.{flat_map-append}
use Rattle.std.proofs.lemmas.List.{append-nil}
use Rattle.std.specs.declared.alloc.Global.{Global}
use Rattle.std.specs.List.{flat_map, list_any, AllByRecursion}
use Rattle.std.proofs.lemmas.Bool.{false≢true}
use Rattle.mq_route.specs.declared.conn.Conn.{Conn}
use Rattle.mq_route.specs.declared.event.HubEvent.{HubEvent}
use Rattle.mq_route.specs.declared.event.HubEvent.TheVariants.{Opened, Bytes, Ended, Tick, Collect}
use Rattle.mq_route.specs.Hub.{HubState, knows}
use Rattle.mq_route.specs.Routed.{same_conn}
use Rattle.mq_route.specs.Runs.{Episode, Follows}
use Rattle.mq_route.specs.Step.{HubStep}
use Rattle.mq_record.specs.Reading.{IsEntry}
use Rattle.mq_log.specs.declared.reader.Tail.TheVariants.{Closed, Torn, CutShort, Damaged}
use Rattle.mq_log.specs.Blocks.{entries, gate, tail_of, stored_length}
use Rattle.mq_durable.specs.Recorded.{events_in, events_of, IsReadable}
use Rattle.mq_durable.specs.Inside.Recorded.{AreReadable, events_in_all}
use Rattle.mq_durable.specs.declared.progress.Progress.{Progress}
use Rattle.mq_durable.specs.Recovering.{AreEnds, AreKnownAmong, Continues, HasEnded, is_end, later, latest}
use Rattle.mq_durable.specs.Inside.Recovering.{opened_by}
use Rattle.mq_durable.specs.Replaying.{Replays}
use Rattle.mq_durable.proofs.Names.{ended_known, step_clock, step_known}
use Rattle.mq_durable.proofs.Runs.{replays_all, replays_none}

-- ---- entries

abbrev pub Entry : Type 0
Entry = Vec ℕ Global

-- one more entry
pub in_all_push : (all : List Entry) (i : ℕ) (entry : Entry) → i < length all → entry ≡ get_or all i entry
    → events_in_all (take (i + 1) all) ≡ events_in_all (take i all) ++ events_in entry.items
unfolding events_in_all
in_all_push all i entry within is =
    ap (λ (n : ℕ). flat_map (λ (v : Entry). events_in v.items) (take n all)) (add-one i)
    ∙ ap (λ (l : List Entry). flat_map (λ (v : Entry). events_in v.items) l) (take-suc all i entry within ∙ ap (λ (e : Entry). take i all ++ e ∷ []) (sym is))
    ∙ flat_map-append (λ (v : Entry). events_in v.items) (take i all) (entry ∷ [])
    ∙ ap (λ (l : List HubEvent). flat_map (λ (v : Entry). events_in v.items) (take i all) ++ l) (append-nil (events_in entry.items))

pub in_none : events_in_all [] ≡ []
unfolding events_in_all
in_none = refl

mapped : (all : List Entry) → flat_map (λ (v : Entry). events_in v.items) all ≡ flat_map events_in (map (λ (v : Entry). v.items) all)
mapped [] = refl
mapped (v ∷ vs) = ap (λ (l : List HubEvent). events_in v.items ++ l) (mapped vs)

-- the entries that were read have the events of the file
pub of_read : (all : List Entry) (file : List ℕ) → map (λ (v : Entry). v.items) all ≡ entries file → events_in_all all ≡ events_of file
unfolding events_in_all events_of
of_read all file are = mapped all ∙ ap (λ (l : List (List ℕ)). flat_map events_in l) are

-- an open gate is reported
pub no_open_gate : (bytes : List ℕ) → (tail_of bytes ≡ Closed) ⊎ (tail_of bytes ≡ Torn) → gate bytes ≢ 1
no_open_gate bytes shut gate_is =
    let is : (gate bytes == 1) ≡ true = ap (λ (n : ℕ). n == 1) gate_is in
    let whole : Bool = nat_le (9 + stored_length bytes) (length bytes) in
    let tail_is : tail_of bytes ≡ (if whole then Damaged else CutShort) =
    ap (λ (b : Bool). if b then (if whole then Damaged else CutShort) else (if gate bytes == 0 && length bytes == 1 then Closed else Torn)) is in
    ⊎_elim (λ closed. not_closed whole (sym tail_is ∙ closed)) (λ torn. not_torn whole (sym tail_is ∙ torn)) shut
  where
    not_closed : (b : Bool) → (if b then Damaged else CutShort) ≡ Closed → ⊥
    not_closed true e = absurd cc
    not_closed false e = absurd cc

    not_torn : (b : Bool) → (if b then Damaged else CutShort) ≡ Torn → ⊥
    not_torn true e = absurd cc
    not_torn false e = absurd cc

-- ---- the clock

follows_clock : (h g : HubState) (es : List Episode) → Follows h es g → g.clock ≡ latest h.clock (map (λ (e : Episode). e.event) es)
follows_clock h g [] f = ap (λ (b : HubState). b.clock) f
follows_clock h g (e ∷ es) f =
    let step : HubStep h e.event e.reply e.work.hub = record { right = f.0; work = e.work; does = f.1; after = refl } in
    follows_clock e.work.hub g es f.2 ∙ ap (λ (n : ℕ). latest n (map (λ (x : Episode). x.event) es)) (step_clock h e.work.hub e.event e.reply step)

pub replays_clock : (h g : HubState) (events : List HubEvent) → Replays h events g → g.clock ≡ latest h.clock events
replays_clock h g events r = follows_clock h g r.episodes r.follows ∙ ap (λ (l : List HubEvent). latest h.clock l) r.came

-- ---- progress

pub continues_none : (p : Progress) → Continues p [] p
continues_none p = record { replays = replays_none p.hub; recovering = λ r. r }

pub continues_all : (p q r : Progress) (events more : List HubEvent) → Continues p events q → Continues q more r → Continues p (events ++ more) r
continues_all p q r events more first second = record {
  replays = replays_all p.hub q.hub r.hub events more first.replays second.replays;
  recovering = λ is. second.recovering (first.recovering is);
}

one_step : (h g : HubState) (event : HubEvent) (e : Episode) (rest : List Episode) → e.event ≡ event → Follows h (e ∷ rest) g → rest ≡ [] → HubStep h event e.reply g
one_step h g event e rest is f none =
    let end : g ≡ e.work.hub = subst (λ (es : List Episode). Follows e.work.hub es g) none f.2 in
    subst (λ (x : HubEvent). HubStep h x e.reply g) is (record { right = f.0; work = e.work; does = f.1; after = end })

pub continues_one : (p q : Progress) (event : HubEvent) → Replays p.hub (event ∷ []) q.hub → q.opened.items ≡ opened_by event p.opened.items → Continues p (event ∷ []) q
continues_one p q event r opened = record {
  replays = r;
  recovering = λ is. subst (λ (l : List Conn). AreKnownAmong l q.hub) (sym opened) (known r.episodes r.came r.follows is);
}
  where
    known : (es : List Episode) → map (λ (e : Episode). e.event) es ≡ event ∷ [] → Follows p.hub es q.hub → AreKnownAmong p.opened.items p.hub → AreKnownAmong (opened_by event p.opened.items) q.hub
    known [] came f all = absurd cc
    known (e ∷ []) came f all =
        let is : e.event ≡ event = cc in
        step_known p.hub q.hub event e.reply p.opened.items (one_step p.hub q.hub event e [] is f refl) all
    known (e ∷ x ∷ es) came f all = absurd cc

-- ---- ends of connections

pub ended_none : (hub : HubState) → HasEnded hub hub
ended_none hub = record { ends = []; are_ends = tt; replays = replays_none hub }

pub ended_one : (old new : HubState) (conn : Conn) → Replays old (Ended conn ∷ []) new → HasEnded old new
ended_one old new conn replays = record { ends = Ended conn ∷ []; are_ends = (refl, tt); replays = replays }

are_ends_all : (es fs : List HubEvent) → AreEnds es → AreEnds fs → AreEnds (es ++ fs)
are_ends_all [] fs first more = more
are_ends_all (e ∷ es) fs first more = (first.0, are_ends_all es fs first.1 more)

pub ended_all : (a b c : HubState) → HasEnded a b → HasEnded b c → HasEnded a c
ended_all a b c first second = record {
  ends = first.ends ++ second.ends;
  are_ends = are_ends_all first.ends second.ends first.are_ends second.are_ends;
  replays = replays_all a b c first.ends second.ends first.replays second.replays;
}

-- an end of a connection reports no time
latest_end : (event : HubEvent) (time : ℕ) → is_end event ≡ true → later time event ≡ time
latest_end (Opened conn) time is = refl
latest_end (Bytes conn piece) time is = refl
latest_end (Ended conn) time is = refl
latest_end (Tick now) time is = absurd (false≢true is)
latest_end (Collect conn) time is = refl

latest_ends : (events : List HubEvent) (time : ℕ) → AreEnds events → latest time events ≡ time
latest_ends [] time are = refl
latest_ends (e ∷ es) time are = ap (λ (n : ℕ). latest n es) (latest_end e time are.0) ∙ latest_ends es time are.1

pub ended_clock : (old new : HubState) → HasEnded old new → new.clock ≡ old.clock
ended_clock old new ended = replays_clock old new ended.ends ended.replays ∙ latest_ends ended.ends old.clock ended.are_ends

-- the first of some connections ended
pub one_ended : (old new : HubState) (conn : Conn) (others : List Conn) → Replays old (Ended conn ∷ []) new → AreKnownAmong (conn ∷ others) old → AreKnownAmong others new
one_ended old new conn others r all = known r.episodes r.came r.follows
  where
    known : (es : List Episode) → map (λ (e : Episode). e.event) es ≡ Ended conn ∷ [] → Follows old es new → AreKnownAmong others new
    known [] came f = absurd cc
    known (e ∷ []) came f =
        let is : e.event ≡ Ended conn = cc in
        ended_known old new conn e.reply others (one_step old new (Ended conn) e [] is f refl) all
    known (e ∷ x ∷ es) came f = absurd cc

-- the listed connections are all that the broker knows
pub begins : (hub : HubState) (listed : List Conn) → ((conn : Conn) → list_any (λ name. same_conn name conn) listed ≡ knows conn hub.connections) → AreKnownAmong listed hub
begins hub listed are conn known = are conn ∙ known

-- ---- answers of calls

-- one more readable entry
pub readable_more : (all : List Entry) (i : ℕ) (entry : Entry) → i < length all → entry ≡ get_or all i entry → AreReadable (take i all) → IsEntry (events_in entry.items) entry.items
    → AreReadable (take (i + 1) all)
readable_more all i entry within is front whole =
    subst (λ (l : List Entry). AreReadable l) (sym (ap (λ (n : ℕ). take n all) (add-one i) ∙ take-suc all i entry within ∙ ap (λ (e : Entry). take i all ++ e ∷ []) (sym is))) (go (take i all) front)
  where
    go : (es : List Entry) → AreReadable es → AreReadable (es ++ entry ∷ [])
    go [] front = (whole, tt)
    go (e ∷ es) front = (front.0, go es front.1)

-- the entries that were read are those of the file
pub readable_read : (all : List Entry) (file : List ℕ) → map (λ (v : Entry). v.items) all ≡ entries file → AreReadable all → IsReadable file
readable_read all file are whole = subst (λ (l : List (List ℕ)). AllByRecursion (λ e. IsEntry (events_in e) e) l) are (go all whole)
  where
    go : (es : List Entry) → AreReadable es → AllByRecursion (λ (e : List ℕ). IsEntry (events_in e) e) (map (λ (v : Entry). v.items) es)
    go [] front = tt
    go (e ∷ es) front = (front.0, go es front.1)

pub of_slice : (p q : Progress) (all slice : List Entry) (file : List ℕ) → slice ≡ all → map (λ (v : Entry). v.items) all ≡ entries file → Continues p (events_in_all slice) q → Continues p (events_of file) q
of_slice p q all slice file same are continues =
    subst (λ (l : List HubEvent). Continues p l q) (ap events_in_all same ∙ of_read all file are) continues

-- the first of some connections is next
pub next_ended : (conns : List Conn) (i : ℕ) (first : Conn) (hub : HubState) → i < length conns → AreKnownAmong (drop i conns) hub → AreKnownAmong (get_or conns i first ∷ drop (i + 1) conns) hub
next_ended conns i first hub within known =
    subst (λ (l : List Conn). AreKnownAmong l hub) (drop-cons conns i first within ∙ ap (λ (n : ℕ). get_or conns i first ∷ drop n conns) (sym (add-one i))) known
