-- A client's state can be saved, and loaded within its limits; and the effect of continuing a saved
-- session.
use Rattle.std.proofs.Common.{◌≡◌, ◌↔◌, ◌⊎◌, inl, inr, ℕ, ◌+◌, ◌≤◌, Bool, true, Some, Result, Ok, Err, IfErr, List, [], ◌∷◌, ◌++◌, length}
use Rattle.std.proofs.Common.{refl, sym, ap, subst, ◌∙◌, arith}
use Rattle.std.specs.Prelude.{IsErrOf}
use Rattle.std.specs.List.{All}
use Rattle.std.proofs.lemmas.Bool.{cond_both, leb-true}
use Rattle.std.proofs.lemmas.List.Elements.{All-nil, All-cons}
use Rattle.mq_topic.specs.declared.qos.Qos.{Qos}
use Rattle.mq_topic.specs.declared.qos.Qos.TheVariants.{Q0, Q1, Q2}
use Rattle.mq_packet.specs.declared.message.Message.{Message}
use Rattle.mq_decode.specs.Limits.{Bounds}
use Rattle.mq_wire.specs.Text.{IsText}
use Rattle.mq_flow.specs.declared.entry.SenderEntry.{SenderEntry}
use Rattle.mq_flow.specs.declared.load.LoadError.{LoadError}
use Rattle.mq_flow.specs.declared.load.LoadError.TheVariants as loading
use Rattle.mq_flow.specs.declared.saved.Saved.{Saved}
use Rattle.mq_flow.specs.Saved.{AreWithin, IsWithinLimit}
use Rattle.mq_flow.specs.SavedTwo.{IsSavedAs, saved_form_two}
use Rattle.mq_flow.specs.Sender.{SenderBook, blank_book, no_claims}
use Rattle.mq_end.specs.End.{End, is_live, over}
use Rattle.mq_end.specs.Both.{has_identifier}
use Rattle.mq_end.specs.Publishing.{ClientState}
use Rattle.mq_end.specs.Resuming.{FitsWithin, NamesAnother, kept_session}
use Rattle.mq_end.specs.declared.refusal.PublishRefusal.TheVariants as refusals
use Rattle.mq_end.specs.Sizes.{publish_size, identifier_size}
use Rattle.mq_end.specs.State.{EndState, Room}
use Rattle.mq_world.specs.declared.side.Side.TheVariants.{Client}
use Rattle.mq_world.specs.Machine.{Machine, Restarts}
use Rattle.mq_world.specs.Orders.{Each}
use Rattle.mq_world.specs.Carried.{IsEntry}
use Rattle.mq_world.specs.Carries.{WiredSide, Wired, fits}
use Rattle.mq_world.specs.OverBytes.{OverBytes, Stands, Follows, SameBounds, cut_off, made_anew}
use Rattle.mq_world.specs.World.{IsRestarted, IsNotRestarted}
use Rattle.mq_world.proofs.Wires.{reached_entries}
use Rattle.mq_world.proofs.Worlds.{cut_same, lost_at}

-- ---- Stored messages

-- a message with an identifier has room for it in its size (3.3.2.2)
saved_size : (limit : ℕ) (q : Qos) (topic payload : ℕ) → has_identifier q ≡ true → (2 + topic) + (identifier_size q + payload) ≤ limit
    → 2 + topic + 2 + payload ≤ limit
saved_size limit Q0 topic payload has h = cc
saved_size limit Q1 topic payload has h = omega arith
saved_size limit Q2 topic payload has h = omega arith

within : (limit most : ℕ) (m : Message) → limit ≤ most → has_identifier m.qos ≡ true → publish_size m ≤ limit → IsWithinLimit most m
within limit most m le has h =
    let s = saved_size limit m.qos (length m.topic) (length m.payload) has h in
    omega arith

pub are_within : (limit most : ℕ) (es : List SenderEntry) → limit ≤ most → Each (IsEntry (fits limit)) es → AreWithin most es
are_within limit most [] le h = tt
are_within limit most (e ∷ es) le h = (within limit most e.message le h.0.1 (leb-true (publish_size e.message) limit h.0.0), are_within limit most es le h.1)

pub fit_within : (limit : ℕ) (es : List SenderEntry) → Each (IsEntry (fits limit)) es → All (λ (e : SenderEntry). publish_size e.message ≤ limit) es
fit_within limit [] h = All-nil (λ (e : SenderEntry). publish_size e.message ≤ limit)
fit_within limit (e ∷ es) h =
    All-cons (λ (e : SenderEntry). publish_size e.message ≤ limit) e es (leb-true (publish_size e.message) limit h.0.0) (fit_within limit es h.1)

-- the messages that a client holds when its connection is over
held_over : (P : List SenderEntry → Type 0) (e : End) → P [] → P e.book.entries → P (over e).book.entries
held_over P e none all = cond_both e.clean blank_book (no_claims e.book) (λ (b : SenderBook). P b.entries) (λ t. none) (λ f. all)

pub can_be_saved : (limit : Bounds) (capacity : ℕ) (w : Wired) (m : Machine) → Stands limit capacity w m → limit.most ≤ 268435455
    → AreWithin 268435455 (over w.client.state.end).book.entries
can_be_saved limit capacity w m s le = held_over (AreWithin 268435455) w.client.state.end tt
    (subst (λ (e : End). AreWithin 268435455 e.book.entries) (sym s.carries.client.end)
    (are_within limit.most 268435455 m.client.end.book.entries le (reached_entries limit.most capacity m s.reached)))

pub can_be_loaded : (limit : Bounds) (capacity : ℕ) (w : Wired) (m : Machine) → Stands limit capacity w m
    → All (λ (e : SenderEntry). publish_size e.message ≤ limit.most) (over w.client.state.end).book.entries
can_be_loaded limit capacity w m s =
    let P : List SenderEntry → Type 0 = All (λ (e : SenderEntry). publish_size e.message ≤ limit.most) in
    held_over P w.client.state.end (All-nil (λ (e : SenderEntry). publish_size e.message ≤ limit.most))
    (subst (λ (e : End). P e.book.entries) (sym s.carries.client.end)
    (fit_within limit.most m.client.end.book.entries (reached_entries limit.most capacity m s.reached)))

-- ---- The saved form

-- The saved form of a client.
abbrev pub saved_of : ClientState → Saved
saved_of c = record { client = Some c.config.id; established = c.link.end.known; session = kept_session c.link }

pub saved_as : (c : ClientState) (id old new read : List ℕ) → IsText id → id ≡ c.config.id → old ≡ []
    → new ≡ old ++ saved_form_two c.config.id c.link.end.known (kept_session c.link) → read ≡ new → IsSavedAs (saved_of c) read
saved_as c id old new read text same none put whole = record {
  text = subst IsText same text;
  unclaimed = refl;
  unreserved = refl;
  form = whole ∙ put ∙ ap (λ (b : List ℕ). b ++ saved_form_two c.config.id c.link.end.known (kept_session c.link)) none;
}

only_memory : (r : Result ClientState LoadError) → IfErr r (λ why. (why ≡ loading.AnotherClient) ⊎ (why ≡ loading.TooLarge))
    → (IsErrOf r loading.AnotherClient → ⊥) → (IsErrOf r loading.TooLarge → ⊥) → IfErr r (λ why. why ≡ loading.Memory)
only_memory (Ok made) only a b = tt
only_memory (Err why) (inl e) a b = absurd (a (ap (λ (y : LoadError). let r : Result ClientState LoadError = Err y in r) e))
only_memory (Err why) (inr e) a b = absurd (b (ap (λ (y : LoadError). let r : Result ClientState LoadError = Err y in r) e))

-- the client that is made is the one that was saved, and its messages are within the limit
pub made_of : (c : ClientState) (v : Saved) (id : List ℕ) (limit : ℕ) (r : Result ClientState LoadError) → v ≡ saved_of c → id ≡ c.config.id
    → FitsWithin limit (kept_session c.link) → IfErr r (λ why. (why ≡ loading.AnotherClient) ⊎ (why ≡ loading.TooLarge))
    → (IsErrOf r loading.AnotherClient ↔ NamesAnother v.client id)
    → (IsErrOf r loading.TooLarge ↔ ((NamesAnother v.client id → ⊥) × (FitsWithin limit v.session → ⊥)))
    → IfErr r (λ why. why ≡ loading.Memory)
made_of c v id limit r e same fit only another large =
    let itself : NamesAnother v.client id → ⊥ = subst (λ (u : Saved). NamesAnother u.client id → ⊥) (sym e) (λ n. n (sym same)) in
    let within : FitsWithin limit v.session = subst (λ (u : Saved). FitsWithin limit u.session) (sym e) fit in
    only_memory r only (λ x. itself (another.0 x)) (λ x. (large.0 x).1 within)

-- ---- the event

pub restarted_at : OverBytes → (limit : Bounds) (capacity : ℕ) (w v : Wired) (was_open : Bool) (new : EndState)
    → was_open ≡ is_live w.client.state.end.state → new.end ≡ made_anew w.client.state.end → SameBounds w.client.state new
    → v ≡ record { client = cut_off new w.client; server = w.server } → IsRestarted limit capacity was_open w v
restarted_at law limit capacity w v was_open new is after bounds e = record {
  said = is;
  wire = ap (λ (u : Wired). u.client.wire) e;
  server = ap (λ (u : Wired). u.server) e;
  clock = ap (λ (u : Wired). u.client.clock) e;
  moves = λ n t. subst (λ (u : Wired). Follows limit capacity n (Restarts ∷ []) u) (sym e) (law.restart limit capacity w n new t after bounds);
}

pub not_restarted_at : OverBytes → (limit : Bounds) (capacity : ℕ) (w : Wired) (m : Machine) (was_open : Bool) (new : EndState) (wire : List ℕ)
    → Stands limit capacity w m → was_open ≡ is_live w.client.state.end.state → new.end ≡ over w.client.state.end → SameBounds w.client.state new
    → new.last_activity ≡ w.client.state.last_activity → new.output ≡ [] → new.room ≡ w.client.state.room → wire ≡ []
    → IsNotRestarted limit capacity was_open refusals.Memory w (record { client = record w.client { state = new; wire = wire }; server = w.server })
not_restarted_at law limit capacity w m was_open new wire s is after bounds still none kept gone =
    let v : Wired = record { client = record w.client { state = new; wire = wire }; server = w.server } in
    let e : v ≡ record { client = cut_off new w.client; server = w.server } =
    ap (λ (x : WiredSide). let u : Wired = record { client = x; server = w.server } in u)
    (cut_same w.client new wire none (ap (λ (r : Room). r.bytes) kept ∙ s.carries.client.reserved) gone) in
    record { reason = refl; lost = lost_at law limit capacity Client w v was_open new is after bounds still e }
