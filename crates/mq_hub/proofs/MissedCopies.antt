-- Copies that a client misses, since its session or its output has no room.
use Rattle.std.proofs.Common.{◌≡◌, ◌⊎◌, ℕ, inl, inr, ◌+◌, ◌-◌, Bool, true, false, cond, not, ◌&&◌, ◌||◌, List, [], ◌∷◌, ◌++◌, filter, map, length, nat_le, Option, Some, None, is_some, IfSome, refl, sym, ap, ap₂, subst, ◌∙◌, append_assoc, append-nil, arith, eqb, eq-eqb, leb-true, leb-false, true≢false, zero-add}
use Rattle.std.proofs.lemmas.Bool.{cond-false, le-leb, lt-leb, ne_eqb}
use Rattle.std.proofs.lemmas.List.Sums.{sum_by-cons}
use Rattle.std.specs.List.{AllByRecursion}
use Rattle.mq_packet.specs.declared.message.Message.{Message}
use Rattle.mq_flow.specs.Sender.{SenderBook, is_full, uses}
use Rattle.mq_flow.specs.Stored.{message_bytes, stored_bytes}
use Rattle.mq_end.specs.Both.{has_identifier}
use Rattle.mq_end.specs.End.{End, is_up}
use Rattle.mq_end.specs.State.{EndState}
use Rattle.mq_route.specs.declared.act.Act.{Act}
use Rattle.mq_route.specs.declared.act.Act.TheVariants as acts
use Rattle.mq_route.specs.declared.config.HubConfig.{HubConfig}
use Rattle.mq_route.specs.Hub.{HubState, end_of, for_key}
use Rattle.mq_route.specs.Work.{all_fit, drops_copies, have_room, lacks_room, leaves, publish_bytes}
use Rattle.mq_tables.specs.declared.rules.CopyRules.{CopyRules}
use Rattle.mq_tables.specs.declared.space.Space.{Space}
use Rattle.mq_tables.specs.declared.sessions.session.BrokerSession.{BrokerSession}
use Rattle.mq_tables.specs.Publishing.{AreSameButRoom, MayGo, placed_at, published, roomless}
use Rattle.mq_tables.specs.Rules.{bytes_of, fits_left, free_of, left_of, rules_of, skips, space_after, space_of}
use Rattle.mq_tables.specs.Sessions.{AreAscending, session_at}
use Rattle.mq_tables.specs.Output.{output_of}
use Rattle.mq_tables.proofs.SessionRoom.{changed_own, count, end_changed, fits_own, same_sessions}
use Rattle.mq_tables.proofs.Spaces.{leaves_is, space_next, still_up}
use Rattle.mq_hub.specs.declared.publish.queued_answer.QueuedAnswer.{QueuedAnswer}
use Rattle.mq_hub.specs.declared.publish.settle.SettledCopies.{SettledCopies}
use Rattle.mq_hub.specs.declared.publish.settle.SettledMessages.{SettledMessages}
use Rattle.mq_hub.specs.Inside.Placement.{AreApart, HasSessions, HaveQueued, HaveSameBooks, Settles, first_fitting, fitting_acts, is_among, is_cut, is_short, kept_copies, misses, placed_acts, settled_acts}
use Rattle.mq_hub.specs.Inside.QueuedAnswer.{answer_for}
use Rattle.mq_hub.specs.Inside.Settlement.{IsSettled, IsSettledAs, may_miss}
use Rattle.mq_hub.proofs.PlacedCopies.{end_there, output_other, output_own}
use Rattle.mq_hub.proofs.SessionRoom.{enough_own, few_own, fit_none}

or_first : (a b : Bool) → (a || b) ≡ false → a ≡ false
or_first true b e = absurd (true≢false e)
or_first false b e = refl

or_second : (a b : Bool) → (a || b) ≡ false → b ≡ false
or_second true b e = absurd (true≢false e)
or_second false b e = e

pub and_no : (a : Bool) → (a && false) ≡ false
and_no true = refl
and_no false = refl

-- ---- nothing is missed if copies without room close the publisher, and output has no limit

pub none_missed : (config : HubConfig) (queued : ℕ → ℕ) (ts : List BrokerSession) (c : ℕ × Message) → drops_copies config.when_full ≡ false → config.most_waiting ≡ None
    → misses config queued ts c ≡ false
none_missed config queued ts c closes unlimited =
    ap₂ (λ (d : Bool) (o : Option ℕ). (d && is_short config ts c) || is_cut o (queued c.0) ts c) closes unlimited

pub all_kept : (config : HubConfig) (queued : ℕ → ℕ) (cs : List (ℕ × Message)) (ts : List BrokerSession) → drops_copies config.when_full ≡ false → config.most_waiting ≡ None
    → kept_copies config queued cs ts ≡ cs
all_kept config queued [] ts closes unlimited = refl
all_kept config queued (c ∷ cs) ts closes unlimited =
    cond-false (misses config queued ts c) (kept_copies config queued cs ts) (c ∷ kept_copies config queued cs (placed_at c.0 c.1 ts)) (none_missed config queued ts c closes unlimited)
    ∙ ap (λ (xs : List (ℕ × Message)). c ∷ xs) (all_kept config queued cs (placed_at c.0 c.1 ts) closes unlimited)

pub all_placed : (config : HubConfig) (queued : ℕ → ℕ) (cs : List (ℕ × Message)) (ts : List BrokerSession) → drops_copies config.when_full ≡ false → config.most_waiting ≡ None
    → settled_acts config queued cs ts ≡ placed_acts cs
all_placed config queued [] ts closes unlimited = refl
all_placed config queued (c ∷ cs) ts closes unlimited =
    cond-false (misses config queued ts c) (acts.Missed c.0 c.1 ∷ settled_acts config queued cs ts) (acts.Placed c.0 c.1 ∷ settled_acts config queued cs (placed_at c.0 c.1 ts))
    (none_missed config queued ts c closes unlimited)
    ∙ ap (λ (xs : List Act). acts.Placed c.0 c.1 ∷ xs) (all_placed config queued cs (placed_at c.0 c.1 ts) closes unlimited)

pub settles_all : (config : HubConfig) (queued : ℕ → ℕ) (ts : List BrokerSession) (cs : List (ℕ × Message)) (says : List Act) → drops_copies config.when_full ≡ false
    → config.most_waiting ≡ None → says ≡ placed_acts cs → Settles config queued ts cs cs says
settles_all config queued ts cs says closes unlimited is = record {
  kept = sym (all_kept config queued cs ts closes unlimited);
  says = is ∙ sym (all_placed config queued cs ts closes unlimited);
}

-- rules that miss no copy
pub rules_keep : (rules : CopyRules) → may_miss rules ≡ false → (drops_copies rules.when_full ≡ false) × (rules.most_waiting ≡ None)
rules_keep rules e = (or_first (drops_copies rules.when_full) (is_some rules.most_waiting) e, go rules.most_waiting (or_second (drops_copies rules.when_full) (is_some rules.most_waiting) e))
  where
    go : (o : Option ℕ) → is_some o ≡ false → o ≡ None
    go None e = refl
    go (Some n) e = absurd (true≢false e)

-- ---- copies for different clients

-- those of them that are placed
abbrev pub fitting : HubConfig → (ℕ → ℕ) → List BrokerSession → List (ℕ × Message) → List (ℕ × Message)
fitting config queued ts cs = filter (λ c. not (misses config queued ts c)) cs

-- the act that reports one
abbrev pub settled_act : HubConfig → (ℕ → ℕ) → List BrokerSession → ℕ × Message → Act
settled_act config queued ts c = cond (misses config queued ts c) (acts.Missed c.0 c.1) (acts.Placed c.0 c.1)

-- whether a copy is missed, by the sender's book of its client, and the number of bytes that are
-- then pending for it
abbrev missed_by : HubConfig → ℕ × Message → SenderBook → ℕ → Bool
missed_by config c book pending =
    (drops_copies config.when_full
    && (has_identifier c.1.qos && (is_full config.capacity book || not (leaves config.most_stored (stored_bytes book) (message_bytes c.1)))))
    || (not (leaves config.most_waiting pending (publish_bytes c.1)) && not (has_identifier c.1.qos))

misses_other : (config : HubConfig) (queued : ℕ → ℕ) (ts : List BrokerSession) (key : ℕ) (m : Message) (c : ℕ × Message) → eqb c.0 key ≡ false
    → misses config queued (placed_at key m ts) c ≡ misses config queued ts c
misses_other config queued ts key m c apart =
    ap₂ (λ (e : End) (b : List ℕ). missed_by config c e.book (queued c.0 + length b)) (end_changed (published m) key c.0 ts apart) (output_other key m c.0 ts apart)

fitting_other : (config : HubConfig) (queued : ℕ → ℕ) (ts : List BrokerSession) (key : ℕ) (m : Message) (cs : List (ℕ × Message)) → is_among key cs ≡ false
    → fitting config queued (placed_at key m ts) cs ≡ fitting config queued ts cs
fitting_other config queued ts key m [] none = refl
fitting_other config queued ts key m (c ∷ cs) none =
    ap₂ (λ (b : Bool) (xs : List (ℕ × Message)). cond (not b) (c ∷ xs) xs)
    (misses_other config queued ts key m c (or_first (eqb c.0 key) (is_among key cs) none))
    (fitting_other config queued ts key m cs (or_second (eqb c.0 key) (is_among key cs) none))

acts_other : (config : HubConfig) (queued : ℕ → ℕ) (ts : List BrokerSession) (key : ℕ) (m : Message) (cs : List (ℕ × Message)) → is_among key cs ≡ false
    → map (settled_act config queued (placed_at key m ts)) cs ≡ map (settled_act config queued ts) cs
acts_other config queued ts key m [] none = refl
acts_other config queued ts key m (c ∷ cs) none =
    ap₂ (λ (b : Bool) (xs : List Act). cond b (acts.Missed c.0 c.1) (acts.Placed c.0 c.1) ∷ xs)
    (misses_other config queued ts key m c (or_first (eqb c.0 key) (is_among key cs) none))
    (acts_other config queued ts key m cs (or_second (eqb c.0 key) (is_among key cs) none))

pub kept_apart : (config : HubConfig) (queued : ℕ → ℕ) (cs : List (ℕ × Message)) (ts : List BrokerSession) → AreApart cs
    → kept_copies config queued cs ts ≡ fitting config queued ts cs
kept_apart config queued [] ts apart = refl
kept_apart config queued (c ∷ cs) ts apart =
    go (misses config queued ts c) (kept_apart config queued cs ts apart.1) (kept_apart config queued cs (placed_at c.0 c.1 ts) apart.1)
  where
    go : (b : Bool) → kept_copies config queued cs ts ≡ fitting config queued ts cs
        → kept_copies config queued cs (placed_at c.0 c.1 ts) ≡ fitting config queued (placed_at c.0 c.1 ts) cs
        → cond b (kept_copies config queued cs ts) (c ∷ kept_copies config queued cs (placed_at c.0 c.1 ts))
        ≡ cond (not b) (c ∷ fitting config queued ts cs) (fitting config queued ts cs)
    go true missed placed = missed
    go false missed placed = ap (λ (xs : List (ℕ × Message)). c ∷ xs) (placed ∙ fitting_other config queued ts c.0 c.1 cs apart.0)

pub acts_apart : (config : HubConfig) (queued : ℕ → ℕ) (cs : List (ℕ × Message)) (ts : List BrokerSession) → AreApart cs
    → settled_acts config queued cs ts ≡ map (settled_act config queued ts) cs
acts_apart config queued [] ts apart = refl
acts_apart config queued (c ∷ cs) ts apart =
    go (misses config queued ts c) (acts_apart config queued cs ts apart.1) (acts_apart config queued cs (placed_at c.0 c.1 ts) apart.1)
  where
    go : (b : Bool) → settled_acts config queued cs ts ≡ map (settled_act config queued ts) cs
        → settled_acts config queued cs (placed_at c.0 c.1 ts) ≡ map (settled_act config queued (placed_at c.0 c.1 ts)) cs
        → cond b (acts.Missed c.0 c.1 ∷ settled_acts config queued cs ts) (acts.Placed c.0 c.1 ∷ settled_acts config queued cs (placed_at c.0 c.1 ts))
        ≡ cond b (acts.Missed c.0 c.1) (acts.Placed c.0 c.1) ∷ map (settled_act config queued ts) cs
    go true missed placed = ap (λ (xs : List Act). acts.Missed c.0 c.1 ∷ xs) missed
    go false missed placed = ap (λ (xs : List Act). acts.Placed c.0 c.1 ∷ xs) (placed ∙ acts_other config queued ts c.0 c.1 cs apart.0)

-- ---- sessions with the same books

-- if an answer was queued before, none is queued first
pub misses_alike : (config : HubConfig) (answer : Option QueuedAnswer) (old new : List BrokerSession) (c : ℕ × Message) → HaveSameBooks old new → HaveQueued answer old new
    → misses config (λ k. 0) new c ≡ misses config (answer_for answer) old c
misses_alike config answer old new c alike queued = ap₂ (missed_by config c) (alike c.0) (zero-add (length (output_of c.0 new)) ∙ queued c.0)

fitting_alike : (config : HubConfig) (answer : Option QueuedAnswer) (old new : List BrokerSession) (cs : List (ℕ × Message)) → HaveSameBooks old new → HaveQueued answer old new
    → fitting config (λ k. 0) new cs ≡ fitting config (answer_for answer) old cs
fitting_alike config answer old new [] alike queued = refl
fitting_alike config answer old new (c ∷ cs) alike queued =
    ap₂ (λ (b : Bool) (xs : List (ℕ × Message)). cond (not b) (c ∷ xs) xs) (misses_alike config answer old new c alike queued) (fitting_alike config answer old new cs alike queued)

acts_alike : (config : HubConfig) (answer : Option QueuedAnswer) (old new : List BrokerSession) (cs : List (ℕ × Message)) → HaveSameBooks old new → HaveQueued answer old new
    → map (settled_act config (λ k. 0) new) cs ≡ map (settled_act config (answer_for answer) old) cs
acts_alike config answer old new [] alike queued = refl
acts_alike config answer old new (c ∷ cs) alike queued =
    ap₂ (λ (b : Bool) (xs : List Act). cond b (acts.Missed c.0 c.1) (acts.Placed c.0 c.1) ∷ xs) (misses_alike config answer old new c alike queued)
    (acts_alike config answer old new cs alike queued)

pub settles_alike : (config : HubConfig) (answer : Option QueuedAnswer) (old new : List BrokerSession) (due kept : List (ℕ × Message)) (says : List Act) → AreApart due
    → HaveSameBooks old new → HaveQueued answer old new → Settles config (answer_for answer) old due kept says → Settles config (λ k. 0) new due kept says
settles_alike config answer old new due kept says apart alike queued s = record {
  kept = s.kept ∙ kept_apart config (answer_for answer) due old apart ∙ sym (fitting_alike config answer old new due alike queued) ∙ sym (kept_apart config (λ k. 0) due new apart);
  says = s.says ∙ acts_apart config (answer_for answer) due old apart ∙ sym (acts_alike config answer old new due alike queued) ∙ sym (acts_apart config (λ k. 0) due new apart);
}

pub room_same_books : (old new : List BrokerSession) → AreSameButRoom old new → HaveSameBooks old new
room_same_books old new same k = ap (λ ss. (end_of k ss).book) (same_sessions old new same)

-- the pending output is the same if only the room changed
pub room_same_output : (key : ℕ) (old new : List BrokerSession) → AreSameButRoom old new → output_of key new ≡ output_of key old
room_same_output key old new same = sym (go new) ∙ ap (output_of key) same ∙ go old
  where
    go : (ts : List BrokerSession) → output_of key (map roomless ts) ≡ output_of key ts
    go [] = refl
    go (t ∷ ts) = ap (λ (b : List ℕ). cond (eqb t.key key) t.end.output b) (go ts)

-- and so no answer was queued
pub room_queues_none : (old new : List BrokerSession) → AreSameButRoom old new → HaveQueued None old new
room_queues_none old new same key = ap (λ (b : List ℕ). length b) (room_same_output key old new same) ∙ sym (zero-add (length (output_of key old)))

-- the same copies are missed if only the room changed
pub misses_same : (config : HubConfig) (queued : ℕ → ℕ) (old new : List BrokerSession) (c : ℕ × Message) → AreSameButRoom old new → misses config queued new c ≡ misses config queued old c
misses_same config queued old new c same =
    ap₂ (λ (book : SenderBook) (b : List ℕ). missed_by config c book (queued c.0 + length b)) (room_same_books old new same c.0) (room_same_output c.0 old new same)

-- ---- fewer copies are still for different clients

pub among_fewer : (key : ℕ) (p : ℕ × Message → Bool) (cs : List (ℕ × Message)) → is_among key cs ≡ false → is_among key (filter p cs) ≡ false
among_fewer key p [] none = refl
among_fewer key p (c ∷ cs) none = go (p c) (among_fewer key p cs (or_second (eqb c.0 key) (is_among key cs) none))
  where
    go : (b : Bool) → is_among key (filter p cs) ≡ false → is_among key (cond b (c ∷ filter p cs) (filter p cs)) ≡ false
    go true rest = ap₂ (λ (x y : Bool). x || y) (or_first (eqb c.0 key) (is_among key cs) none) rest
    go false rest = rest

pub apart_fewer : (p : ℕ × Message → Bool) (cs : List (ℕ × Message)) → AreApart cs → AreApart (filter p cs)
apart_fewer p [] apart = tt
apart_fewer p (c ∷ cs) apart = go (p c) (apart_fewer p cs apart.1)
  where
    go : (b : Bool) → AreApart (filter p cs) → AreApart (cond b (c ∷ filter p cs) (filter p cs))
    go true rest = (among_fewer c.0 p cs apart.0, rest)
    go false rest = rest

-- ---- one copy

full_one : (cap u : ℕ) → nat_le cap u ≡ not (nat_le 1 (cap - u))
full_one cap u = go (nat_le cap u) refl
  where
    go : (b : Bool) → nat_le cap u ≡ b → nat_le cap u ≡ not (nat_le 1 (cap - u))
    go true e = e ∙ ap not (sym (lt-leb 1 (cap - u) (let l = leb-true cap u e in omega (arith, l))))
    go false e = e ∙ ap not (sym (le-leb 1 (cap - u) (let l = leb-false cap u e in omega (arith, l))))

not_both : (a b : Bool) → (not a || not b) ≡ not (a && b)
not_both true b = refl
not_both false b = refl

-- a session lacks room for a copy if its message does not fit
pub lacks_own : (key : ℕ) (m : Message) (s : BrokerSession) (ts : List BrokerSession) (h : HubState) → HasSessions ts h → session_at key ts ≡ Some s
    → lacks_room key m h ≡ not (fits_own h.config (m ∷ []) s)
lacks_own key m s ts h has there =
    let cap = h.config.capacity in
    let most = h.config.most_stored in
    let u = length (uses s.end.end.book) in
    let used = stored_bytes s.end.end.book in
    let sum = sum_by-cons (λ (x : Message). cond (has_identifier x.qos) (message_bytes x) 0) m [] in
    let one : bytes_of (m ∷ []) ≡ cond (has_identifier m.qos) (message_bytes m) 0 = omega (arith, sum) in
    ap (λ (e : End). has_identifier m.qos && (is_full cap e.book || not (leaves most (stored_bytes e.book) (message_bytes m))))
    (ap (end_of key) has.sessions ∙ end_there key s ts there)
    ∙ go (has_identifier m.qos) cap u used most
    ∙ ap (λ (n : ℕ). not (nat_le (count (m ∷ [])) (cap - u) && leaves most used n)) (sym one)
  where
    nothing : (o : Option ℕ) (used : ℕ) → leaves o used 0 ≡ true
    nothing None used = refl
    nothing (Some n) used = le-leb 0 (n - used) (omega arith)

    go : (b : Bool) (cap u used : ℕ) (most : Option ℕ) → (b && (nat_le cap u || not (leaves most used (message_bytes m))))
        ≡ not (nat_le (length (cond b (m ∷ []) [])) (cap - u) && leaves most used (cond b (message_bytes m) 0))
    go true cap u used most =
        ap (λ (x : Bool). x || not (leaves most used (message_bytes m))) (full_one cap u) ∙ not_both (nat_le 1 (cap - u)) (leaves most used (message_bytes m))
    go false cap u used most = ap not (sym (ap₂ (λ (x y : Bool). x && y) (le-leb 0 (cap - u) (omega arith)) (nothing most used)))

-- ---- one copy after another

-- a broker with these sessions misses the copies that they miss, if the output has room
pub misses_here : (queued : ℕ → ℕ) (c : ℕ × Message) (ts : List BrokerSession) (h : HubState) → HasSessions ts h → is_cut h.config.most_waiting (queued c.0) ts c ≡ false
    → misses h.config queued ts c ≡ (drops_copies h.config.when_full && lacks_room c.0 c.1 h)
misses_here queued c ts h has goes =
    ap₂ (λ (b : Bool) ss. (drops_copies h.config.when_full && (has_identifier c.1.qos
    && (is_full h.config.capacity (end_of c.0 ss).book || not (leaves h.config.most_stored (stored_bytes (end_of c.0 ss).book) (message_bytes c.1))))) || b)
    goes (sym has.sessions)
    ∙ or_no (drops_copies h.config.when_full && lacks_room c.0 c.1 h)
  where
    or_no : (a : Bool) → (a || false) ≡ a
    or_no true = refl
    or_no false = refl

-- a copy for which the output has no room is missed
pub misses_cut : (config : HubConfig) (queued : ℕ → ℕ) (ts : List BrokerSession) (c : ℕ × Message) → is_cut config.most_waiting (queued c.0) ts c ≡ true → misses config queued ts c ≡ true
misses_cut config queued ts c cut = ap (λ (b : Bool). (drops_copies config.when_full && is_short config ts c) || b) cut ∙ or_yes (drops_copies config.when_full && is_short config ts c)
  where
    or_yes : (a : Bool) → (a || true) ≡ true
    or_yes true = refl
    or_yes false = refl

-- and has no identifier
pub cut_plain : (most_waiting : Option ℕ) (queued : ℕ) (ts : List BrokerSession) (c : ℕ × Message) → is_cut most_waiting queued ts c ≡ true → has_identifier c.1.qos ≡ false
cut_plain most_waiting queued ts c cut = go (not (leaves most_waiting (queued + length (output_of c.0 ts)) (publish_bytes c.1))) (has_identifier c.1.qos) cut
  where
    go : (a b : Bool) → (a && not b) ≡ true → b ≡ false
    go true true e = absurd (true≢false (sym e))
    go true false e = refl
    go false b e = absurd (true≢false (sym e))

-- a copy with an identifier is not missed for its bytes of output
pub cut_identified : (most_waiting : Option ℕ) (queued : ℕ) (ts : List BrokerSession) (c : ℕ × Message) → has_identifier c.1.qos ≡ true → is_cut most_waiting queued ts c ≡ false
cut_identified most_waiting queued ts c has =
    ap (λ (b : Bool). not (leaves most_waiting (queued + length (output_of c.0 ts)) (publish_bytes c.1)) && not b) has ∙ and_no (not (leaves most_waiting (queued + length (output_of c.0 ts)) (publish_bytes c.1)))

-- a copy without one is missed if its bytes exceed what the limit leaves
pub cut_is : (most_waiting : Option ℕ) (queued : ℕ) (ts : List BrokerSession) (c : ℕ × Message) (t : BrokerSession) (left : Option ℕ) (bytes : ℕ) (fits : Bool) → session_at c.0 ts ≡ Some t
    → has_identifier c.1.qos ≡ false → left ≡ left_of most_waiting (queued + length t.end.output) → bytes ≡ publish_bytes c.1 → fits ≡ fits_left left bytes
    → not fits ≡ is_cut most_waiting queued ts c
cut_is most_waiting queued ts c t left bytes fits there plain left_is bytes_is fits_is =
    ap not (fits_is ∙ ap₂ fits_left left_is bytes_is ∙ sym (leaves_is most_waiting (queued + length t.end.output) (publish_bytes c.1))
    ∙ ap (λ (b : List ℕ). leaves most_waiting (queued + length b) (publish_bytes c.1)) (sym (output_own c.0 t ts there)))
    ∙ sym (and_yes (not (leaves most_waiting (queued + length (output_of c.0 ts)) (publish_bytes c.1))))
    ∙ ap (λ (b : Bool). not (leaves most_waiting (queued + length (output_of c.0 ts)) (publish_bytes c.1)) && not b) (sym plain)
  where
    and_yes : (a : Bool) → (a && true) ≡ a
    and_yes true = refl
    and_yes false = refl

-- a fact about all copies holds for the placed ones
pub all_settled : (P : ℕ × Message → Type 0) (config : HubConfig) (queued : ℕ → ℕ) (ts : List BrokerSession) (due kept : List (ℕ × Message)) (says : List Act) → AreApart due
    → Settles config queued ts due kept says → AllByRecursion P due → AllByRecursion P kept
all_settled P config queued ts due kept says apart s all =
    subst (AllByRecursion P) (sym (s.kept ∙ kept_apart config queued due ts apart)) (go due all)
  where
    go : (cs : List (ℕ × Message)) → AllByRecursion P cs → AllByRecursion P (fitting config queued ts cs)
    go [] all = tt
    go (c ∷ cs) all = one (misses config queued ts c) (go cs all.1)
      where
        one : (b : Bool) → AllByRecursion P (fitting config queued ts cs) → AllByRecursion P (cond (not b) (c ∷ fitting config queued ts cs) (fitting config queued ts cs))
        one true rest = rest
        one false rest = (all.0, rest)

-- ---- messages for one client, one after another

full_zero : (cap u : ℕ) → nat_le cap u ≡ eqb (cap - u) 0
full_zero cap u = go (nat_le cap u) refl
  where
    go : (b : Bool) → nat_le cap u ≡ b → nat_le cap u ≡ eqb (cap - u) 0
    go true e = e ∙ sym (eq-eqb (cap - u) 0 (let l = leb-true cap u e in omega (arith, l)))
    go false e = e ∙ sym (ne_eqb (cap - u) 0 (λ z. let l = leb-false cap u e in omega (arith, l, z)))

module _ (config : HubConfig) (rules : CopyRules) (same : rules_of config ≡ rules) (queued key : ℕ) where
  misses_own : (m : Message) (ts : List BrokerSession) (s : BrokerSession) → session_at key ts ≡ Some s → s.end.capacity ≡ config.capacity
      → misses config (λ k. queued) ts (key, m) ≡ skips rules (space_of rules queued s.end) m
  misses_own m ts s there cap =
      let u = length (uses s.end.end.book) in
      let used = stored_bytes s.end.end.book in
      let pending = queued + length s.end.output in
      ap₂ (λ (e : End) (b : List ℕ). missed_by config (key, m) e.book (queued + length b)) (end_there key s ts there) (output_own key s ts there)
      ∙ ap (λ (n : ℕ). (drops_copies config.when_full && (has_identifier m.qos && (nat_le n u || not (leaves config.most_stored used (message_bytes m)))))
      || (not (leaves config.most_waiting pending (publish_bytes m)) && not (has_identifier m.qos))) (sym cap)
      ∙ ap₂ (λ (f b : Bool). (drops_copies config.when_full && (has_identifier m.qos && (f || not b)))
      || (not (leaves config.most_waiting pending (publish_bytes m)) && not (has_identifier m.qos)))
      (full_zero s.end.capacity u) (leaves_is config.most_stored used (message_bytes m))
      ∙ ap (λ (b : Bool). (drops_copies config.when_full && (has_identifier m.qos && (eqb (free_of s.end) 0 || not (fits_left (left_of config.most_stored used) (message_bytes m)))))
      || (not b && not (has_identifier m.qos))) (leaves_is config.most_waiting pending (publish_bytes m))
      ∙ ap (λ (r : CopyRules). skips r (space_of r queued s.end) m) same

  pub kept_first : (ms : List Message) (ts : List BrokerSession) (s : BrokerSession) → session_at key ts ≡ Some s → s.end.capacity ≡ config.capacity
      → is_up s.end.end.state ≡ true
      → kept_copies config (λ k. queued) (for_key key ms) ts ≡ for_key key (first_fitting rules (space_of rules queued s.end) ms)
  kept_first [] ts s there cap up = refl
  kept_first (m ∷ ms) ts s there cap up =
      let us = placed_at key m ts in
      let space = space_of rules queued s.end in
      let u : BrokerSession = record s { end = published m s.end } in
      let placed = kept_first ms us u (changed_own (published m) key s ts there) cap (still_up m s.end up)
      ∙ ap (λ (x : Space). for_key key (first_fitting rules x ms)) (space_next rules queued m s.end up) in
      ap (λ (b : Bool). cond b (kept_copies config (λ k. queued) (for_key key ms) ts) ((key, m) ∷ kept_copies config (λ k. queued) (for_key key ms) us)) (misses_own m ts s there cap)
      ∙ go (skips rules space m) (space_after m space) us (kept_first ms ts s there cap up) placed
    where
      go : (b : Bool) (left : Space) (us : List BrokerSession)
          → kept_copies config (λ k. queued) (for_key key ms) ts ≡ for_key key (first_fitting rules (space_of rules queued s.end) ms)
          → kept_copies config (λ k. queued) (for_key key ms) us ≡ for_key key (first_fitting rules left ms)
          → cond b (kept_copies config (λ k. queued) (for_key key ms) ts) ((key, m) ∷ kept_copies config (λ k. queued) (for_key key ms) us)
          ≡ for_key key (cond b (first_fitting rules (space_of rules queued s.end) ms) (m ∷ first_fitting rules left ms))
      go true left us missed placed = missed
      go false left us missed placed = ap (λ (xs : List (ℕ × Message)). (key, m) ∷ xs) placed

  pub acts_first : (ms : List Message) (ts : List BrokerSession) (s : BrokerSession) → session_at key ts ≡ Some s → s.end.capacity ≡ config.capacity
      → is_up s.end.end.state ≡ true
      → settled_acts config (λ k. queued) (for_key key ms) ts ≡ fitting_acts rules key (space_of rules queued s.end) ms
  acts_first [] ts s there cap up = refl
  acts_first (m ∷ ms) ts s there cap up =
      let us = placed_at key m ts in
      let space = space_of rules queued s.end in
      let u : BrokerSession = record s { end = published m s.end } in
      let placed = acts_first ms us u (changed_own (published m) key s ts there) cap (still_up m s.end up)
      ∙ ap (λ (x : Space). fitting_acts rules key x ms) (space_next rules queued m s.end up) in
      ap (λ (b : Bool). cond b (acts.Missed key m ∷ settled_acts config (λ k. queued) (for_key key ms) ts) (acts.Placed key m ∷ settled_acts config (λ k. queued) (for_key key ms) us))
      (misses_own m ts s there cap)
      ∙ go (skips rules space m) (space_after m space) us (acts_first ms ts s there cap up) placed
    where
      go : (b : Bool) (left : Space) (us : List BrokerSession)
          → settled_acts config (λ k. queued) (for_key key ms) ts ≡ fitting_acts rules key (space_of rules queued s.end) ms
          → settled_acts config (λ k. queued) (for_key key ms) us ≡ fitting_acts rules key left ms
          → cond b (acts.Missed key m ∷ settled_acts config (λ k. queued) (for_key key ms) ts) (acts.Placed key m ∷ settled_acts config (λ k. queued) (for_key key ms) us)
          ≡ cond b (acts.Missed key m ∷ fitting_acts rules key (space_of rules queued s.end) ms) (acts.Placed key m ∷ fitting_acts rules key left ms)
      go true left us missed placed = ap (λ (xs : List Act). acts.Missed key m ∷ xs) missed
      go false left us missed placed = ap (λ (xs : List Act). acts.Placed key m ∷ xs) placed

-- the first messages that fit are among the messages
pub all_first : (P : Message → Type 0) (rules : CopyRules) (space : Space) (ms : List Message) → AllByRecursion P ms → AllByRecursion P (first_fitting rules space ms)
all_first P rules space [] all = tt
all_first P rules space (m ∷ ms) all = go (skips rules space m) (all_first P rules space ms all.1) (all_first P rules (space_after m space) ms all.1)
  where
    go : (b : Bool) → AllByRecursion P (first_fitting rules space ms) → AllByRecursion P (first_fitting rules (space_after m space) ms)
        → AllByRecursion P (cond b (first_fitting rules space ms) (m ∷ first_fitting rules (space_after m space) ms))
    go true missed placed = missed
    go false missed placed = (all.0, placed)

-- ---- whether there is room

pub room_closes : (cs : List (ℕ × Message)) (h : HubState) → drops_copies h.config.when_full ≡ false → have_room cs h ≡ all_fit cs h
unfolding have_room
room_closes cs h closes = ap (λ (b : Bool). b || all_fit cs h) closes

pub room_drops : (cs : List (ℕ × Message)) (h : HubState) → drops_copies h.config.when_full ≡ true → have_room cs h ≡ true
unfolding have_room
room_drops cs h drops = ap (λ (b : Bool). b || all_fit cs h) drops

pub room_all : (cs : List (ℕ × Message)) (h : HubState) → (drops_copies h.config.when_full ≡ false → all_fit cs h ≡ true) → true ≡ have_room cs h
room_all cs h fits = go (drops_copies h.config.when_full) refl
  where
    go : (b : Bool) → drops_copies h.config.when_full ≡ b → true ≡ have_room cs h
    go true e = sym (room_drops cs h e)
    go false e = sym (room_closes cs h e ∙ fits e)

pub room_lacks : (cs : List (ℕ × Message)) (h : HubState) → drops_copies h.config.when_full ≡ false → all_fit cs h ≡ false → false ≡ have_room cs h
room_lacks cs h closes short = sym (room_closes cs h closes ∙ short)

pub not_true : (b : Bool) → (b ≡ true → ⊥) → b ≡ false
not_true true never = absurd (never refl)
not_true false never = refl

-- whether a session has room for the messages of its client
pub enough_for : (key : ℕ) (ms : List Message) (h : HubState) (b c : Bool) → all_fit (for_key key ms ++ []) h ≡ (b && all_fit [] h) → b ≡ c
    → all_fit (for_key key ms) h ≡ c
enough_for key ms h b c room is =
    ap (λ (xs : List (ℕ × Message)). all_fit xs h) (sym (append-nil (for_key key ms))) ∙ room ∙ ap (λ (x : Bool). b && x) (fit_none h) ∙ go b c is
  where
    go : (b c : Bool) → b ≡ c → (b && true) ≡ c
    go true c is = is
    go false c is = is

-- whether there is room for them
pub room_own : (key : ℕ) (ms : List Message) (h : HubState) (s : BrokerSession) (ts : List BrokerSession) → AreAscending ts → session_at key ts ≡ Some s → HasSessions ts h
    → drops_copies h.config.when_full ≡ false → (b : Bool) → fits_own h.config ms s ≡ b → b ≡ have_room (for_key key ms) h
room_own key ms h s ts up there has closes true fits =
    sym (room_closes (for_key key ms) h closes ∙ ap (λ (xs : List (ℕ × Message)). all_fit xs h) (sym (append-nil (for_key key ms)))
    ∙ enough_own key ms [] h s ts up there has refl fits ∙ fit_none h)
room_own key ms h s ts up there has closes false short =
    sym (room_closes (for_key key ms) h closes ∙ ap (λ (xs : List (ℕ × Message)). all_fit xs h) (sym (append-nil (for_key key ms)))
    ∙ few_own key ms [] h s ts there has refl short)

-- ---- messages of one client are settled

-- in the space of its session
pub settled_some : (rules : CopyRules) (queued key : ℕ) (ts : List BrokerSession) (ms : List Message) (o : Option SettledMessages) → may_miss rules ≡ true
    → IfSome o (λ s. IfSome (session_at key ts) (λ t. (s.kept.items ≡ first_fitting rules (space_of rules queued t.end) ms) × (s.acts.items ≡ fitting_acts rules key (space_of rules queued t.end) ms)))
    → IfSome o (λ s. IsSettledAs rules queued key ts ms s)
settled_some rules queued key ts ms None may is = tt
settled_some rules queued key ts ms (Some s) may is = record { some = λ e. is; all = λ e. absurd (true≢false (sym may ∙ e)) }

-- or all of them
pub settled_all : (rules : CopyRules) (queued key : ℕ) (ts : List BrokerSession) (ms : List Message) (s : SettledMessages) → may_miss rules ≡ false
    → s.kept.items ≡ ms → s.acts.items ≡ placed_acts (for_key key ms) → IsSettledAs rules queued key ts ms s
settled_all rules queued key ts ms s keeps kept says = record { some = λ e. absurd (true≢false (sym e ∙ keeps)); all = λ e. (kept, says) }

-- the messages were settled for the session before the answer to a request was queued; `queued`:
-- the number of its bytes
pub settled_as : (rules : CopyRules) (config : HubConfig) (queued key : ℕ) (ms : List Message) (s : SettledMessages) (ts us : List BrokerSession) (t u : BrokerSession)
    → rules_of config ≡ rules → session_at key ts ≡ Some t → session_at key us ≡ Some u → u.end.capacity ≡ config.capacity
    → is_up u.end.end.state ≡ true → space_of rules 0 u.end ≡ space_of rules queued t.end
    → IsSettledAs rules queued key ts ms s → Settles config (λ k. 0) us (for_key key ms) (for_key key s.kept.items) s.acts.items
settled_as rules config queued key ms s ts us t u same there after cap up space is = go (may_miss rules) refl
  where
    go : (b : Bool) → may_miss rules ≡ b → Settles config (λ k. 0) us (for_key key ms) (for_key key s.kept.items) s.acts.items
    go true e =
        let own = subst (λ (o : Option BrokerSession). IfSome o (λ t. (s.kept.items ≡ first_fitting rules (space_of rules queued t.end) ms)
        × (s.acts.items ≡ fitting_acts rules key (space_of rules queued t.end) ms))) there (is.some e) in
        record {
          kept = ap (for_key key) (own.0 ∙ ap (λ (x : Space). first_fitting rules x ms) (sym space)) ∙ sym (kept_first config rules same 0 key ms us u after cap up);
          says = own.1 ∙ ap (λ (x : Space). fitting_acts rules key x ms) (sym space) ∙ sym (acts_first config rules same 0 key ms us u after cap up);
        }
    go false e =
        let all = is.all e in
        let keeps = rules_keep rules e in
        let closes = ap (λ (r : CopyRules). drops_copies r.when_full) same ∙ keeps.0 in
        let unlimited = ap (λ (r : CopyRules). r.most_waiting) same ∙ keeps.1 in
        subst (λ (xs : List Message). Settles config (λ k. 0) us (for_key key ms) (for_key key xs) s.acts.items) (sym all.0)
        (settles_all config (λ k. 0) us (for_key key ms) s.acts.items closes unlimited all.1)

-- ---- one copy was settled

pub settled_kept : (config : HubConfig) (queued : ℕ → ℕ) (ts : List BrokerSession) (c : ℕ × Message) (old new : SettledCopies) → misses config queued ts c ≡ false
    → new.kept.items ≡ old.kept.items ++ c ∷ [] → new.acts.items ≡ old.acts.items ++ acts.Placed c.0 c.1 ∷ [] → IsSettled config queued ts c old new
settled_kept config queued ts c old new goes kept says = record {
  kept = kept ∙ ap (λ (b : Bool). old.kept.items ++ cond b [] (c ∷ [])) (sym goes);
  acts = says ∙ ap (λ (b : Bool). old.acts.items ++ cond b (acts.Missed c.0 c.1) (acts.Placed c.0 c.1) ∷ []) (sym goes);
}

pub settled_missed : (config : HubConfig) (queued : ℕ → ℕ) (ts : List BrokerSession) (c : ℕ × Message) (old new : SettledCopies) → misses config queued ts c ≡ true
    → new.kept.items ≡ old.kept.items → new.acts.items ≡ old.acts.items ++ acts.Missed c.0 c.1 ∷ [] → IsSettled config queued ts c old new
settled_missed config queued ts c old new missed kept says = record {
  kept = kept ∙ sym (append-nil old.kept.items) ∙ ap (λ (b : Bool). old.kept.items ++ cond b [] (c ∷ [])) (sym missed);
  acts = says ∙ ap (λ (b : Bool). old.acts.items ++ cond b (acts.Missed c.0 c.1) (acts.Placed c.0 c.1) ∷ []) (sym missed);
}

-- and the walk over the copies goes on
pub fitting_next : (config : HubConfig) (queued : ℕ → ℕ) (ts : List BrokerSession) (c : ℕ × Message) (rest all now next : List (ℕ × Message))
    → now ++ fitting config queued ts (c ∷ rest) ≡ all → next ≡ now ++ cond (misses config queued ts c) [] (c ∷ []) → next ++ fitting config queued ts rest ≡ all
fitting_next config queued ts c rest all now next was is =
    ap (λ (xs : List (ℕ × Message)). xs ++ fitting config queued ts rest) is
    ∙ append_assoc now (cond (misses config queued ts c) [] (c ∷ [])) (fitting config queued ts rest)
    ∙ ap (λ (xs : List (ℕ × Message)). now ++ xs) (go (misses config queued ts c)) ∙ was
  where
    go : (b : Bool) → cond b [] (c ∷ []) ++ fitting config queued ts rest ≡ cond (not b) (c ∷ fitting config queued ts rest) (fitting config queued ts rest)
    go true = refl
    go false = refl

pub acts_next : (config : HubConfig) (queued : ℕ → ℕ) (ts : List BrokerSession) (c : ℕ × Message) (rest : List (ℕ × Message)) (all now next : List Act)
    → now ++ map (settled_act config queued ts) (c ∷ rest) ≡ all → next ≡ now ++ settled_act config queued ts c ∷ [] → next ++ map (settled_act config queued ts) rest ≡ all
acts_next config queued ts c rest all now next was is =
    ap (λ (xs : List Act). xs ++ map (settled_act config queued ts) rest) is
    ∙ append_assoc now (settled_act config queued ts c ∷ []) (map (settled_act config queued ts) rest) ∙ was

-- after all of them the copies are settled
pub settles_apart : (config : HubConfig) (queued : ℕ → ℕ) (ts : List BrokerSession) (cs kept : List (ℕ × Message)) (says : List Act) → AreApart cs
    → kept ≡ fitting config queued ts cs → says ≡ map (settled_act config queued ts) cs → Settles config queued ts cs kept says
settles_apart config queued ts cs kept says apart is are = record {
  kept = is ∙ sym (kept_apart config queued cs ts apart);
  says = are ∙ sym (acts_apart config queued cs ts apart);
}

-- ---- one message was settled, for a client whose session had this space

pub first_next : (rules : CopyRules) (space left : Space) (m : Message) (rest all now next : List Message) → now ++ first_fitting rules space (m ∷ rest) ≡ all
    → next ≡ now ++ cond (skips rules space m) [] (m ∷ []) → left ≡ cond (skips rules space m) space (space_after m space)
    → next ++ first_fitting rules left rest ≡ all
first_next rules space left m rest all now next was is left_is =
    ap₂ (λ (xs : List Message) (x : Space). xs ++ first_fitting rules x rest) is left_is
    ∙ append_assoc now (cond (skips rules space m) [] (m ∷ [])) (first_fitting rules (cond (skips rules space m) space (space_after m space)) rest)
    ∙ ap (λ (xs : List Message). now ++ xs) (go (skips rules space m)) ∙ was
  where
    go : (b : Bool) → cond b [] (m ∷ []) ++ first_fitting rules (cond b space (space_after m space)) rest
        ≡ cond b (first_fitting rules space rest) (m ∷ first_fitting rules (space_after m space) rest)
    go true = refl
    go false = refl

pub first_acts_next : (rules : CopyRules) (key : ℕ) (space left : Space) (m : Message) (rest : List Message) (all now next : List Act) → now ++ fitting_acts rules key space (m ∷ rest) ≡ all
    → next ≡ now ++ cond (skips rules space m) (acts.Missed key m) (acts.Placed key m) ∷ [] → left ≡ cond (skips rules space m) space (space_after m space)
    → next ++ fitting_acts rules key left rest ≡ all
first_acts_next rules key space left m rest all now next was is left_is =
    ap₂ (λ (xs : List Act) (x : Space). xs ++ fitting_acts rules key x rest) is left_is
    ∙ append_assoc now (cond (skips rules space m) (acts.Missed key m) (acts.Placed key m) ∷ []) (fitting_acts rules key (cond (skips rules space m) space (space_after m space)) rest)
    ∙ ap (λ (xs : List Act). now ++ xs) (go (skips rules space m)) ∙ was
  where
    go : (b : Bool) → cond b (acts.Missed key m) (acts.Placed key m) ∷ fitting_acts rules key (cond b space (space_after m space)) rest
        ≡ cond b (acts.Missed key m ∷ fitting_acts rules key space rest) (acts.Placed key m ∷ fitting_acts rules key (space_after m space) rest)
    go true = refl
    go false = refl

-- the space is known if there is a message to send
pub first_known : (rules : CopyRules) (space own : Space) (ms : List Message) (s : EndState) → AllByRecursion (λ m. MayGo m s) ms → (s.end.known ≡ true → space ≡ own)
    → first_fitting rules space ms ≡ first_fitting rules own ms
first_known rules space own [] s all known = refl
first_known rules space own (m ∷ ms) s all known = ap (λ (x : Space). first_fitting rules x (m ∷ ms)) (known all.0.known)

pub acts_known : (rules : CopyRules) (key : ℕ) (space own : Space) (ms : List Message) (s : EndState) → AllByRecursion (λ m. MayGo m s) ms → (s.end.known ≡ true → space ≡ own)
    → fitting_acts rules key space ms ≡ fitting_acts rules key own ms
acts_known rules key space own [] s all known = refl
acts_known rules key space own (m ∷ ms) s all known = ap (λ (x : Space). fitting_acts rules key x (m ∷ ms)) (known all.0.known)

-- ---- copies that are kept, and those that are still to be settled

-- no later copy is for the client of the next one
pub apart_later : (c : ℕ × Message) (now rest : List (ℕ × Message)) → AreApart (now ++ c ∷ rest) → is_among c.0 rest ≡ false
apart_later c [] rest apart = apart.0
apart_later c (x ∷ now) rest apart = apart_later c now rest apart.1

among_without : (key : ℕ) (now rest : List (ℕ × Message)) (c : ℕ × Message) → is_among key (now ++ c ∷ rest) ≡ false → is_among key (now ++ rest) ≡ false
among_without key [] rest c none = or_second (eqb c.0 key) (is_among key rest) none
among_without key (x ∷ now) rest c none =
    ap₂ (λ (a b : Bool). a || b) (or_first (eqb x.0 key) (is_among key (now ++ c ∷ rest)) none)
    (among_without key now rest c (or_second (eqb x.0 key) (is_among key (now ++ c ∷ rest)) none))

apart_without : (now rest : List (ℕ × Message)) (c : ℕ × Message) → AreApart (now ++ c ∷ rest) → AreApart (now ++ rest)
apart_without [] rest c apart = apart.1
apart_without (x ∷ now) rest c apart = (among_without x.0 now rest c apart.0, apart_without now rest c apart.1)

pub apart_next : (c : ℕ × Message) (rest now next : List (ℕ × Message)) → AreApart (now ++ c ∷ rest) → (next ≡ now) ⊎ (next ≡ now ++ c ∷ []) → AreApart (next ++ rest)
apart_next c rest now next apart (inl same) = subst (λ (xs : List (ℕ × Message)). AreApart (xs ++ rest)) (sym same) (apart_without now rest c apart)
apart_next c rest now next apart (inr more) =
    subst (λ (xs : List (ℕ × Message)). AreApart (xs ++ rest)) (sym more) (subst AreApart (sym (append_assoc now (c ∷ []) rest)) apart)
