-- The laws of entries and released identifiers in the saved form: writing and reading are inverse
-- to each other.
use Rattle.std.proofs.Common.{◌≡◌, ℕ, zero, suc, ◌+◌, ◌≤◌, List, [], ◌∷◌, ◌++◌, length, map, Ok, refl, sym, ap, subst, ◌∙◌, append_assoc, arith}
use Rattle.std.specs.List.{flat_map, AllByRecursion}
use Rattle.std.proofs.lemmas.List.{append-nil, map-append}
use Rattle.mq_topic.specs.Qos.{qos_number}
use Rattle.mq_topic.specs.Topic.{IsTopicName}
use Rattle.mq_packet.specs.declared.message.Message.{Message}
use Rattle.mq_packet.specs.Encoding.{bit}
use Rattle.mq_flow.specs.declared.entry.SenderEntry.{SenderEntry}
use Rattle.mq_flow.specs.declared.load.Flags.{Flags}
use Rattle.mq_flow.specs.Sender.{SenderBook, uses, times, IsFree, accept}
use Rattle.mq_flow.specs.Laws.{IsSound}
use Rattle.mq_wire.specs.Number.{number}
use Rattle.mq_wire.specs.Text.{counted}
use Rattle.mq_flow.specs.Saved.{saved_payload, saved_flags, saved_entry, IsWithinLimit, IsKept}
use Rattle.mq_wire.specs.Bytes.{AreBytes}
use Rattle.mq_flow.specs.Loading.{◌>>=◌, free_at, flags_at, topic_at, payload_at, message_at, entry_at, with_entry_at, entries_at, with_released, with_released_at, released_at}
use Rattle.mq_flow.proofs.Counting.{times_append, times_same}
use Rattle.mq_flow.proofs.Books.{times_uses, gives_sound, times_accept, length_accept}
use Rattle.mq_flow.proofs.Restoring.{not_full, times_released, length_released}
use Rattle.mq_flow.proofs.Fields.{bind_ok, ok_is, Takes, takes, Takes-then, free_found, free_again, flag_bytes, flags_found, flags_again, topic_found, topic_again, payload_found, payload_again}

-- ---- a message

-- The result of reading a message.
record MessageTaken (limit : ℕ) (f : Flags) (bytes : List ℕ) (m : Message) (rest : List ℕ) : Type 0 where
  pub takes : Takes bytes (counted m.topic ++ saved_payload m.payload) rest
  pub qos : m.qos ≡ f.qos
  pub retain : m.retain ≡ f.retain
  pub topic : IsTopicName m.topic
  pub within : IsWithinLimit limit m

message_found : (limit : ℕ) → (f : Flags) (bytes : List ℕ) (x : Message × List ℕ) → AreBytes bytes → message_at limit f bytes ≡ Ok x → MessageTaken limit f bytes x.0 x.1
unfolding message_at
message_found limit f bytes x h e =
    let t = bind_ok (topic_at bytes) (λ topic. payload_at limit (length topic.0) topic.1 >>= λ payload. Ok (record { topic = topic.0; payload = payload.0; qos = f.qos; retain = f.retain }, payload.1)) x e in
    let p = bind_ok (payload_at limit (length t.0.0) t.0.1) (λ payload. Ok (record { topic = t.0.0; payload = payload.0; qos = f.qos; retain = f.retain }, payload.1)) x t.2 in
    let a = topic_found bytes t.0 h t.1 in
    let b = payload_found limit (length t.0.0) t.0.1 p.0 a.0.rest_bytes p.1 in
    let made : Message × List ℕ = (record { topic = t.0.0; payload = p.0.0; qos = f.qos; retain = f.retain }, p.0.1) in
    subst (λ (y : Message × List ℕ). MessageTaken limit f bytes y.0 y.1) (ok_is made x p.2)
    (record { takes = Takes-then (counted t.0.0) (saved_payload p.0.0) a.0 b.0; qos = refl; retain = refl; topic = a.1; within = b.1 })

message_again : (limit : ℕ) → (f : Flags) (m : Message) (rest : List ℕ) → m.qos ≡ f.qos → m.retain ≡ f.retain → IsTopicName m.topic → IsWithinLimit limit m → message_at limit f (counted m.topic ++ (saved_payload m.payload ++ rest)) ≡ Ok (m, rest)
unfolding message_at
message_again limit f m rest q r topic within = rw (topic_again m.topic (saved_payload m.payload ++ rest) topic, payload_again limit (length m.topic) m.payload rest within, sym q, sym r) refl

-- ---- an entry

-- The result of reading an entry.
pub record EntryTaken (limit : ℕ) (b : SenderBook) (bytes : List ℕ) (e : SenderEntry) (rest : List ℕ) : Type 0 where
  pub takes : Takes bytes (saved_entry e) rest
  pub free : IsFree b e.id
  pub kept : IsKept limit e

same_flags : (f : Flags) (m : Message) → m.qos ≡ f.qos → m.retain ≡ f.retain → flag_bytes f ≡ qos_number m.qos ∷ bit f.sent ∷ bit m.retain ∷ []
same_flags f m q r = rw (q, r) refl

entry_found : (limit : ℕ) → (b : SenderBook) (bytes : List ℕ) (x : SenderEntry × List ℕ) → AreBytes bytes → entry_at limit b bytes ≡ Ok x → EntryTaken limit b bytes x.0 x.1
unfolding entry_at
entry_found limit b bytes x h e =
    let i = bind_ok (free_at b bytes) (λ id. flags_at id.1 >>= λ flags. message_at limit flags.0 flags.1 >>= λ message. Ok (record { id = id.0; message = message.0; sent = flags.0.sent }, message.1)) x e in
    let f = bind_ok (flags_at i.0.1) (λ flags. message_at limit flags.0 flags.1 >>= λ message. Ok (record { id = i.0.0; message = message.0; sent = flags.0.sent }, message.1)) x i.2 in
    let m = bind_ok (message_at limit f.0.0 f.0.1) (λ message. Ok (record { id = i.0.0; message = message.0; sent = f.0.0.sent }, message.1)) x f.2 in
    let a = free_found b bytes i.0 h i.1 in
    let c = flags_found i.0.1 f.0 a.0.rest_bytes f.1 in
    let d = message_found limit f.0.0 f.0.1 m.0 c.0.rest_bytes m.1 in
    let made : SenderEntry × List ℕ = (record { id = i.0.0; message = m.0.0; sent = f.0.0.sent }, m.0.1) in
    let marks : Takes i.0.1 (saved_flags made.0) f.0.1 = subst (λ (t : List ℕ). Takes i.0.1 t f.0.1) (same_flags f.0.0 m.0.0 d.qos d.retain) c.0 in
    let body = counted m.0.0.topic ++ saved_payload m.0.0.payload in
    let all = Takes-then (number i.0.0) (saved_flags made.0 ++ body) a.0 (Takes-then (saved_flags made.0) body marks d.takes) in
    subst (λ (y : SenderEntry × List ℕ). EntryTaken limit b bytes y.0 y.1) (ok_is made x m.2)
    (record { takes = all; free = a.1; kept = record { acknowledged = λ z. c.1 (sym d.qos ∙ z); topic = d.topic; within = d.within } })

entry_again : (limit : ℕ) → (b : SenderBook) (e : SenderEntry) (rest : List ℕ) → IsFree b e.id → IsKept limit e → entry_at limit b (saved_entry e ++ rest) ≡ Ok (e, rest)
unfolding entry_at
entry_again limit b e rest free kept =
    let f : Flags = record { qos = e.message.qos; sent = e.sent; retain = e.message.retain } in
    let body = saved_payload e.message.payload ++ rest in
    let regrouped : saved_entry e ++ rest ≡ number e.id ++ (flag_bytes f ++ (counted e.message.topic ++ body)) =
    ap (λ (t : List ℕ). number e.id ++ (flag_bytes f ++ t)) (append_assoc (counted e.message.topic) (saved_payload e.message.payload) rest) in
    rw (regrouped, free_again b e.id (flag_bytes f ++ (counted e.message.topic ++ body)) free, flags_again f (counted e.message.topic ++ body) kept.acknowledged, message_again limit f e.message rest refl refl kept.topic kept.within) refl

-- ---- entries

abbrev pub more_entries : SenderBook → List SenderEntry → SenderBook
more_entries b es = record b { entries = b.entries ++ es }

pub record EntriesTaken (limit : ℕ) (n : ℕ) (b : SenderBook) (bytes : List ℕ) (after : SenderBook) (rest : List ℕ) : Type 0 where
  pub entries : List SenderEntry
  pub book : after ≡ more_entries b entries
  pub takes : Takes bytes (flat_map saved_entry entries) rest
  pub counted : length entries ≡ n
  pub each : AllByRecursion (IsKept limit) entries
  pub sound : (c : ℕ) → IsSound c b → length (uses b) + n ≤ c → IsSound c after
  pub longer : length (uses after) ≡ length (uses b) + n

pub entries_found : (limit : ℕ) → (n : ℕ) (b : SenderBook) (bytes : List ℕ) (x : SenderBook × List ℕ) → AreBytes bytes → entries_at limit n b bytes ≡ Ok x → EntriesTaken limit n b bytes x.0 x.1
unfolding with_entry_at
entries_found limit zero b bytes x h e =
    subst (λ (y : SenderBook × List ℕ). EntriesTaken limit 0 b bytes y.0 y.1) (ok_is (b, bytes) x e)
    (record {
      entries = [];
      book = ap (λ (es : List SenderEntry). record b { entries = es }) (sym (append-nil b.entries));
      takes = takes bytes [] bytes h refl;
      counted = refl;
      each = tt;
      sound = λ c s room. s;
      longer = omega arith;
    })
entries_found limit (suc n) b bytes x h e =
    let w = bind_ok (with_entry_at limit b bytes) (λ r. entries_at limit n r.0 r.1) x e in
    let i = bind_ok (entry_at limit b bytes) (λ r. Ok (accept r.0.id r.0.message r.0.sent b, r.1)) w.0 w.1 in
    let one = entry_found limit b bytes i.0 h i.1 in
    let made : SenderBook × List ℕ = (accept i.0.0.id i.0.0.message i.0.0.sent b, i.0.1) in
    let read : entries_at limit n made.0 made.1 ≡ Ok x = subst (λ (y : SenderBook × List ℕ). entries_at limit n y.0 y.1 ≡ Ok x) (sym (ok_is made w.0 i.2)) w.2 in
    let others = entries_found limit n made.0 made.1 x one.takes.rest_bytes read in
    let grown = length_accept i.0.0.id i.0.0.message i.0.0.sent b in
    record {
      entries = i.0.0 ∷ others.entries;
      book = others.book ∙ ap (λ (es : List SenderEntry). record b { entries = es }) (append_assoc b.entries (i.0.0 ∷ []) others.entries);
      takes = Takes-then (saved_entry i.0.0) (flat_map saved_entry others.entries) one.takes others.takes;
      counted = omega (arith, others.counted);
      each = (one.kept, others.each);
      sound = λ c s room. others.sound c
          (gives_sound c i.0.0.id b made.0 (not_full c b (omega arith)) one.free (λ j. times_accept i.0.0.id j i.0.0.message i.0.0.sent b) grown s)
          (omega arith);
      longer = omega (arith, others.longer);
    }

-- An identifier that was added to a sound book was free before.
free_before : (c i : ℕ) (b : SenderBook) (after : SenderBook) (more : ℕ) → IsSound c after → times i (uses after) ≡ times i (uses b) + (1 + more) → IsFree b i
free_before c i b after more s t =
    let d = s.distinct i in (s.identifiers i (omega arith), omega arith)

times_entries : (i : ℕ) (b : SenderBook) (es : List SenderEntry) → times i (uses (more_entries b es)) ≡ times i (uses b) + times i (map (λ e. e.id) es)
times_entries i b es =
    let e = times_uses i (more_entries b es) in
    let f = times_uses i b in
    let g : times i (map (λ e. e.id) (b.entries ++ es)) ≡ times i (map (λ e. e.id) b.entries) + times i (map (λ e. e.id) es) =
    rw (map-append (λ (e : SenderEntry). e.id)) (times_append i (map (λ e. e.id) b.entries) (map (λ e. e.id) es)) in
    omega arith

entries_step : (limit : ℕ) → (n : ℕ) (b : SenderBook) (bytes : List ℕ) (e : SenderEntry) (rest : List ℕ) → entry_at limit b bytes ≡ Ok (e, rest)
    → entries_at limit (suc n) b bytes ≡ entries_at limit n (accept e.id e.message e.sent b) rest
unfolding with_entry_at
entries_step limit n b bytes e rest read = rw read refl

pub entries_again : (limit : ℕ) → (n : ℕ) (es : List SenderEntry) (b : SenderBook) (c : ℕ) (rest : List ℕ) → length es ≡ n → IsSound c (more_entries b es) → AllByRecursion (IsKept limit) es
    → entries_at limit n b (flat_map saved_entry es ++ rest) ≡ Ok (more_entries b es, rest)
entries_again limit zero [] b c rest l s each = ap (λ (es : List SenderEntry). Ok (record b { entries = es }, rest)) (sym (append-nil b.entries))
entries_again limit zero (e ∷ es) b c rest l s each = absurd (omega arith)
entries_again limit (suc n) [] b c rest l s each = absurd (omega arith)
entries_again limit (suc n) (e ∷ es) b c rest l s each =
    let t = times_entries e.id b (e ∷ es) in
    let one = times_same e.id (map (λ e. e.id) es) in
    let free = free_before c e.id b (more_entries b (e ∷ es)) (times e.id (map (λ e. e.id) es)) s (omega arith) in
    let joined : (b.entries ++ e ∷ []) ++ es ≡ b.entries ++ e ∷ es = append_assoc b.entries (e ∷ []) es in
    let sound : IsSound c (more_entries (accept e.id e.message e.sent b) es) = subst (λ (l : List SenderEntry). IsSound c (record b { entries = l })) (sym joined) s in
    let others = entries_again limit n es (accept e.id e.message e.sent b) c rest (omega arith) sound each.1 in
    let first = entry_again limit b e (flat_map saved_entry es ++ rest) free each.0 in
    let regrouped : flat_map saved_entry (e ∷ es) ++ rest ≡ saved_entry e ++ (flat_map saved_entry es ++ rest) = append_assoc (saved_entry e) (flat_map saved_entry es) rest in
    ap (entries_at limit (suc n) b) regrouped
    ∙ entries_step limit n b (saved_entry e ++ (flat_map saved_entry es ++ rest)) e (flat_map saved_entry es ++ rest) first
    ∙ others
    ∙ ap (λ (l : List SenderEntry). Ok (record b { entries = l }, rest)) joined

-- ---- released identifiers

abbrev pub more_released : SenderBook → List ℕ → SenderBook
more_released b ids = record b { released = b.released ++ ids }

pub record ReleasedTaken (n : ℕ) (b : SenderBook) (bytes : List ℕ) (after : SenderBook) (rest : List ℕ) : Type 0 where
  pub ids : List ℕ
  pub book : after ≡ more_released b ids
  pub takes : Takes bytes (flat_map number ids) rest
  pub counted : length ids ≡ n
  pub sound : (c : ℕ) → IsSound c b → length (uses b) + n ≤ c → IsSound c after

pub released_found : (n : ℕ) (b : SenderBook) (bytes : List ℕ) (x : SenderBook × List ℕ) → AreBytes bytes → released_at n b bytes ≡ Ok x → ReleasedTaken n b bytes x.0 x.1
unfolding with_released_at
released_found zero b bytes x h e =
    subst (λ (y : SenderBook × List ℕ). ReleasedTaken 0 b bytes y.0 y.1) (ok_is (b, bytes) x e)
    (record {
      ids = [];
      book = ap (λ (ids : List ℕ). record b { released = ids }) (sym (append-nil b.released));
      takes = takes bytes [] bytes h refl;
      counted = refl;
      sound = λ c s room. s;
    })
released_found (suc n) b bytes x h e =
    let w = bind_ok (with_released_at b bytes) (λ r. released_at n r.0 r.1) x e in
    let i = bind_ok (free_at b bytes) (λ id. Ok (with_released id.0 b, id.1)) w.0 w.1 in
    let one = free_found b bytes i.0 h i.1 in
    let made : SenderBook × List ℕ = (with_released i.0.0 b, i.0.1) in
    let read : released_at n made.0 made.1 ≡ Ok x = subst (λ (y : SenderBook × List ℕ). released_at n y.0 y.1 ≡ Ok x) (sym (ok_is made w.0 i.2)) w.2 in
    let others = released_found n made.0 made.1 x one.0.rest_bytes read in
    let grown = length_released i.0.0 b in
    record {
      ids = i.0.0 ∷ others.ids;
      book = others.book ∙ ap (λ (ids : List ℕ). record b { released = ids }) (append_assoc b.released (i.0.0 ∷ []) others.ids);
      takes = Takes-then (number i.0.0) (flat_map number others.ids) one.0 others.takes;
      counted = omega (arith, others.counted);
      sound = λ c s room. others.sound c (gives_sound c i.0.0 b made.0 (not_full c b (omega arith)) one.1 (λ j. times_released i.0.0 j b) grown s) (omega arith);
    }

pub times_more_released : (i : ℕ) (b : SenderBook) (ids : List ℕ) → times i (uses (more_released b ids)) ≡ times i (uses b) + times i ids
times_more_released i b ids =
    let e = times_uses i (more_released b ids) in
    let f = times_uses i b in
    let g = times_append i b.released ids in
    omega arith

released_step : (n : ℕ) (b : SenderBook) (bytes : List ℕ) (i : ℕ) (rest : List ℕ) → free_at b bytes ≡ Ok (i, rest) → released_at (suc n) b bytes ≡ released_at n (with_released i b) rest
unfolding with_released_at
released_step n b bytes i rest read = rw read refl

pub released_again : (n : ℕ) (ids : List ℕ) (b : SenderBook) (c : ℕ) (rest : List ℕ) → length ids ≡ n → IsSound c (more_released b ids)
    → released_at n b (flat_map number ids ++ rest) ≡ Ok (more_released b ids, rest)
released_again zero [] b c rest l s = ap (λ (ids : List ℕ). Ok (record b { released = ids }, rest)) (sym (append-nil b.released))
released_again zero (i ∷ ids) b c rest l s = absurd (omega arith)
released_again (suc n) [] b c rest l s = absurd (omega arith)
released_again (suc n) (i ∷ ids) b c rest l s =
    let t = times_more_released i b (i ∷ ids) in
    let one = times_same i ids in
    let free = free_before c i b (more_released b (i ∷ ids)) (times i ids) s (omega arith) in
    let joined : (b.released ++ i ∷ []) ++ ids ≡ b.released ++ i ∷ ids = append_assoc b.released (i ∷ []) ids in
    let sound : IsSound c (more_released (with_released i b) ids) = subst (λ (l : List ℕ). IsSound c (record b { released = l })) (sym joined) s in
    let others = released_again n ids (with_released i b) c rest (omega arith) sound in
    let first = free_again b i (flat_map number ids ++ rest) free in
    let regrouped : flat_map number (i ∷ ids) ++ rest ≡ number i ++ (flat_map number ids ++ rest) = append_assoc (number i) (flat_map number ids) rest in
    ap (released_at (suc n) b) regrouped
    ∙ released_step n b (number i ++ (flat_map number ids ++ rest)) i (flat_map number ids ++ rest) first
    ∙ others
    ∙ ap (λ (l : List ℕ). Ok (record b { released = l }, rest)) joined
