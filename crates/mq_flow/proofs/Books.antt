-- Each move keeps the sender's book sound.
use Rattle.std.proofs.Common.{◌≡◌, ℕ, zero, suc, ◌+◌, ◌<◌, ◌≤◌, ◌⊎◌, ◌∙◌, Bool, true, false, cond, not, eqb, List, [], ◌∷◌, ◌++◌, map, length, refl, sym, ap, subst, arith, inl, inr}
use Rattle.std.proofs.lemmas.Bool.{cases_eq, cond_both}
use Rattle.std.proofs.lemmas.Bool.Decides.{nat_tests}
use Rattle.std.proofs.lemmas.List.{length-append, length-map, map-append}
use Rattle.mq_topic.specs.declared.qos.Qos.TheVariants.{Q1, Q2}
use Rattle.mq_packet.specs.declared.message.Message.{Message}
use Rattle.mq_packet.specs.Identifier.{IsIdentifier}
use Rattle.mq_packet.specs.declared.packet.Packet.{Packet}
use Rattle.mq_packet.specs.declared.packet.Packet.TheVariants as packets
use Rattle.mq_flow.specs.declared.entry.SenderEntry.{SenderEntry}
use Rattle.mq_flow.specs.declared.claim.Claimed.{Claimed}
use Rattle.mq_flow.specs.declared.claim.Claim.{Claim}
use Rattle.mq_flow.specs.Sender.{SenderBook, blank_book, uses, times, IsFree, is_full, is_awaited, accept, on_puback, on_pubrec, on_pubcomp, all_sent, claim, release, no_claims, without, without_entry, without_claim, pubrec_answer}
use Rattle.mq_flow.specs.Laws.{IsSound, IsGiven, IdentifierLaws, StrayLaws}
use Rattle.mq_flow.proofs.Counting.{times_append, times_same, times_other, without_same, without_other, without_le, without_absent, without_fewer, filter_le, ids_without, claims_without, awaited_there}

-- how often an identifier is in use, part by part
pub times_uses : (i : ℕ) (b : SenderBook) → times i (uses b) ≡ times i (map (λ e. e.id) b.entries) + (times i b.released + times i (map (λ c. c.id) b.claimed))
times_uses i b =
    let e = times_append i (map (λ e. e.id) b.entries) (b.released ++ map (λ c. c.id) b.claimed) in
    let f = times_append i b.released (map (λ c. c.id) b.claimed) in
    omega arith

pub length_uses : (b : SenderBook) → length (uses b) ≡ length b.entries + (length b.released + length b.claimed)
length_uses b =
    let e = length-append (map (λ (e : SenderEntry). e.id) b.entries) (b.released ++ map (λ c. c.id) b.claimed) in
    let f = length-append b.released (map (λ (c : Claimed). c.id) b.claimed) in
    let g = length-map b.entries (λ (e : SenderEntry). e.id) in
    let h = length-map b.claimed (λ (c : Claimed). c.id) in
    omega arith

-- a book whose identifiers in use are among those of a sound one
pub fewer : (capacity : ℕ) (b c : SenderBook) → ((i : ℕ) → times i (uses c) ≤ times i (uses b)) → length (uses c) ≤ length (uses b) → IsSound capacity b → IsSound capacity c
fewer capacity b c le short s = record {
  identifiers = λ i h. let l = le i in s.identifiers i (omega arith);
  distinct = λ i. let l = le i in let d = s.distinct i in omega arith;
  within = let w = s.within in omega arith;
}

pub at_first : (capacity : ℕ) → IsSound capacity blank_book
at_first capacity = record {
  identifiers = λ i h. absurd (omega arith);
  distinct = λ i. omega arith;
  within = omega arith;
}

-- ---- an identifier is given

pub times_accept : (i j : ℕ) (m : Message) (sent : Bool) (b : SenderBook) → times j (uses (accept i m sent b)) ≡ times j (uses b) + times j (i ∷ [])
times_accept i j m sent b =
    let e = times_uses j (accept i m sent b) in
    let f = times_uses j b in
    let g : times j (map (λ e. e.id) (accept i m sent b).entries) ≡ times j (map (λ e. e.id) b.entries) + times j (i ∷ []) =
    rw (map-append (λ (e : SenderEntry). e.id)) (times_append j (map (λ e. e.id) b.entries) (i ∷ [])) in
    omega arith

pub length_accept : (i : ℕ) (m : Message) (sent : Bool) (b : SenderBook) → length (uses (accept i m sent b)) ≡ length (uses b) + 1
length_accept i m sent b =
    let e = length_uses (accept i m sent b) in
    let f = length_uses b in
    let g = length-append b.entries (record { id = i; message = m; sent = sent } ∷ []) in
    omega arith

pub times_claim : (i j : ℕ) (kind : Claim) (count : ℕ) (b : SenderBook) → times j (uses (claim i kind count b)) ≡ times j (uses b) + times j (i ∷ [])
times_claim i j kind count b =
    let e = times_uses j (claim i kind count b) in
    let f = times_uses j b in
    let g : times j (map (λ c. c.id) (claim i kind count b).claimed) ≡ times j (map (λ c. c.id) b.claimed) + times j (i ∷ []) =
    rw (map-append (λ (c : Claimed). c.id)) (times_append j (map (λ c. c.id) b.claimed) (i ∷ [])) in
    omega arith

pub length_claim : (i : ℕ) (kind : Claim) (count : ℕ) (b : SenderBook) → length (uses (claim i kind count b)) ≡ length (uses b) + 1
length_claim i kind count b =
    let e = length_uses (claim i kind count b) in
    let f = length_uses b in
    let g = length-append b.claimed (record { id = i; kind = kind; count = count } ∷ []) in
    omega arith

pub has_room : (capacity : ℕ) (b : SenderBook) → is_full capacity b ≡ false → length (uses b) < capacity
has_room capacity b h = grind (arith, nat_tests)

pub gives : (capacity i : ℕ) (b c : SenderBook) → is_full capacity b ≡ false → IsFree b i → ((j : ℕ) → times j (uses c) ≡ times j (uses b) + times j (i ∷ [])) → length (uses c) ≡ length (uses b) + 1 → IsGiven capacity b c i
gives capacity i b c room free more longer = record {
  identifier = free.0;
  fresh = free.1;
  used = let e = more i in let f = times_same i [] in let g = free.1 in omega arith;
  more = longer;
  room = let r = has_room capacity b room in omega arith;
}

pub gives_sound : (capacity i : ℕ) (b c : SenderBook) → is_full capacity b ≡ false → IsFree b i → ((j : ℕ) → times j (uses c) ≡ times j (uses b) + times j (i ∷ [])) → length (uses c) ≡ length (uses b) + 1 → IsSound capacity b → IsSound capacity c
gives_sound capacity i b c room free more longer s = record {
  identifiers = λ j h. elim (cases_eq i j) [
    | inl e ↦ subst IsIdentifier e free.0
    | inr n ↦ let m = more j in let o = times_other j i [] n in s.identifiers j (omega arith)
  ];
  distinct = λ j. elim (cases_eq i j) [
    | inl e ↦
        let m = more i in
        let o = times_same i [] in
        let z = free.1 in
        let t : times i (uses c) ≤ 1 = omega arith in
        subst (λ (k : ℕ). times k (uses c) ≤ 1) e t
    | inr n ↦ let m = more j in let o = times_other j i [] n in let d = s.distinct j in omega arith
  ];
  within = let r = has_room capacity b room in omega arith;
}

-- ---- acknowledgements

pub sound_puback : (capacity i : ℕ) (b : SenderBook) → IsSound capacity b → IsSound capacity (on_puback i b)
sound_puback capacity i b s =
    cond_both (is_awaited Q1 i b.entries) (without_entry i b.entries) b.entries (λ es. IsSound capacity (record b { entries = es })) (λ t. sound_less capacity i b s) (λ f. s)
  where
    sound_less : (capacity i : ℕ) (b : SenderBook) → IsSound capacity b → IsSound capacity (record b { entries = without_entry i b.entries })
    sound_less capacity i b s =
        fewer capacity b (record b { entries = without_entry i b.entries })
        (λ j.
        let e = times_uses j b in
        let f = times_uses j (record b { entries = without_entry i b.entries }) in
        let g : times j (map (λ e. e.id) (without_entry i b.entries)) ≤ times j (map (λ e. e.id) b.entries) = rw (ids_without i b.entries) (without_le i j _) in
        omega arith)
        (let e = length_uses b in
        let f = length_uses (record b { entries = without_entry i b.entries }) in
        let g = filter_le (λ (e : SenderEntry). not (eqb e.id i)) b.entries in
        omega arith)
        s

pub pubrec_times : (capacity i : ℕ) (b : SenderBook) → IsSound capacity b → is_awaited Q2 i b.entries ≡ true → (j : ℕ) → times j (uses (record b { entries = without_entry i b.entries; released = b.released ++ i ∷ [] })) ≡ times j (uses b)
pubrec_times capacity i b s t j =
    let c : SenderBook = record b { entries = without_entry i b.entries; released = b.released ++ i ∷ [] } in
    let e = times_uses j b in
    let f = times_uses j c in
    let r = times_append j b.released (i ∷ []) in
    let w : times j (map (λ e. e.id) (without_entry i b.entries)) ≡ times j (without i (map (λ e. e.id) b.entries)) = ap (times j) (ids_without i b.entries) in
    elim (cases_eq i j) [
      | inl q ↦
          let d = s.distinct j in
          let a : 1 ≤ times j (map (λ e. e.id) b.entries) = subst (λ (k : ℕ). 1 ≤ times k (map (λ e. e.id) b.entries)) q (awaited_there Q2 i b.entries t) in
          let z : times j (without i (map (λ e. e.id) b.entries)) ≡ 0 = subst (λ (k : ℕ). times k (without i (map (λ e. e.id) b.entries)) ≡ 0) q (without_same i _) in
          let o : times j (i ∷ []) ≡ 1 = subst (λ (k : ℕ). times k (i ∷ []) ≡ 1) q (times_same i []) in
          omega arith
      | inr n ↦
          let o = times_other j i [] n in
          let z = without_other i j (map (λ e. e.id) b.entries) (λ x. n (sym x)) in
          omega arith
    ]

pub pubrec_length : (i : ℕ) (b : SenderBook) → is_awaited Q2 i b.entries ≡ true → length (uses (record b { entries = without_entry i b.entries; released = b.released ++ i ∷ [] })) ≤ length (uses b)
pubrec_length i b t =
    let c : SenderBook = record b { entries = without_entry i b.entries; released = b.released ++ i ∷ [] } in
    let e = length_uses b in
    let f = length_uses c in
    let r = length-append b.released (i ∷ []) in
    let w = ap length (ids_without i b.entries) in
    let x = length-map b.entries (λ (e : SenderEntry). e.id) in
    let y = length-map (without_entry i b.entries) (λ (e : SenderEntry). e.id) in
    let z = without_fewer i (map (λ e. e.id) b.entries) (awaited_there Q2 i b.entries t) in
    omega arith

pub sound_pubrec : (capacity i : ℕ) (b : SenderBook) → IsSound capacity b → IsSound capacity (on_pubrec i b)
sound_pubrec capacity i b s =
    both (is_awaited Q2 i b.entries) refl
  where
    both : (t : Bool) → is_awaited Q2 i b.entries ≡ t → IsSound capacity (record b { entries = cond t (without_entry i b.entries) b.entries; released = cond t (b.released ++ i ∷ []) b.released })
    both true h = fewer capacity b _ (λ j. let e = pubrec_times capacity i b s h j in omega arith) (pubrec_length i b h) s
    both false h = s

pub sound_pubcomp : (capacity i : ℕ) (b : SenderBook) → IsSound capacity b → IsSound capacity (on_pubcomp i b)
sound_pubcomp capacity i b s =
    fewer capacity b (on_pubcomp i b)
    (λ j.
    let e = times_uses j b in
    let f = times_uses j (on_pubcomp i b) in
    let g = without_le i j b.released in
    omega arith)
    (let e = length_uses b in
    let f = length_uses (on_pubcomp i b) in
    let g = filter_le (λ j. not (eqb j i)) b.released in
    omega arith)
    s

pub sound_release : (capacity i : ℕ) (b : SenderBook) → IsSound capacity b → IsSound capacity (release i b)
sound_release capacity i b s =
    fewer capacity b (release i b)
    (λ j.
    let e = times_uses j b in
    let f = times_uses j (release i b) in
    let g : times j (map (λ c. c.id) (without_claim i b.claimed)) ≤ times j (map (λ c. c.id) b.claimed) = rw (claims_without i b.claimed) (without_le i j _) in
    omega arith)
    (let e = length_uses b in
    let f = length_uses (release i b) in
    let g = filter_le (λ (c : Claimed). not (eqb c.id i)) b.claimed in
    omega arith)
    s

pub sound_drop : (capacity : ℕ) (b : SenderBook) → IsSound capacity b → IsSound capacity (no_claims b)
sound_drop capacity b s =
    fewer capacity b (no_claims b)
    (λ j. let e = times_uses j b in let f = times_uses j (no_claims b) in omega arith)
    (let e = length_uses b in let f = length_uses (no_claims b) in omega arith)
    s

pub ids_sent : (es : List SenderEntry) → map (λ (e : SenderEntry). e.id) (map (λ (e : SenderEntry). record { id = e.id; message = e.message; sent = true }) es) ≡ map (λ (e : SenderEntry). e.id) es
ids_sent [] = refl
ids_sent (e ∷ es) = ap (λ (xs : List ℕ). e.id ∷ xs) (ids_sent es)

pub uses_sent : (b : SenderBook) → uses (all_sent b) ≡ uses b
uses_sent b = ap (λ (xs : List ℕ). xs ++ (b.released ++ map (λ c. c.id) b.claimed)) (ids_sent b.entries)

pub sound_sent : (capacity : ℕ) (b : SenderBook) → IsSound capacity b → IsSound capacity (all_sent b)
sound_sent capacity b s =
    fewer capacity b (all_sent b) (λ j. let e = ap (times j) (uses_sent b) in omega arith) (let e = ap length (uses_sent b) in omega arith) s

-- ---- a book that is not full has an identifier to give

-- One of the first `n` numbers is not in a list, or the list has at least `n` items.
spare : (n : ℕ) (xs : List ℕ) → ((i : ℕ) × (0 < i) × (i ≤ n) × (times i xs ≡ 0)) ⊎ (n ≤ length xs)
spare zero xs = inr (omega arith)
spare (suc n) xs =
    elim (cases_eq (times (suc n) xs) 0) [
      | inl z ↦ inl (suc n, omega arith, omega arith, z)
      | inr there ↦
          let fewer = without_fewer (suc n) xs (omega arith) in
          elim (spare n (without (suc n) xs)) [
            | inl f ↦
                let le : f.0 ≤ n = f.2 in
                let ne : f.0 ≡ suc n → ⊥ = λ e. absurd (omega arith) in
                inl (f.0, f.1, omega arith, sym (without_other (suc n) f.0 xs ne) ∙ f.3)
            | inr l ↦ inr (omega arith)
          ]
    ]

free : (capacity : ℕ) (b : SenderBook) → capacity ≤ 65535 → is_full capacity b ≡ false → (i : ℕ) × IsFree b i
free capacity b le room =
    let r = has_room capacity b room in
    elim (spare 65535 (uses b)) [
      | inl f ↦ let le2 : f.0 ≤ 65535 = f.2 in (f.0, ((f.1, omega arith), f.3))
      | inr l ↦ absurd (omega arith)
    ]

full_is : (capacity : ℕ) (b : SenderBook) → is_full capacity b ≡ true → capacity ≤ length (uses b)
full_is capacity b h = grind (arith, nat_tests)

full_from : (capacity : ℕ) (b : SenderBook) → capacity ≤ length (uses b) → is_full capacity b ≡ true
full_from capacity b h = grind (arith, nat_tests)

pub laws : IdentifierLaws
laws = record {
  free = free;
  full = λ capacity b. (full_is capacity b, full_from capacity b);
  at_first = at_first;
  accepted = λ capacity i m sent b room free. gives capacity i b (accept i m sent b) room free (λ j. times_accept i j m sent b) (length_accept i m sent b);
  accepts = λ capacity i m sent b room free s. gives_sound capacity i b (accept i m sent b) room free (λ j. times_accept i j m sent b) (length_accept i m sent b) s;
  claims = λ capacity i kind count b room free s. gives_sound capacity i b (claim i kind count b) room free (λ j. times_claim i j kind count b) (length_claim i kind count b) s;
  puback = sound_puback;
  pubrec = sound_pubrec;
  pubcomp = sound_pubcomp;
  releases = sound_release;
  drops = sound_drop;
  sends = sound_sent;
}

-- ---- Stray acknowledgements, and removals

puback_stray : (i : ℕ) (b : SenderBook) → is_awaited Q1 i b.entries ≡ false → on_puback i b ≡ b
puback_stray i b h = let P : Bool → Type 0 = λ t. record b { entries = cond t (without_entry i b.entries) b.entries } ≡ b in subst P (sym h) refl

pubrec_stray : (i : ℕ) (b : SenderBook) → is_awaited Q2 i b.entries ≡ false → (on_pubrec i b ≡ b) × (pubrec_answer i b ≡ [])
pubrec_stray i b h =
    let P : Bool → Type 0 = λ t. (record b { entries = cond t (without_entry i b.entries) b.entries; released = cond t (b.released ++ i ∷ []) b.released } ≡ b) × (◌≡◌ {A = List Packet} (cond t (packets.PubRel i ∷ []) []) []) in
    subst P (sym h) (refl, refl)

pubcomp_stray : (i : ℕ) (b : SenderBook) → times i b.released ≡ 0 → on_pubcomp i b ≡ b
pubcomp_stray i b h = ap (λ (xs : List ℕ). record b { released = xs }) (without_absent i b.released h)

puback_frees : (capacity i : ℕ) (b : SenderBook) → IsSound capacity b → is_awaited Q1 i b.entries ≡ true → times i (uses (on_puback i b)) ≡ 0
puback_frees capacity i b s h =
    let c : SenderBook = record b { entries = without_entry i b.entries } in
    let e = times_uses i b in
    let f = times_uses i c in
    let d = s.distinct i in
    let a = awaited_there Q1 i b.entries h in
    let w : times i (map (λ e. e.id) (without_entry i b.entries)) ≡ 0 = rw (ids_without i b.entries) (without_same i _) in
    let P : Bool → Type 0 = λ t. times i (uses (record b { entries = cond t (without_entry i b.entries) b.entries })) ≡ 0 in
    subst P (sym h) (omega arith)

pubrec_keeps : (capacity i : ℕ) (b : SenderBook) → IsSound capacity b → is_awaited Q2 i b.entries ≡ true → (j : ℕ) → times j (uses (on_pubrec i b)) ≡ times j (uses b)
pubrec_keeps capacity i b s h j =
    let P : Bool → Type 0 = λ t. times j (uses (record b { entries = cond t (without_entry i b.entries) b.entries; released = cond t (b.released ++ i ∷ []) b.released })) ≡ times j (uses b) in
    subst P (sym h) (pubrec_times capacity i b s h j)

pubcomp_frees : (capacity i : ℕ) (b : SenderBook) → IsSound capacity b → 1 ≤ times i b.released → times i (uses (on_pubcomp i b)) ≡ 0
pubcomp_frees capacity i b s h =
    let e = times_uses i b in
    let f = times_uses i (on_pubcomp i b) in
    let d = s.distinct i in
    let w = without_same i b.released in
    omega arith

pub strays : StrayLaws
strays = record {
  puback_stray = puback_stray;
  pubrec_stray = pubrec_stray;
  pubcomp_stray = pubcomp_stray;
  puback_frees = puback_frees;
  pubrec_keeps = pubrec_keeps;
  pubcomp_frees = pubcomp_frees;
}
