-- Payloads that are taken round by round.
use Rattle.std.proofs.Common.{◌≡◌, ◌∙◌, ◌≢◌, arith, ℕ, ◌+◌, ◌-◌, ◌<◌, ◌≤◌, zero, suc, List, [], ◌∷◌, ◌++◌, length, drop, get_or, ap, sym, refl}
use Rattle.std.proofs.lemmas.List.{drop-append-le, drop_all, drop_at, drop_more}
use Rattle.mq_pubsub_programs.specs.Feeding.{rounds_of}

-- one more payload of a list
first_of_two : (payloads others : List (List ℕ)) (index : ℕ) → index < length payloads
    → drop index (payloads ++ others) ≡ get_or payloads index [] ∷ drop (index + 1) (payloads ++ others)
first_of_two payloads others index within =
    drop-append-le index payloads others (omega (arith, within))
    ∙ (ap (λ (front : List (List ℕ)). front ++ others) (drop_more payloads index [] within)
    ∙ ap (λ (rest : List (List ℕ)). get_or payloads index [] ∷ rest) (sym (drop-append-le (index + 1) payloads others (omega (arith, within)))))

-- one more payload of the first of some rounds
first_of_rounds : (payloads : List (List ℕ)) (left index : ℕ) → index < length payloads → 0 < left
    → drop index (rounds_of payloads left) ≡ get_or payloads index [] ∷ drop (index + 1) (rounds_of payloads left)
first_of_rounds payloads zero index within more = absurd (omega (arith, more))
first_of_rounds payloads (suc left) index within more = first_of_two payloads (rounds_of payloads left) index within

-- one more payload of a round
pub one_more : (payloads : List (List ℕ)) (repeat rounds index : ℕ) → index < length payloads → rounds < repeat
    → drop index (rounds_of payloads (repeat - rounds)) ≡ get_or payloads index [] ∷ drop (index + 1) (rounds_of payloads (repeat - rounds))
one_more payloads repeat rounds index within more =
    first_of_rounds payloads (repeat - rounds) index within (omega (arith, more))

-- the last payload of a round
last_of_round : (payloads : List (List ℕ)) (left index : ℕ) → index < length payloads → length payloads ≤ index + 1
    → drop index (rounds_of payloads (suc left)) ≡ get_or payloads index [] ∷ rounds_of payloads left
last_of_round payloads left index within last =
    first_of_two payloads (rounds_of payloads left) index within
    ∙ ap (λ (rest : List (List ℕ)). get_or payloads index [] ∷ rest) (drop_at payloads (rounds_of payloads left) (index + 1) (omega (arith, within, last)))

pub round_done : (payloads : List (List ℕ)) (repeat rounds index : ℕ) → index < length payloads → length payloads ≤ index + 1 → rounds < repeat
    → drop index (rounds_of payloads (repeat - rounds)) ≡ get_or payloads index [] ∷ drop 0 (rounds_of payloads (repeat - (rounds + 1)))
round_done payloads repeat rounds index within last more =
    let left : repeat - rounds ≡ suc (repeat - (rounds + 1)) = omega (arith, more) in
    ap (λ (n : ℕ). drop index (rounds_of payloads n)) left ∙ last_of_round payloads (repeat - (rounds + 1)) index within last

-- no payload, however many rounds
no_payload : (payloads : List (List ℕ)) (rounds : ℕ) → payloads ≡ [] → rounds_of payloads rounds ≡ []
no_payload payloads zero none = refl
no_payload payloads (suc rounds) none = ap (λ (front : List (List ℕ)). front ++ rounds_of payloads rounds) none ∙ no_payload payloads rounds none

nothing : (index : ℕ) (rest : List (List ℕ)) → rest ≡ [] → drop index rest ≡ []
nothing index rest none = ap (λ (xs : List (List ℕ)). drop index xs) none ∙ drop_all index [] (omega arith)

-- all rounds are complete
pub rounds_over : (payloads : List (List ℕ)) (repeat rounds index : ℕ) → repeat ≤ rounds → drop index (rounds_of payloads (repeat - rounds)) ≡ []
rounds_over payloads repeat rounds index over =
    let none : repeat - rounds ≡ 0 = omega (arith, over) in nothing index (rounds_of payloads (repeat - rounds)) (ap (rounds_of payloads) none)

-- there is no payload
pub nothing_left : (payloads : List (List ℕ)) (repeat rounds index : ℕ) → (index ≢ 0 → index < length payloads) → length payloads ≤ index
    → drop index (rounds_of payloads (repeat - rounds)) ≡ []
nothing_left payloads repeat rounds zero placed none =
    nothing 0 (rounds_of payloads (repeat - rounds)) (no_payload payloads (repeat - rounds) (drop_all 0 payloads none))
nothing_left payloads repeat rounds (suc index) placed none =
    let within : suc index < length payloads = placed (λ e. omega (arith, e)) in absurd (omega (arith, within, none))

-- before the first payload
pub all_rounds : (payloads : List (List ℕ)) (repeat : ℕ) → drop 0 (rounds_of payloads (repeat - 0)) ≡ rounds_of payloads repeat
all_rounds payloads repeat = let whole : repeat - 0 ≡ repeat = omega arith in ap (rounds_of payloads) whole
