-- At least once, and at most once, from one side to the other, over lists alone.
use Rattle.std.proofs.Common.{◌≡◌, ℕ, ◌+◌, ◌<◌, ◌≤◌, true, Some, List, [], ◌∷◌, ◌++◌, length, slice_get, refl, sym, ap, subst, ◌∙◌, arith}
use Rattle.std.proofs.Common.{append_assoc, append-nil, inl, inr}
use Rattle.std.proofs.lemmas.Bool.{cases_lt}
use Rattle.std.proofs.lemmas.List.{map-append, length-append, length-map}
use Rattle.mq_packet.specs.declared.message.Message.{Message}
use Rattle.mq_flow.specs.Sender.{times}
use Rattle.mq_flow.proofs.Counting.{times_same}
use Rattle.mq_end.specs.declared.state.State.{State}
use Rattle.mq_end.specs.declared.state.State.TheVariants.{Disconnected, Connecting, Connected}
use Rattle.mq_world.specs.Half.{joined, last_place}
use Rattle.mq_world.specs.Orders.{Walk, IsAt, is_among, messages, Part}
use Rattle.mq_world.proofs.Stages.{Stages, TakesIn, Again, New, Answered, Answer}
use Rattle.mq_world.proofs.Stages as stages
use Rattle.mq_world.proofs.Lists.{Each, each_append, ids}
use Rattle.mq_world.proofs.Places.{reach, walk_more, reach_more, at_more, at_grown, get_seam, each_later, among_more, among_last, last_place_at}
use Rattle.mq_world.proofs.Places.{part_more, part_both, part_front}

-- entries: the messages of quality of service 1 that x holds; pubacks: in flight to x;
-- publishes: in flight to y; accepted, handed: by x, and on by y; places_freed: of those that
-- were acknowledged
pub record First (x y : State) (entries : List (ℕ × Message)) (pubacks : List ℕ) (publishes accepted : List (ℕ × Message)) (handed : List Message)
    (places_freed : List ℕ) : Type 0 where
  pub taken : List (ℕ × Message)
  pub waiting : List (ℕ × Message)
  pub gone : List (ℕ × Message)
  pub parts : entries ≡ taken ++ waiting
  pub entry_stages : Stages (λ (p : ℕ × Message). p.0) x y taken waiting pubacks publishes
  pub accepted_is : accepted ≡ gone ++ entries
  pub places : List ℕ
  pub walk : Walk places
  pub are : IsAt handed (messages accepted) places
  pub reached : reach 0 places ≡ length gone + length taken
  pub freed : Each (λ (p : ℕ). p < length gone) places_freed
  pub all_freed : (j : ℕ) → j < length gone → is_among j places_freed ≡ true

pub at_first : First Disconnected Disconnected [] [] [] [] [] []
at_first = record {
  taken = [];
  waiting = [];
  gone = [];
  parts = refl;
  entry_stages = stages.at_first (λ (p : ℕ × Message). p.0);
  accepted_is = refl;
  places = [];
  walk = tt;
  are = tt;
  reached = refl;
  freed = tt;
  all_freed = λ j q. absurd (omega arith);
}

-- the same lists, with other stages
pub staged : {x y : State} {entries : List (ℕ × Message)} {pubacks : List ℕ} {publishes accepted : List (ℕ × Message)} {handed : List Message}
    {places_freed : List ℕ} (x_now y_now : State) (pubacks_now : List ℕ) (publishes_now : List (ℕ × Message))
    (h : First x y entries pubacks publishes accepted handed places_freed)
    → Stages (λ (p : ℕ × Message). p.0) x_now y_now h.taken h.waiting pubacks_now publishes_now
    → First x_now y_now entries pubacks_now publishes_now accepted handed places_freed
staged x_now y_now pubacks_now publishes_now h e = record {
  taken = h.taken;
  waiting = h.waiting;
  gone = h.gone;
  parts = h.parts;
  entry_stages = e;
  accepted_is = h.accepted_is;
  places = h.places;
  walk = h.walk;
  are = h.are;
  reached = h.reached;
  freed = h.freed;
  all_freed = h.all_freed;
}

pub sender_drops : {x y : State} {entries : List (ℕ × Message)} {pubacks : List ℕ} {publishes accepted : List (ℕ × Message)} {handed : List Message}
    {places_freed : List ℕ} → First x y entries pubacks publishes accepted handed places_freed
    → First Disconnected y entries [] publishes accepted handed places_freed
sender_drops {y = y} {publishes = publishes} h = staged Disconnected y [] publishes h (stages.sender_drops _ _ _ _ _ _ _ h.entry_stages)

pub receiver_drops : {x y : State} {entries : List (ℕ × Message)} {pubacks : List ℕ} {publishes accepted : List (ℕ × Message)} {handed : List Message}
    {places_freed : List ℕ} → First x y entries pubacks publishes accepted handed places_freed → First x Disconnected entries pubacks [] accepted handed places_freed
receiver_drops {x = x} {pubacks = pubacks} h = staged x Disconnected pubacks [] h (stages.receiver_drops _ _ _ _ _ _ _ h.entry_stages)

pub opened : {x y : State} {entries : List (ℕ × Message)} {pubacks : List ℕ} {publishes accepted : List (ℕ × Message)} {handed : List Message}
    {places_freed : List ℕ} → First x y entries pubacks publishes accepted handed places_freed → First Connecting Connecting entries [] [] accepted handed places_freed
opened h = staged Connecting Connecting [] [] h (stages.opened _ _ _ _ _ _ _ h.entry_stages)

pub sender_up : {y : State} {entries : List (ℕ × Message)} {pubacks : List ℕ} {publishes accepted : List (ℕ × Message)} {handed : List Message}
    {places_freed : List ℕ} → First Connecting y entries pubacks publishes accepted handed places_freed
    → First Connected y entries pubacks (joined y publishes entries) accepted handed places_freed
sender_up {y} {entries} {pubacks} {publishes} h =
    staged Connected y pubacks (joined y publishes entries) h
    (subst (λ (q : List (ℕ × Message)). Stages (λ (p : ℕ × Message). p.0) Connected y h.taken h.waiting pubacks (joined y publishes q)) (sym h.parts)
    (stages.sender_up _ _ _ _ _ _ h.entry_stages))

pub receiver_up : {x : State} {entries : List (ℕ × Message)} {pubacks : List ℕ} {publishes accepted : List (ℕ × Message)} {handed : List Message}
    {places_freed : List ℕ} → First x Connecting entries pubacks publishes accepted handed places_freed
    → First x Connected entries pubacks publishes accepted handed places_freed
receiver_up {x = x} {pubacks = pubacks} {publishes = publishes} h = staged x Connected pubacks publishes h (stages.receiver_up _ _ _ _ _ _ h.entry_stages)

-- ---- a message is accepted

pub accepts : {x y : State} {entries : List (ℕ × Message)} {pubacks : List ℕ} {publishes accepted : List (ℕ × Message)} {handed : List Message}
    {places_freed : List ℕ} (i : ℕ) (m : Message) (publishes_now : List (ℕ × Message)) (h : First x y entries pubacks publishes accepted handed places_freed)
    → Stages (λ (p : ℕ × Message). p.0) x y h.taken (h.waiting ++ (i, m) ∷ []) pubacks publishes_now
    → First x y (entries ++ (i, m) ∷ []) pubacks publishes_now (accepted ++ (i, m) ∷ []) handed places_freed
accepts {entries = entries} {accepted = accepted} {handed = handed} i m publishes_now h e = record {
  taken = h.taken;
  waiting = h.waiting ++ (i, m) ∷ [];
  gone = h.gone;
  parts = ap (λ (q : List (ℕ × Message)). q ++ (i, m) ∷ []) h.parts ∙ append_assoc h.taken h.waiting ((i, m) ∷ []);
  entry_stages = e;
  accepted_is = ap (λ (q : List (ℕ × Message)). q ++ (i, m) ∷ []) h.accepted_is ∙ append_assoc h.gone entries ((i, m) ∷ []);
  places = h.places;
  walk = h.walk;
  are = subst (λ (q : List Message). IsAt handed q h.places) (sym (map-append (λ (p : ℕ × Message). p.1) accepted ((i, m) ∷ [])))
      (at_grown handed (messages accepted) (m ∷ []) h.places h.are);
  reached = h.reached;
  freed = h.freed;
  all_freed = h.all_freed;
}

-- ---- a PUBLISH arrives

-- The messages behind some of the accepted ones.
pub stands : (accepted before after : List (ℕ × Message)) (i : ℕ) (m : Message) → accepted ≡ before ++ (i, m) ∷ after
    → slice_get (messages accepted) (length before) ≡ Some m
stands accepted before after i m e =
    let f : messages accepted ≡ messages before ++ m ∷ messages after = ap messages e ∙ map-append (λ (p : ℕ × Message). p.1) before ((i, m) ∷ after) in
    let g : length (messages before) ≡ length before = length-map before (λ (p : ℕ × Message). p.1) in
    subst (λ (k : ℕ). slice_get (messages accepted) k ≡ Some m) g
    (subst (λ (q : List Message). slice_get q (length (messages before)) ≡ Some m) (sym f) (get_seam (messages before) (messages after) m))

pub takes_publish : {x : State} {entries : List (ℕ × Message)} {pubacks : List ℕ} {rest accepted : List (ℕ × Message)} {handed : List Message}
    {places_freed : List ℕ} (i : ℕ) (m : Message) → First x Connected entries pubacks ((i, m) ∷ rest) accepted handed places_freed
    → First x Connected entries (joined x pubacks (i ∷ [])) rest accepted (handed ++ m ∷ []) places_freed
takes_publish {x} {entries} {pubacks} {rest} {accepted} {handed} {places_freed} i m h =
    elim (stages.takes_in _ _ _ _ _ _ _ h.entry_stages) [
      | Again front back split now ↦
          let whole : accepted ≡ (h.gone ++ front) ++ (i, m) ∷ (back ++ h.waiting) =
          h.accepted_is ∙ (ap (λ (q : List (ℕ × Message)). h.gone ++ q)
          (h.parts ∙ (ap (λ (q : List (ℕ × Message)). q ++ h.waiting) split ∙ append_assoc front ((i, m) ∷ back) h.waiting)) ∙
          sym (append_assoc h.gone front ((i, m) ∷ (back ++ h.waiting)))) in
          let place : ℕ = length (h.gone ++ front) in
          let size = length-append h.gone front in
          let kept = ap length split in
          let size_there = length-append front ((i, m) ∷ back) in
          let far = h.reached in
          record {
            taken = h.taken;
            waiting = h.waiting;
            gone = h.gone;
            parts = h.parts;
            entry_stages = now;
            accepted_is = h.accepted_is;
            places = h.places ++ length (h.gone ++ front) ∷ [];
            walk = walk_more 0 h.places (length (h.gone ++ front)) h.walk (omega arith);
            are = at_more handed (messages accepted) h.places m (length (h.gone ++ front)) h.are
                (stands accepted (h.gone ++ front) (back ++ h.waiting) i m whole);
            reached = let r = reach_more 0 h.places (length (h.gone ++ front)) in omega arith;
            freed = h.freed;
            all_freed = h.all_freed;
          }
      | New later split now ↦
          let whole : accepted ≡ (h.gone ++ h.taken) ++ (i, m) ∷ later =
          h.accepted_is ∙ (ap (λ (q : List (ℕ × Message)). h.gone ++ q) (h.parts ∙ ap (λ (q : List (ℕ × Message)). h.taken ++ q) split) ∙
          sym (append_assoc h.gone h.taken ((i, m) ∷ later))) in
          let size = length-append h.gone h.taken in
          let size_there = length-append h.taken ((i, m) ∷ []) in
          let far = h.reached in
          record {
            taken = h.taken ++ (i, m) ∷ [];
            waiting = later;
            gone = h.gone;
            parts = h.parts ∙ (ap (λ (q : List (ℕ × Message)). h.taken ++ q) split ∙ sym (append_assoc h.taken ((i, m) ∷ []) later));
            entry_stages = now;
            accepted_is = h.accepted_is;
            places = h.places ++ length (h.gone ++ h.taken) ∷ [];
            walk = walk_more 0 h.places (length (h.gone ++ h.taken)) h.walk (omega arith);
            are = at_more handed (messages accepted) h.places m (length (h.gone ++ h.taken)) h.are (stands accepted (h.gone ++ h.taken) later i m whole);
            reached = let r = reach_more 0 h.places (length (h.gone ++ h.taken)) in omega arith;
            freed = h.freed;
            all_freed = h.all_freed;
          }
    ]

-- ---- a PUBACK arrives

-- The acknowledged message is the first stored one.
pub data Acknowledged (y : State) (entries : List (ℕ × Message)) (i : ℕ) (rest : List ℕ) (publishes accepted : List (ℕ × Message))
    (handed : List Message) (places_freed : List ℕ) : Type 0 where
  Oldest : (a : ℕ × Message) (later : List (ℕ × Message)) → entries ≡ a ∷ later → a.0 ≡ i
      → First Connected y later rest publishes accepted handed (places_freed ++ last_place i accepted ∷ [])
      → Acknowledged y entries i rest publishes accepted handed places_freed

pub takes_puback : {y : State} {entries : List (ℕ × Message)} {rest : List ℕ} {publishes accepted : List (ℕ × Message)} {handed : List Message}
    {places_freed : List ℕ} (i : ℕ) → ((j : ℕ) → times j (ids entries) ≤ 1) → First Connected y entries (i ∷ rest) publishes accepted handed places_freed
    → Acknowledged y entries i rest publishes accepted handed places_freed
takes_puback {y} {entries} {rest} {publishes} {accepted} {handed} {places_freed} i once h =
    elim (stages.answered _ _ _ _ _ _ _ h.entry_stages) [
      | Answer a later split same now ↦
          let whole : entries ≡ a ∷ (later ++ h.waiting) = h.parts ∙ ap (λ (q : List (ℕ × Message)). q ++ h.waiting) split in
          let all : accepted ≡ h.gone ++ a ∷ (later ++ h.waiting) = h.accepted_is ∙ ap (λ (q : List (ℕ × Message)). h.gone ++ q) whole in
          let single : times i (ids (later ++ h.waiting)) ≡ 0 =
          let c : times i (ids entries) ≡ times i (i ∷ ids (later ++ h.waiting)) =
          ap (λ (q : List (ℕ × Message)). times i (ids q)) whole ∙ ap (λ (k : ℕ). times i (k ∷ ids (later ++ h.waiting))) same in
          let d = times_same i (ids (later ++ h.waiting)) in
          let o = once i in
          omega arith in
          let place : last_place i accepted ≡ length h.gone = ap (last_place i) all ∙ last_place_at i h.gone (later ++ h.waiting) a same single in
          let size = length-append h.gone (a ∷ []) in
          let kept = ap length split in
          Oldest a (later ++ h.waiting) whole same (record {
            taken = later;
            waiting = h.waiting;
            gone = h.gone ++ a ∷ [];
            parts = refl;
            entry_stages = now;
            accepted_is = all ∙ sym (append_assoc h.gone (a ∷ []) (later ++ h.waiting));
            places = h.places;
            walk = h.walk;
            are = h.are;
            reached = let r = h.reached in omega arith;
            freed = each_append (λ (p : ℕ). p < length (h.gone ++ a ∷ [])) places_freed (last_place i accepted ∷ [])
                (each_later (length h.gone) (length (h.gone ++ a ∷ [])) places_freed (omega arith) h.freed) (omega arith, tt);
            all_freed = λ j lt. elim (cases_lt j (length h.gone)) [
              | inl below ↦ among_more j places_freed (last_place i accepted) (h.all_freed j below)
              | inr above ↦ let e : last_place i accepted ≡ j = omega arith in
                  subst (λ (k : ℕ). is_among j (places_freed ++ k ∷ []) ≡ true) (sym e) (among_last j places_freed)
            ];
          })
    ]

-- ---- At most once: delivered, in flight, accepted

abbrev pub Zeroth : List Message → List Message → List Message → Type 0
Zeroth flying accepted handed = Part (handed ++ flying) accepted

pub zeroth_lost : (flying accepted handed : List Message) → Zeroth flying accepted handed → Zeroth [] accepted handed
zeroth_lost flying accepted handed h = subst (λ (q : List Message). Part q accepted) (sym (append-nil handed)) (part_front handed flying accepted h)

pub zeroth_accepts : (y : State) (flying accepted handed : List Message) (m : Message) → Zeroth flying accepted handed
    → Zeroth (joined y flying (m ∷ [])) (accepted ++ m ∷ []) handed
zeroth_accepts Disconnected flying accepted handed m h = part_more (handed ++ flying) accepted m h
zeroth_accepts Connecting flying accepted handed m h =
    subst (λ (q : List Message). Part q (accepted ++ m ∷ [])) (append_assoc handed flying (m ∷ [])) (part_both (handed ++ flying) accepted m h)
zeroth_accepts Connected flying accepted handed m h =
    subst (λ (q : List Message). Part q (accepted ++ m ∷ [])) (append_assoc handed flying (m ∷ [])) (part_both (handed ++ flying) accepted m h)

pub zeroth_takes : (flying accepted handed : List Message) (m : Message) → Zeroth (m ∷ flying) accepted handed → Zeroth flying accepted (handed ++ m ∷ [])
zeroth_takes flying accepted handed m h = subst (λ (q : List Message). Part q accepted) (sym (append_assoc handed (m ∷ []) flying)) h
