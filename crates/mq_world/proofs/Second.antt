-- Exactly once, from one side to the other, over lists alone.
use Rattle.std.proofs.Common.{◌≡◌, ℕ, ◌+◌, ◌≤◌, Bool, true, false, cond, Option, List, [], ◌∷◌, ◌++◌, map, length, refl, sym, ap, subst, ◌∙◌, arith}
use Rattle.std.proofs.Common.{append_assoc, map-id, inl, inr}
use Rattle.std.proofs.lemmas.Bool.{cases_eq}
use Rattle.std.proofs.lemmas.List.{map-append}
use Rattle.std.specs.FinSet as FinSet
use Rattle.std.specs.Ordering.{nat_cmp}
use Rattle.mq_packet.specs.declared.message.Message.{Message}
use Rattle.mq_flow.specs.Sender.{times}
use Rattle.mq_flow.specs.Window.{Spans, fits_window}
use Rattle.mq_flow.proofs.Windows.{spanned_fits}
use Rattle.mq_flow.proofs.Counting.{times_append, times_same, times_other}
use Rattle.mq_end.specs.declared.state.State.{State}
use Rattle.mq_end.specs.declared.state.State.TheVariants.{Disconnected, Connecting, Connected}
use Rattle.mq_world.specs.Half.{joined}
use Rattle.mq_world.specs.Orders.{messages}
use Rattle.mq_world.proofs.Stages.{Stages, TakesIn, Again, New, Answered, Answer}
use Rattle.mq_world.proofs.Stages as stages
use Rattle.mq_world.proofs.Lists.{ids, times_ids}
use Rattle.mq_flow.proofs.Members.{insert_same, insert_other, remove_same, remove_other}

abbrev pub pair_key : ℕ × Message → ℕ
pair_key p = p.0

-- entries: the QoS 2 messages that `x` stores; released: its released identifiers; stored: the
-- identifiers that `y` stores; pubrecs, pubcomps: packets in flight to `x`; publishes, pubrels:
-- packets in flight to `y`; accepted: by `x`; handed: delivered by `y`.
pub record Second (x y : State) (entries : List (ℕ × Message)) (released : List ℕ) (stored : FinSet.FinSet nat_cmp) (pubrecs pubcomps : List ℕ)
    (publishes : List (ℕ × Message)) (pubrels : List ℕ) (accepted handed : List Message) : Type 0 where
  pub taken : List (ℕ × Message)
  pub waiting : List (ℕ × Message)
  pub released_taken : List ℕ
  pub released_waiting : List ℕ
  pub gone : List Message
  pub parts : entries ≡ taken ++ waiting
  pub released_parts : released ≡ released_taken ++ released_waiting
  pub entry_stages : Stages (λ (p : ℕ × Message). p.0) x y taken waiting pubrecs publishes
  pub released_stages : Stages (λ (i : ℕ). i) x y released_taken released_waiting pubcomps pubrels
  pub has : (i : ℕ) → 1 ≤ times i (ids taken) → FinSet.contains stored i ≡ true
  pub lacks : (i : ℕ) → 1 ≤ times i (ids waiting) → FinSet.contains stored i ≡ false
  pub only : (i : ℕ) → FinSet.contains stored i ≡ true → 1 ≤ times i (ids taken) + times i released
  pub done : (i : ℕ) → 1 ≤ times i pubcomps → FinSet.contains stored i ≡ false
  pub accepted_is : accepted ≡ gone ++ messages entries
  pub handed_is : handed ≡ gone ++ messages taken

-- each identifier is in use once
abbrev pub Once : List (ℕ × Message) → List ℕ → Type 0
Once entries released = (i : ℕ) → times i (ids entries) + times i released ≤ 1

pub at_first : (stored : FinSet.FinSet nat_cmp) → ((i : ℕ) → FinSet.contains stored i ≡ false) → Second Disconnected Disconnected [] [] stored [] [] [] [] [] []
at_first stored none = record {
  taken = [];
  waiting = [];
  released_taken = [];
  released_waiting = [];
  gone = [];
  parts = refl;
  released_parts = refl;
  entry_stages = stages.at_first (λ (p : ℕ × Message). p.0);
  released_stages = stages.at_first (λ (i : ℕ). i);
  has = λ i q. absurd (omega arith);
  lacks = λ i q. none i;
  only = λ i q. let z = none i in let bad : true ≡ false = sym q ∙ z in cc;
  done = λ i q. none i;
  accepted_is = refl;
  handed_is = refl;
}

-- ---- connections

pub sender_drops : {x y : State} {entries : List (ℕ × Message)} {released : List ℕ} {stored : FinSet.FinSet nat_cmp} {pubrecs pubcomps : List ℕ}
    {publishes : List (ℕ × Message)} {pubrels : List ℕ} {accepted handed : List Message}
    → Second x y entries released stored pubrecs pubcomps publishes pubrels accepted handed
    → Second Disconnected y entries released stored [] [] publishes pubrels accepted handed
sender_drops h = record {
  taken = h.taken;
  waiting = h.waiting;
  released_taken = h.released_taken;
  released_waiting = h.released_waiting;
  gone = h.gone;
  parts = h.parts;
  released_parts = h.released_parts;
  entry_stages = stages.sender_drops _ _ _ _ _ _ _ h.entry_stages;
  released_stages = stages.sender_drops _ _ _ _ _ _ _ h.released_stages;
  has = h.has;
  lacks = h.lacks;
  only = h.only;
  done = λ i q. absurd (omega arith);
  accepted_is = h.accepted_is;
  handed_is = h.handed_is;
}

pub receiver_drops : {x y : State} {entries : List (ℕ × Message)} {released : List ℕ} {stored : FinSet.FinSet nat_cmp} {pubrecs pubcomps : List ℕ}
    {publishes : List (ℕ × Message)} {pubrels : List ℕ} {accepted handed : List Message}
    → Second x y entries released stored pubrecs pubcomps publishes pubrels accepted handed
    → Second x Disconnected entries released stored pubrecs pubcomps [] [] accepted handed
receiver_drops h = record {
  taken = h.taken;
  waiting = h.waiting;
  released_taken = h.released_taken;
  released_waiting = h.released_waiting;
  gone = h.gone;
  parts = h.parts;
  released_parts = h.released_parts;
  entry_stages = stages.receiver_drops _ _ _ _ _ _ _ h.entry_stages;
  released_stages = stages.receiver_drops _ _ _ _ _ _ _ h.released_stages;
  has = h.has;
  lacks = h.lacks;
  only = h.only;
  done = h.done;
  accepted_is = h.accepted_is;
  handed_is = h.handed_is;
}

pub opened : {x y : State} {entries : List (ℕ × Message)} {released : List ℕ} {stored : FinSet.FinSet nat_cmp} {pubrecs pubcomps : List ℕ}
    {publishes : List (ℕ × Message)} {pubrels : List ℕ} {accepted handed : List Message}
    → Second x y entries released stored pubrecs pubcomps publishes pubrels accepted handed
    → Second Connecting Connecting entries released stored [] [] [] [] accepted handed
opened h = record {
  taken = h.taken;
  waiting = h.waiting;
  released_taken = h.released_taken;
  released_waiting = h.released_waiting;
  gone = h.gone;
  parts = h.parts;
  released_parts = h.released_parts;
  entry_stages = stages.opened _ _ _ _ _ _ _ h.entry_stages;
  released_stages = stages.opened _ _ _ _ _ _ _ h.released_stages;
  has = h.has;
  lacks = h.lacks;
  only = h.only;
  done = λ i q. absurd (omega arith);
  accepted_is = h.accepted_is;
  handed_is = h.handed_is;
}

pub sender_up : {y : State} {entries : List (ℕ × Message)} {released : List ℕ} {stored : FinSet.FinSet nat_cmp} {pubrecs pubcomps : List ℕ}
    {publishes : List (ℕ × Message)} {pubrels : List ℕ} {accepted handed : List Message}
    → Second Connecting y entries released stored pubrecs pubcomps publishes pubrels accepted handed
    → Second Connected y entries released stored pubrecs pubcomps (joined y publishes entries) (joined y pubrels released) accepted handed
sender_up {y} {entries} {released} {stored} {pubrecs} {pubcomps} {publishes} {pubrels} h = record {
  taken = h.taken;
  waiting = h.waiting;
  released_taken = h.released_taken;
  released_waiting = h.released_waiting;
  gone = h.gone;
  parts = h.parts;
  released_parts = h.released_parts;
  entry_stages =
      subst (λ (q : List (ℕ × Message)). Stages (λ (p : ℕ × Message). p.0) Connected y h.taken h.waiting pubrecs (joined y publishes q)) (sym h.parts)
      (stages.sender_up _ _ _ _ _ _ h.entry_stages);
  released_stages =
      subst (λ (q : List ℕ). Stages (λ (i : ℕ). i) Connected y h.released_taken h.released_waiting pubcomps (joined y pubrels q)) (sym h.released_parts)
      (stages.sender_up _ _ _ _ _ _ h.released_stages);
  has = h.has;
  lacks = h.lacks;
  only = h.only;
  done = h.done;
  accepted_is = h.accepted_is;
  handed_is = h.handed_is;
}

pub receiver_up : {x : State} {entries : List (ℕ × Message)} {released : List ℕ} {stored : FinSet.FinSet nat_cmp} {pubrecs pubcomps : List ℕ}
    {publishes : List (ℕ × Message)} {pubrels : List ℕ} {accepted handed : List Message}
    → Second x Connecting entries released stored pubrecs pubcomps publishes pubrels accepted handed
    → Second x Connected entries released stored pubrecs pubcomps publishes pubrels accepted handed
receiver_up h = record {
  taken = h.taken;
  waiting = h.waiting;
  released_taken = h.released_taken;
  released_waiting = h.released_waiting;
  gone = h.gone;
  parts = h.parts;
  released_parts = h.released_parts;
  entry_stages = stages.receiver_up _ _ _ _ _ _ h.entry_stages;
  released_stages = stages.receiver_up _ _ _ _ _ _ h.released_stages;
  has = h.has;
  lacks = h.lacks;
  only = h.only;
  done = h.done;
  accepted_is = h.accepted_is;
  handed_is = h.handed_is;
}

-- ---- Positions

-- an identifier among the entries was taken, or waits
pub split_times : {x y : State} {entries : List (ℕ × Message)} {released : List ℕ} {stored : FinSet.FinSet nat_cmp} {pubrecs pubcomps : List ℕ}
    {publishes : List (ℕ × Message)} {pubrels : List ℕ} {accepted handed : List Message}
    (h : Second x y entries released stored pubrecs pubcomps publishes pubrels accepted handed) (j : ℕ)
    → times j (ids entries) ≡ times j (ids h.taken) + times j (ids h.waiting)
split_times h j = ap (λ (q : List (ℕ × Message)). times j (ids q)) h.parts ∙ times_ids j h.taken h.waiting

-- a PUBCOMP in flight is for a released identifier
pub done_released : {x y : State} {entries : List (ℕ × Message)} {released : List ℕ} {stored : FinSet.FinSet nat_cmp} {pubrecs pubcomps : List ℕ}
    {publishes : List (ℕ × Message)} {pubrels : List ℕ} {accepted handed : List Message}
    (h : Second x y entries released stored pubrecs pubcomps publishes pubrels accepted handed) (j : ℕ) → times j pubcomps ≤ times j released
done_released h j =
    let e = stages.answers_taken _ _ _ _ _ _ _ h.released_stages j in
    let f : times j (map (λ (i : ℕ). i) h.released_taken) ≡ times j h.released_taken = ap (times j) (map-id h.released_taken) in
    let g = ap (times j) h.released_parts in
    let k = times_append j h.released_taken h.released_waiting in
    omega arith

pub in_middle : (i : ℕ) (front back : List (ℕ × Message)) (p : ℕ × Message) → p.0 ≡ i → 1 ≤ times i (ids (front ++ p ∷ back))
in_middle i front back p e =
    let f = times_ids i front (p ∷ back) in
    let g : times i (ids (p ∷ back)) ≡ 1 + times i (ids back) = rw e (times_same i (ids back)) in
    omega arith

-- ---- a message is accepted

-- Accepting a message keeps the invariant, whatever is in flight.
pub accepts : {x y : State} {entries : List (ℕ × Message)} {released : List ℕ} {stored : FinSet.FinSet nat_cmp} {pubrecs pubcomps : List ℕ}
    {publishes : List (ℕ × Message)} {pubrels : List ℕ} {accepted handed : List Message} (i : ℕ) (m : Message) (publishes_now : List (ℕ × Message))
    (h : Second x y entries released stored pubrecs pubcomps publishes pubrels accepted handed)
    → times i (ids entries) + times i released ≡ 0 → Stages (λ (p : ℕ × Message). p.0) x y h.taken (h.waiting ++ (i, m) ∷ []) pubrecs publishes_now
    → Second x y (entries ++ (i, m) ∷ []) released stored pubrecs pubcomps publishes_now pubrels (accepted ++ m ∷ []) handed
accepts {x} {y} {entries} {released} {stored} i m publishes_now h fresh e = record {
  taken = h.taken;
  waiting = h.waiting ++ (i, m) ∷ [];
  released_taken = h.released_taken;
  released_waiting = h.released_waiting;
  gone = h.gone;
  parts = ap (λ (q : List (ℕ × Message)). q ++ (i, m) ∷ []) h.parts ∙ append_assoc h.taken h.waiting ((i, m) ∷ []);
  released_parts = h.released_parts;
  entry_stages = e;
  released_stages = h.released_stages;
  has = h.has;
  lacks = λ j q. elim (cases_eq i j) [
    | inl same ↦ subst (λ (k : ℕ). FinSet.contains stored k ≡ false) same
        (not_stored (FinSet.contains stored i) (λ t. let o = h.only i t in let s = split_times h i in absurd (omega arith)))
    | inr other ↦
        let s = times_ids j h.waiting ((i, m) ∷ []) in
        let o = times_other j i [] other in
        h.lacks j (omega arith)
  ];
  only = h.only;
  done = h.done;
  accepted_is =
      ap (λ (q : List Message). q ++ m ∷ []) h.accepted_is ∙
      (append_assoc h.gone (messages entries) (m ∷ []) ∙
      ap (λ (q : List Message). h.gone ++ q) (sym (map-append (λ (p : ℕ × Message). p.1) entries ((i, m) ∷ []))));
  handed_is = h.handed_is;
}
  where
    not_stored : (b : Bool) → (b ≡ true → ⊥) → b ≡ false
    not_stored true n = absurd (n refl)
    not_stored false n = refl

-- ---- a PUBLISH arrives

pub takes_publish : {x : State} {entries : List (ℕ × Message)} {released : List ℕ} {stored : FinSet.FinSet nat_cmp} {pubrecs pubcomps : List ℕ}
    {rest : List (ℕ × Message)} {pubrels : List ℕ} {accepted handed : List Message} (i : ℕ) (m : Message)
    (h : Second x Connected entries released stored pubrecs pubcomps ((i, m) ∷ rest) pubrels accepted handed) → Once entries released → (t : Bool)
    → FinSet.contains stored i ≡ t
    → Second x Connected entries released (FinSet.insert stored i) (joined x pubrecs (i ∷ [])) pubcomps rest pubrels accepted (cond t handed (handed ++ m ∷ []))
takes_publish {x} {entries} {released} {stored} {pubrecs} {pubcomps} {rest} {pubrels} {accepted} {handed} i m h once t is =
    elim (stages.takes_in _ _ _ _ _ _ _ h.entry_stages) [
      | Again front back split now ↦
          let there : 1 ≤ times i (ids h.taken) = subst (λ (q : List (ℕ × Message)). 1 ≤ times i (ids q)) (sym split) (in_middle i front back (i, m) refl) in
          subst (λ (b : Bool). Second x Connected entries released (FinSet.insert stored i) (joined x pubrecs (i ∷ [])) pubcomps rest pubrels accepted
          (cond b handed (handed ++ m ∷ []))) (sym (h.has i there) ∙ is)
          (record {
            taken = h.taken;
            waiting = h.waiting;
            released_taken = h.released_taken;
            released_waiting = h.released_waiting;
            gone = h.gone;
            parts = h.parts;
            released_parts = h.released_parts;
            entry_stages = now;
            released_stages = h.released_stages;
            has = λ j q. more j (h.has j q);
            lacks = λ j q. insert_other stored i j
                (λ same. let o = once i in let s = split_times h i in
                let u : 1 ≤ times i (ids h.waiting) = subst (λ (k : ℕ). 1 ≤ times k (ids h.waiting)) same q in absurd (omega arith)) ∙ h.lacks j q;
            only = λ j q. elim (cases_eq j i) [
              | inl same ↦ let u : 1 ≤ times j (ids h.taken) = subst (λ (k : ℕ). 1 ≤ times k (ids h.taken)) (sym same) there in omega arith
              | inr other ↦ h.only j (sym (insert_other stored i j other) ∙ q)
            ];
            done = λ j q. insert_other stored i j
                (λ same. let o = once i in let s = split_times h i in let d = done_released h i in
                let u : 1 ≤ times i pubcomps = subst (λ (k : ℕ). 1 ≤ times k pubcomps) same q in absurd (omega arith)) ∙ h.done j q;
            accepted_is = h.accepted_is;
            handed_is = h.handed_is;
          })
      | New later split now ↦
          let here_is : (j : ℕ) → times j (ids h.waiting) ≡ times j (i ∷ ids later) = λ j. ap (λ (q : List (ℕ × Message)). times j (ids q)) split in
          let here : 1 ≤ times i (ids h.waiting) = let a = here_is i in let b = times_same i (ids later) in omega arith in
          let counted : (j : ℕ) → times j (ids (h.taken ++ (i, m) ∷ [])) ≡ times j (ids h.taken) + times j (i ∷ []) = λ j. times_ids j h.taken ((i, m) ∷ []) in
          subst (λ (b : Bool). Second x Connected entries released (FinSet.insert stored i) (joined x pubrecs (i ∷ [])) pubcomps rest pubrels accepted
          (cond b handed (handed ++ m ∷ []))) (sym (h.lacks i here) ∙ is)
          (record {
            taken = h.taken ++ (i, m) ∷ [];
            waiting = later;
            released_taken = h.released_taken;
            released_waiting = h.released_waiting;
            gone = h.gone;
            parts = h.parts ∙ (ap (λ (q : List (ℕ × Message)). h.taken ++ q) split ∙ sym (append_assoc h.taken ((i, m) ∷ []) later));
            released_parts = h.released_parts;
            entry_stages = now;
            released_stages = h.released_stages;
            has = λ j q. elim (cases_eq j i) [
              | inl same ↦ subst (λ (k : ℕ). FinSet.contains (FinSet.insert stored i) k ≡ true) (sym same) (insert_same stored i)
              | inr other ↦ let a = counted j in let b = times_other j i [] (λ z. other (sym z)) in insert_other stored i j other ∙ h.has j (omega arith)
            ];
            lacks = λ j q.
                let a = here_is j in
                let differs : j ≡ i → ⊥ = λ same. let o = once i in let s = split_times h i in let b = here_is i in
                let c = times_same i (ids later) in let u : 1 ≤ times i (ids later) = subst (λ (k : ℕ). 1 ≤ times k (ids later)) same q in
                absurd (omega arith) in
                let b = times_other j i (ids later) (λ z. differs (sym z)) in
                insert_other stored i j differs ∙ h.lacks j (omega arith);
            only = λ j q. elim (cases_eq j i) [
              | inl same ↦ let a = counted i in let b = times_same i [] in
                  let u : 1 ≤ times i (ids (h.taken ++ (i, m) ∷ [])) + times i released = omega arith in
                  subst (λ (k : ℕ). 1 ≤ times k (ids (h.taken ++ (i, m) ∷ [])) + times k released) (sym same) u
              | inr other ↦ let a = counted j in let o = h.only j (sym (insert_other stored i j other) ∙ q) in omega arith
            ];
            done = λ j q. insert_other stored i j
                (λ same. let o = once i in let s = split_times h i in let d = done_released h i in
                let u : 1 ≤ times i pubcomps = subst (λ (k : ℕ). 1 ≤ times k pubcomps) same q in absurd (omega arith)) ∙ h.done j q;
            accepted_is = h.accepted_is;
            handed_is = ap (λ (q : List Message). q ++ m ∷ []) h.handed_is ∙
                (append_assoc h.gone (messages h.taken) (m ∷ []) ∙
                ap (λ (q : List Message). h.gone ++ q) (sym (map-append (λ (p : ℕ × Message). p.1) h.taken ((i, m) ∷ []))));
          })
    ]
  where
    more : (j : ℕ) → FinSet.contains stored j ≡ true → FinSet.contains (FinSet.insert stored i) j ≡ true
    more j q = elim (cases_eq j i) [
      | inl same ↦ subst (λ (k : ℕ). FinSet.contains (FinSet.insert stored i) k ≡ true) (sym same) (insert_same stored i)
      | inr other ↦ insert_other stored i j other ∙ q
    ]

-- ---- a receiving window

-- If all messages in flight fit the window, so does the next one.
pub spanned : {x : State} {entries : List (ℕ × Message)} {released : List ℕ} {stored : FinSet.FinSet nat_cmp} {pubrecs pubcomps : List ℕ}
    {rest : List (ℕ × Message)} {pubrels : List ℕ} {accepted handed : List Message} (i : ℕ) (m : Message) (window : Option ℕ) (capacity : ℕ)
    → Second x Connected entries released stored pubrecs pubcomps ((i, m) ∷ rest) pubrels accepted handed → length (ids entries ++ released) ≤ capacity
    → Spans window capacity → fits_window window i stored ≡ true
spanned {x} {entries} {released} {stored} i m window capacity h short spans =
    let k_less : (j : ℕ) → times j (ids h.taken) + times j released ≤ times j (ids entries ++ released) = λ j. let s = split_times h j in
    let a = times_append j (ids entries) released in omega arith in
    let w_less : (j : ℕ) → times j (ids h.waiting) ≤ times j (ids entries ++ released) = λ j. let s = split_times h j in
    let a = times_append j (ids entries) released in omega arith in
    let here : 1 ≤ times i (ids entries ++ released) = elim (stages.takes_in _ _ _ _ _ _ _ h.entry_stages) [
      | Again front back split now ↦
          let there : 1 ≤ times i (ids h.taken) = subst (λ (q : List (ℕ × Message)). 1 ≤ times i (ids q)) (sym split) (in_middle i front back (i, m) refl) in
          let k = k_less i in
          omega arith
      | New later split now ↦
          let there : 1 ≤ times i (ids h.waiting) = subst (λ (q : List (ℕ × Message)). 1 ≤ times i (ids q)) (sym split) (in_middle i [] later (i, m) refl) in
          let w = w_less i in
          omega arith
    ] in
    spanned_fits window capacity i (ids entries ++ released) stored spans short (λ j there. let o = h.only j there in let k = k_less j in omega arith) here

-- ---- a PUBREL comes

-- The book afterwards, wherever the released identifier was.
pub forgets : {x : State} {entries : List (ℕ × Message)} {released : List ℕ} {stored : FinSet.FinSet nat_cmp} {pubrecs pubcomps : List ℕ}
    {publishes : List (ℕ × Message)} {pubrels : List ℕ} {accepted handed : List Message} (i : ℕ) (rest pubcomps_now taken_now waiting_now : List ℕ)
    (h : Second x Connected entries released stored pubrecs pubcomps publishes pubrels accepted handed) → Once entries released → 1 ≤ times i released
    → released ≡ taken_now ++ waiting_now → Stages (λ (i : ℕ). i) x Connected taken_now waiting_now pubcomps_now rest
    → ((j : ℕ) → times j pubcomps_now ≤ times j pubcomps + times j (i ∷ []))
    → Second x Connected entries released (FinSet.remove stored i) pubrecs pubcomps_now publishes rest accepted handed
forgets {x} {entries} {released} {stored} {pubrecs} {pubcomps} i rest pubcomps_now taken_now waiting_now h once there split now few = record {
  taken = h.taken;
  waiting = h.waiting;
  released_taken = taken_now;
  released_waiting = waiting_now;
  gone = h.gone;
  parts = h.parts;
  released_parts = split;
  entry_stages = h.entry_stages;
  released_stages = now;
  has = λ j q. remove_other stored i j
      (λ same. let o = once i in let s = split_times h i in let u : 1 ≤ times i (ids h.taken) = subst (λ (k : ℕ). 1 ≤ times k (ids h.taken)) same q in
      absurd (omega arith)) ∙ h.has j q;
  lacks = λ j q. remove_other stored i j
      (λ same. let o = once i in let s = split_times h i in
      let u : 1 ≤ times i (ids h.waiting) = subst (λ (k : ℕ). 1 ≤ times k (ids h.waiting)) same q in absurd (omega arith)) ∙ h.lacks j q;
  only = λ j q. elim (cases_eq j i) [
    | inl same ↦ let bad : true ≡ false =
        sym q ∙ subst (λ (k : ℕ). FinSet.contains (FinSet.remove stored i) k ≡ false) (sym same) (remove_same stored i) in absurd (true_not bad)
    | inr other ↦ h.only j (sym (remove_other stored i j other) ∙ q)
  ];
  done = λ j q. elim (cases_eq j i) [
    | inl same ↦ subst (λ (k : ℕ). FinSet.contains (FinSet.remove stored i) k ≡ false) (sym same) (remove_same stored i)
    | inr other ↦ let f = few j in let o = times_other j i [] (λ z. other (sym z)) in remove_other stored i j other ∙ h.done j (omega arith)
  ];
  accepted_is = h.accepted_is;
  handed_is = h.handed_is;
}
  where
    true_not : true ≡ false → ⊥
    true_not e = cc

joined_few : (x : State) (pubcomps : List ℕ) (i j : ℕ) → times j (joined x pubcomps (i ∷ [])) ≤ times j pubcomps + times j (i ∷ [])
joined_few Disconnected pubcomps i j = omega arith
joined_few Connecting pubcomps i j = let e = times_append j pubcomps (i ∷ []) in omega arith
joined_few Connected pubcomps i j = let e = times_append j pubcomps (i ∷ []) in omega arith

pub takes_pubrel : {x : State} {entries : List (ℕ × Message)} {released : List ℕ} {stored : FinSet.FinSet nat_cmp} {pubrecs pubcomps : List ℕ}
    {publishes : List (ℕ × Message)} {rest : List ℕ} {accepted handed : List Message} (i : ℕ)
    (h : Second x Connected entries released stored pubrecs pubcomps publishes (i ∷ rest) accepted handed) → Once entries released
    → Second x Connected entries released (FinSet.remove stored i) pubrecs (joined x pubcomps (i ∷ [])) publishes rest accepted handed
takes_pubrel {x} {entries} {released} {stored} {pubrecs} {pubcomps} {publishes} {rest} i h once =
    elim (stages.takes_in _ _ _ _ _ _ _ h.released_stages) [
      | Again front back split now ↦
          let s : released ≡ (front ++ i ∷ back) ++ h.released_waiting = h.released_parts ∙ ap (λ (q : List ℕ). q ++ h.released_waiting) split in
          let a = ap (times i) s in
          let b = times_append i (front ++ i ∷ back) h.released_waiting in
          let c = times_append i front (i ∷ back) in
          let d = times_same i back in
          forgets i rest (joined x pubcomps (i ∷ [])) h.released_taken h.released_waiting h once (omega arith) h.released_parts now
          (λ j. joined_few x pubcomps i j)
      | New later split now ↦
          let s : released ≡ h.released_taken ++ i ∷ later = h.released_parts ∙ ap (λ (q : List ℕ). h.released_taken ++ q) split in
          let a = ap (times i) s in
          let c = times_append i h.released_taken (i ∷ later) in
          let d = times_same i later in
          forgets i rest (joined x pubcomps (i ∷ [])) (h.released_taken ++ i ∷ []) later h once (omega arith)
          (s ∙ sym (append_assoc h.released_taken (i ∷ []) later)) now (λ j. joined_few x pubcomps i j)
    ]

-- ---- a PUBREC comes

-- The acknowledged message is the first stored one.
pub data Acknowledged (y : State) (entries : List (ℕ × Message)) (released : List ℕ) (stored : FinSet.FinSet nat_cmp) (i : ℕ) (rest pubcomps : List ℕ)
    (publishes : List (ℕ × Message)) (pubrels : List ℕ) (accepted handed : List Message) : Type 0 where
  First : (a : ℕ × Message) (later : List (ℕ × Message)) → entries ≡ a ∷ later → a.0 ≡ i
      → Second Connected y later (released ++ i ∷ []) stored rest pubcomps publishes (joined y pubrels (i ∷ [])) accepted handed
      → Acknowledged y entries released stored i rest pubcomps publishes pubrels accepted handed

pub takes_pubrec : {y : State} {entries : List (ℕ × Message)} {released : List ℕ} {stored : FinSet.FinSet nat_cmp} {rest pubcomps : List ℕ}
    {publishes : List (ℕ × Message)} {pubrels : List ℕ} {accepted handed : List Message} (i : ℕ)
    (h : Second Connected y entries released stored (i ∷ rest) pubcomps publishes pubrels accepted handed)
    → Acknowledged y entries released stored i rest pubcomps publishes pubrels accepted handed
takes_pubrec {y} {entries} {released} {stored} {rest} {pubcomps} {publishes} {pubrels} {accepted} {handed} i h =
    elim (stages.answered _ _ _ _ _ _ _ h.entry_stages) [
      | Answer a later split same now ↦
          let whole : entries ≡ a ∷ (later ++ h.waiting) = h.parts ∙ ap (λ (q : List (ℕ × Message)). q ++ h.waiting) split in
          let counts : (j : ℕ) → times j (ids h.taken) ≡ times j (i ∷ []) + times j (ids later) =
          λ j. ap (λ (q : List (ℕ × Message)). times j (ids q)) split ∙
          (ap (λ (k : ℕ). times j (k ∷ ids later)) same ∙ times_append j (i ∷ []) (ids later)) in
          First a (later ++ h.waiting) whole same (record {
            taken = later;
            waiting = h.waiting;
            released_taken = h.released_taken;
            released_waiting = h.released_waiting ++ i ∷ [];
            gone = h.gone ++ a.1 ∷ [];
            parts = refl;
            released_parts = ap (λ (q : List ℕ). q ++ i ∷ []) h.released_parts ∙ append_assoc h.released_taken h.released_waiting (i ∷ []);
            entry_stages = now;
            released_stages = stages.accepted_up _ _ _ _ _ _ i h.released_stages;
            has = λ j q. let c = counts j in h.has j (omega arith);
            lacks = h.lacks;
            only = λ j q. let c = counts j in let o = h.only j q in let d = times_append j released (i ∷ []) in omega arith;
            done = h.done;
            accepted_is =
                h.accepted_is ∙ (ap (λ (q : List (ℕ × Message)). h.gone ++ messages q) whole ∙
                sym (append_assoc h.gone (a.1 ∷ []) (messages (later ++ h.waiting))));
            handed_is = h.handed_is ∙ (ap (λ (q : List (ℕ × Message)). h.gone ++ messages q) split ∙ sym (append_assoc h.gone (a.1 ∷ []) (messages later)));
          })
    ]

-- ---- a PUBCOMP comes

pub data Completed (y : State) (entries : List (ℕ × Message)) (released : List ℕ) (stored : FinSet.FinSet nat_cmp) (pubrecs : List ℕ) (i : ℕ)
    (rest : List ℕ) (publishes : List (ℕ × Message)) (pubrels : List ℕ) (accepted handed : List Message) : Type 0 where
  Oldest : (later : List ℕ) → released ≡ i ∷ later → Second Connected y entries later stored pubrecs rest publishes pubrels accepted handed
      → Completed y entries released stored pubrecs i rest publishes pubrels accepted handed

pub takes_pubcomp : {y : State} {entries : List (ℕ × Message)} {released : List ℕ} {stored : FinSet.FinSet nat_cmp} {pubrecs rest : List ℕ}
    {publishes : List (ℕ × Message)} {pubrels : List ℕ} {accepted handed : List Message} (i : ℕ)
    (h : Second Connected y entries released stored pubrecs (i ∷ rest) publishes pubrels accepted handed)
    → Completed y entries released stored pubrecs i rest publishes pubrels accepted handed
takes_pubcomp {y} {entries} {released} {stored} {pubrecs} {rest} {publishes} {pubrels} {accepted} {handed} i h =
    elim (stages.answered _ _ _ _ _ _ _ h.released_stages) [
      | Answer a later split same now ↦
          let whole : released ≡ i ∷ (later ++ h.released_waiting) =
          h.released_parts ∙ (ap (λ (q : List ℕ). q ++ h.released_waiting) split ∙ ap (λ (k : ℕ). k ∷ (later ++ h.released_waiting)) same) in
          Oldest (later ++ h.released_waiting) whole (record {
            taken = h.taken;
            waiting = h.waiting;
            released_taken = later;
            released_waiting = h.released_waiting;
            gone = h.gone;
            parts = h.parts;
            released_parts = refl;
            entry_stages = h.entry_stages;
            released_stages = now;
            has = h.has;
            lacks = h.lacks;
            only = λ j q. elim (cases_eq j i) [
              | inl z ↦
                  let one : 1 ≤ times i (i ∷ rest) = let t = times_same i rest in omega arith in
                  let off : FinSet.contains stored j ≡ false = subst (λ (k : ℕ). FinSet.contains stored k ≡ false) (sym z) (h.done i one) in
                  absurd (true_not (sym q ∙ off))
              | inr other ↦ let o = h.only j q in let s = ap (times j) whole in
                  let t = times_other j i (later ++ h.released_waiting) (λ z. other (sym z)) in omega arith
            ];
            done = λ j q. h.done j (let t = times_append j (i ∷ []) rest in omega arith);
            accepted_is = h.accepted_is;
            handed_is = h.handed_is;
          })
    ]
  where
    true_not : true ≡ false → ⊥
    true_not e = cc
