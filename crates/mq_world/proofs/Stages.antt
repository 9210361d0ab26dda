-- The stages of a sender's items, from one side, `x`, to the other, `y`. Each item of the book is
-- in one of five stages, in the order of the book.
-- answering: `y` has it, and its response is in flight.
-- silent: `y` has it, and nothing is in flight.
-- again: `y` has it, and it is in flight again.
-- coming: it is in flight for the first time.
-- staying: it is not in flight.
use Rattle.std.proofs.Common.{◌≡◌, ℕ, ◌≤◌, Bool, true, false, not, ◌&&◌, ◌||◌, List, [], ◌∷◌, ◌++◌, map, refl, sym, ap, subst, ◌∙◌, arith}
use Rattle.std.proofs.Common.{append_assoc, append-nil}
use Rattle.std.proofs.lemmas.List.{map-append}
use Rattle.mq_flow.specs.Sender.{times}
use Rattle.mq_flow.proofs.Counting.{times_append}
use Rattle.mq_end.specs.declared.state.State.{State}
use Rattle.mq_end.specs.declared.state.State.TheVariants.{Disconnected, Connecting, Connected}
use Rattle.mq_end.specs.End.{is_up, is_live}
use Rattle.mq_world.specs.Half.{joined}

abbrev pub When : Bool → Type 0 → Type 0
When true P = P
When false P = Unit {0}

abbrev pub is_open : State → Bool
is_open Disconnected = false
is_open Connecting = true
is_open Connected = false

pub record Stages {A : Type 0} (key : A → ℕ) (x y : State) (taken waiting : List A) (answers : List ℕ) (flying : List A) : Type 0 where
  pub answering : List A
  pub silent : List A
  pub again : List A
  pub coming : List A
  pub staying : List A
  pub taken_is : taken ≡ answering ++ (silent ++ again)
  pub waiting_is : waiting ≡ coming ++ staying
  pub answered : answers ≡ map key answering
  pub flown : flying ≡ again ++ coming
  pub both : When (is_up x && is_live y) ((silent ≡ []) × (staying ≡ []))
  pub low : When (not (is_up x)) (answering ≡ [])
  pub quiet : When (is_open x || not (is_live y)) ((again ≡ []) × (coming ≡ []))

pub at_first : {A : Type 0} (key : A → ℕ) → Stages key Disconnected Disconnected [] [] [] []
at_first key =
    record {
      answering = [];
      silent = [];
      again = [];
      coming = [];
      staying = [];
      taken_is = refl;
      waiting_is = refl;
      answered = refl;
      flown = refl;
      both = tt;
      low = refl;
      quiet = (refl, refl);
    }

still_quiet : (x y : State) (P : Type 0) → When (is_open x || not (is_live y)) P → When (not (is_live y)) P
still_quiet Disconnected y P q = q
still_quiet Connecting Disconnected P q = q
still_quiet Connecting Connecting P q = tt
still_quiet Connecting Connected P q = tt
still_quiet Connected y P q = q

surely : (x : State) (P : Type 0) → P → When (is_open x || true) P
surely Disconnected P p = p
surely Connecting P p = p
surely Connected P p = p

never : (x : State) (P : Type 0) → When (is_up x && false) P
never Disconnected P = tt
never Connecting P = tt
never Connected P = tt

-- ---- connections are lost and opened

pub sender_drops : {A : Type 0} (key : A → ℕ) (x y : State) (taken waiting : List A) (answers : List ℕ) (flying : List A)
    → Stages key x y taken waiting answers flying → Stages key Disconnected y taken waiting [] flying
sender_drops key x y taken waiting answers flying h = record {
  answering = [];
  silent = h.answering ++ h.silent;
  again = h.again;
  coming = h.coming;
  staying = h.staying;
  taken_is = h.taken_is ∙ sym (append_assoc h.answering h.silent h.again);
  waiting_is = h.waiting_is;
  answered = refl;
  flown = h.flown;
  both = tt;
  low = refl;
  quiet = still_quiet x y ((h.again ≡ []) × (h.coming ≡ [])) h.quiet;
}

pub receiver_drops : {A : Type 0} (key : A → ℕ) (x y : State) (taken waiting : List A) (answers : List ℕ) (flying : List A)
    → Stages key x y taken waiting answers flying → Stages key x Disconnected taken waiting answers []
receiver_drops {A} key x y taken waiting answers flying h = record {
  answering = h.answering;
  silent = h.silent ++ h.again;
  again = [];
  coming = [];
  staying = h.coming ++ h.staying;
  taken_is = h.taken_is ∙ ap (λ (q : List A). h.answering ++ q) (sym (append-nil (h.silent ++ h.again)));
  waiting_is = h.waiting_is;
  answered = h.answered;
  flown = refl;
  both = never x ((h.silent ++ h.again ≡ []) × (h.coming ++ h.staying ≡ []));
  low = h.low;
  quiet = surely x ((◌≡◌ {A = List A} [] []) × (◌≡◌ {A = List A} [] [])) (refl, refl);
}

pub opened : {A : Type 0} (key : A → ℕ) (x y : State) (taken waiting : List A) (answers : List ℕ) (flying : List A)
    → Stages key x y taken waiting answers flying → Stages key Connecting Connecting taken waiting [] []
opened key x y taken waiting answers flying h = record {
  answering = [];
  silent = h.answering ++ (h.silent ++ h.again);
  again = [];
  coming = [];
  staying = h.coming ++ h.staying;
  taken_is = h.taken_is ∙ sym (append-nil (h.answering ++ (h.silent ++ h.again)));
  waiting_is = h.waiting_is;
  answered = refl;
  flown = refl;
  both = tt;
  low = refl;
  quiet = (refl, refl);
}

-- ---- the handshake

pub sender_up : {A : Type 0} (key : A → ℕ) (y : State) (taken waiting : List A) (answers : List ℕ) (flying : List A)
    → Stages key Connecting y taken waiting answers flying → Stages key Connected y taken waiting answers (joined y flying (taken ++ waiting))
sender_up key Disconnected taken waiting answers flying h =
    record {
      answering = h.answering;
      silent = h.silent;
      again = h.again;
      coming = h.coming;
      staying = h.staying;
      taken_is = h.taken_is;
      waiting_is = h.waiting_is;
      answered = h.answered;
      flown = h.flown;
      both = tt;
      low = tt;
      quiet = h.quiet;
    }
sender_up key Connecting taken waiting answers flying h =
    resends key taken waiting answers flying h.answering h.again h.coming h.answered h.flown h.low h.quiet.0 h.quiet.1
  where
    resends : {A : Type 0} (key : A → ℕ) (taken waiting : List A) (answers : List ℕ) (flying answering again coming : List A)
        → answers ≡ map key answering → flying ≡ again ++ coming → answering ≡ [] → again ≡ [] → coming ≡ []
        → Stages key Connected Connecting taken waiting answers (flying ++ (taken ++ waiting))
    resends {A} key taken waiting answers flying answering again coming answered flown r z t =
        record {
          answering = [];
          silent = [];
          again = taken;
          coming = waiting;
          staying = [];
          taken_is = refl;
          waiting_is = sym (append-nil waiting);
          answered = answered ∙ ap (map key) r;
          flown = ap (λ (q : List A). q ++ (taken ++ waiting)) (flown ∙ (ap (λ (q : List A). q ++ coming) z ∙ t));
          both = (refl, refl);
          low = tt;
          quiet = tt;
        }
sender_up key Connected taken waiting answers flying h =
    resends key taken waiting answers flying h.answering h.again h.coming h.answered h.flown h.low h.quiet.0 h.quiet.1
  where
    resends : {A : Type 0} (key : A → ℕ) (taken waiting : List A) (answers : List ℕ) (flying answering again coming : List A)
        → answers ≡ map key answering → flying ≡ again ++ coming → answering ≡ [] → again ≡ [] → coming ≡ []
        → Stages key Connected Connected taken waiting answers (flying ++ (taken ++ waiting))
    resends {A} key taken waiting answers flying answering again coming answered flown r z t =
        record {
          answering = [];
          silent = [];
          again = taken;
          coming = waiting;
          staying = [];
          taken_is = refl;
          waiting_is = sym (append-nil waiting);
          answered = answered ∙ ap (map key) r;
          flown = ap (λ (q : List A). q ++ (taken ++ waiting)) (flown ∙ (ap (λ (q : List A). q ++ coming) z ∙ t));
          both = (refl, refl);
          low = tt;
          quiet = tt;
        }

pub receiver_up : {A : Type 0} (key : A → ℕ) (x : State) (taken waiting : List A) (answers : List ℕ) (flying : List A)
    → Stages key x Connecting taken waiting answers flying → Stages key x Connected taken waiting answers flying
receiver_up key x taken waiting answers flying h =
    record {
      answering = h.answering;
      silent = h.silent;
      again = h.again;
      coming = h.coming;
      staying = h.staying;
      taken_is = h.taken_is;
      waiting_is = h.waiting_is;
      answered = h.answered;
      flown = h.flown;
      both = h.both;
      low = h.low;
      quiet = h.quiet;
    }

-- ---- an item is accepted

pub accepted_down : {A : Type 0} (key : A → ℕ) (x y : State) (taken waiting : List A) (answers : List ℕ) (flying : List A) (a : A) → is_up x ≡ false
    → Stages key x y taken waiting answers flying → Stages key x y taken (waiting ++ a ∷ []) answers flying
accepted_down {A} key x y taken waiting answers flying a down h = record {
  answering = h.answering;
  silent = h.silent;
  again = h.again;
  coming = h.coming;
  staying = h.staying ++ a ∷ [];
  taken_is = h.taken_is;
  waiting_is = ap (λ (q : List A). q ++ a ∷ []) h.waiting_is ∙ append_assoc h.coming h.staying (a ∷ []);
  answered = h.answered;
  flown = h.flown;
  both = subst (λ (b : Bool). When (b && is_live y) ((h.silent ≡ []) × (h.staying ++ a ∷ [] ≡ []))) (sym down) tt;
  low = h.low;
  quiet = h.quiet;
}

pub accepted_up : {A : Type 0} (key : A → ℕ) (y : State) (taken waiting : List A) (answers : List ℕ) (flying : List A) (a : A)
    → Stages key Connected y taken waiting answers flying → Stages key Connected y taken (waiting ++ a ∷ []) answers (joined y flying (a ∷ []))
accepted_up {A} key Disconnected taken waiting answers flying a h = record {
  answering = h.answering;
  silent = h.silent;
  again = h.again;
  coming = h.coming;
  staying = h.staying ++ a ∷ [];
  taken_is = h.taken_is;
  waiting_is = ap (λ (q : List A). q ++ a ∷ []) h.waiting_is ∙ append_assoc h.coming h.staying (a ∷ []);
  answered = h.answered;
  flown = h.flown;
  both = tt;
  low = tt;
  quiet = h.quiet;
}
accepted_up {A} key Connecting taken waiting answers flying a h = record {
  answering = h.answering;
  silent = h.silent;
  again = h.again;
  coming = h.coming ++ a ∷ [];
  staying = [];
  taken_is = h.taken_is;
  waiting_is = ap (λ (q : List A). q ++ a ∷ []) (h.waiting_is ∙ (ap (λ (q : List A). h.coming ++ q) h.both.1 ∙ append-nil h.coming)) ∙
      sym (append-nil (h.coming ++ a ∷ []));
  answered = h.answered;
  flown = ap (λ (q : List A). q ++ a ∷ []) h.flown ∙ append_assoc h.again h.coming (a ∷ []);
  both = (h.both.0, refl);
  low = tt;
  quiet = tt;
}
accepted_up {A} key Connected taken waiting answers flying a h = record {
  answering = h.answering;
  silent = h.silent;
  again = h.again;
  coming = h.coming ++ a ∷ [];
  staying = [];
  taken_is = h.taken_is;
  waiting_is = ap (λ (q : List A). q ++ a ∷ []) (h.waiting_is ∙ (ap (λ (q : List A). h.coming ++ q) h.both.1 ∙ append-nil h.coming)) ∙
      sym (append-nil (h.coming ++ a ∷ []));
  answered = h.answered;
  flown = ap (λ (q : List A). q ++ a ∷ []) h.flown ∙ append_assoc h.again h.coming (a ∷ []);
  both = (h.both.0, refl);
  low = tt;
  quiet = tt;
}

-- ---- the receiver takes an item in, again or for the first time

pub data TakesIn {A : Type 0} (key : A → ℕ) (x : State) (taken waiting : List A) (answers : List ℕ) (a : A) (rest : List A) : Type 0 where
  Again : (front back : List A) → taken ≡ front ++ a ∷ back → Stages key x Connected taken waiting (joined x answers (key a ∷ [])) rest
      → TakesIn key x taken waiting answers a rest
  New : (later : List A) → waiting ≡ a ∷ later → Stages key x Connected (taken ++ a ∷ []) later (joined x answers (key a ∷ [])) rest
      → TakesIn key x taken waiting answers a rest

pub not_empty : {A : Type 0} (a : A) (xs : List A) → a ∷ xs ≡ [] → ⊥
not_empty a xs e = cc

up_takes : {A : Type 0} (key : A → ℕ) (taken waiting : List A) (answers : List ℕ) (a : A) (rest answering again coming : List A)
    → taken ≡ answering ++ again → waiting ≡ coming → answers ≡ map key answering → a ∷ rest ≡ again ++ coming → TakesIn key Connected taken waiting answers a rest
up_takes key taken waiting answers a rest answering [] [] taken_is waiting_is answered flown = absurd (not_empty a rest flown)
up_takes {A} key taken waiting answers a rest answering [] (t ∷ coming) taken_is waiting_is answered flown =
    let same : t ∷ coming ≡ a ∷ rest = sym flown in
    let tail : rest ≡ coming = cc in
    New rest (waiting_is ∙ same) (record {
      answering = answering ++ a ∷ [];
      silent = [];
      again = [];
      coming = rest;
      staying = [];
      taken_is = ap (λ (q : List A). q ++ a ∷ []) (taken_is ∙ append-nil answering) ∙ sym (append-nil (answering ++ a ∷ []));
      waiting_is = sym (append-nil rest);
      answered = ap (λ (q : List ℕ). q ++ key a ∷ []) answered ∙ sym (map-append key answering (a ∷ []));
      flown = refl;
      both = (refl, refl);
      low = tt;
      quiet = tt;
    })
up_takes {A} key taken waiting answers a rest answering (z ∷ again) coming taken_is waiting_is answered flown =
    let head : z ≡ a = cc in
    let tail : rest ≡ again ++ coming = cc in
    let split : taken ≡ answering ++ a ∷ again = taken_is ∙ ap (λ (w : A). answering ++ w ∷ again) head in
    Again answering again split (record {
      answering = answering ++ a ∷ [];
      silent = [];
      again = again;
      coming = coming;
      staying = [];
      taken_is = split ∙ sym (append_assoc answering (a ∷ []) again);
      waiting_is = waiting_is ∙ sym (append-nil coming);
      answered = ap (λ (q : List ℕ). q ++ key a ∷ []) answered ∙ sym (map-append key answering (a ∷ []));
      flown = tail;
      both = (refl, refl);
      low = tt;
      quiet = tt;
    })

closed_takes : {A : Type 0} (key : A → ℕ) (taken waiting : List A) (answers : List ℕ) (a : A) (rest silent again coming staying : List A)
    → taken ≡ silent ++ again → waiting ≡ coming ++ staying → answers ≡ [] → a ∷ rest ≡ again ++ coming → TakesIn key Disconnected taken waiting answers a rest
closed_takes key taken waiting answers a rest silent [] [] staying taken_is waiting_is answered flown = absurd (not_empty a rest flown)
closed_takes {A} key taken waiting answers a rest silent [] (t ∷ coming) staying taken_is waiting_is answered flown =
    let same : t ∷ coming ≡ a ∷ rest = sym flown in
    New (rest ++ staying) (waiting_is ∙ ap (λ (q : List A). q ++ staying) same) (record {
      answering = [];
      silent = silent ++ a ∷ [];
      again = [];
      coming = rest;
      staying = staying;
      taken_is = ap (λ (q : List A). q ++ a ∷ []) (taken_is ∙ append-nil silent) ∙ sym (append-nil (silent ++ a ∷ []));
      waiting_is = refl;
      answered = answered;
      flown = refl;
      both = tt;
      low = refl;
      quiet = tt;
    })
closed_takes {A} key taken waiting answers a rest silent (z ∷ again) coming staying taken_is waiting_is answered flown =
    let head : z ≡ a = cc in
    let tail : rest ≡ again ++ coming = cc in
    let split : taken ≡ silent ++ a ∷ again = taken_is ∙ ap (λ (w : A). silent ++ w ∷ again) head in
    Again silent again split (record {
      answering = [];
      silent = silent ++ a ∷ [];
      again = again;
      coming = coming;
      staying = staying;
      taken_is = split ∙ sym (append_assoc silent (a ∷ []) again);
      waiting_is = waiting_is;
      answered = answered;
      flown = tail;
      both = tt;
      low = refl;
      quiet = tt;
    })

pub takes_in : {A : Type 0} (key : A → ℕ) (x : State) (taken waiting : List A) (answers : List ℕ) (a : A) (rest : List A)
    → Stages key x Connected taken waiting answers (a ∷ rest) → TakesIn key x taken waiting answers a rest
takes_in {A} key Disconnected taken waiting answers a rest h =
    closed_takes key taken waiting answers a rest h.silent h.again h.coming h.staying
    (h.taken_is ∙ ap (λ (q : List A). q ++ (h.silent ++ h.again)) h.low) h.waiting_is (h.answered ∙ ap (map key) h.low) h.flown
takes_in {A} key Connecting taken waiting answers a rest h = absurd (not_empty a rest (h.flown ∙ (ap (λ (q : List A). q ++ h.coming) h.quiet.0 ∙ h.quiet.1)))
takes_in {A} key Connected taken waiting answers a rest h =
    up_takes key taken waiting answers a rest h.answering h.again h.coming (h.taken_is ∙ ap (λ (q : List A). h.answering ++ (q ++ h.again)) h.both.0)
    (h.waiting_is ∙ (ap (λ (q : List A). h.coming ++ q) h.both.1 ∙ append-nil h.coming)) h.answered h.flown

-- ---- The sender processes a response

pub data Answered {A : Type 0} (key : A → ℕ) (y : State) (taken waiting : List A) (i : ℕ) (rest : List ℕ) (flying : List A) : Type 0 where
  Answer : (a : A) (later : List A) → taken ≡ a ∷ later → key a ≡ i → Stages key Connected y later waiting rest flying → Answered key y taken waiting i rest flying

pub answered : {A : Type 0} (key : A → ℕ) (y : State) (taken waiting : List A) (i : ℕ) (rest : List ℕ) (flying : List A)
    → Stages key Connected y taken waiting (i ∷ rest) flying → Answered key y taken waiting i rest flying
answered key y taken waiting i rest flying h =
    by_first key y taken waiting i rest flying h.answering h.silent h.again h.coming h.staying h.taken_is h.waiting_is h.answered h.flown h.both h.quiet
  where
    by_first : {A : Type 0} (key : A → ℕ) (y : State) (taken waiting : List A) (i : ℕ) (rest : List ℕ)
        (flying answering silent again coming staying : List A) → taken ≡ answering ++ (silent ++ again) → waiting ≡ coming ++ staying
        → i ∷ rest ≡ map key answering → flying ≡ again ++ coming
        → When (is_live y) ((silent ≡ []) × (staying ≡ [])) → When (not (is_live y)) ((again ≡ []) × (coming ≡ [])) → Answered key y taken waiting i rest flying
    by_first key y taken waiting i rest flying [] silent again coming staying taken_is waiting_is answered flown both quiet = absurd (not_empty i rest answered)
    by_first key y taken waiting i rest flying (r ∷ answering) silent again coming staying taken_is waiting_is answered flown both quiet =
        let head : key r ≡ i = cc in
        let tail : rest ≡ map key answering = cc in
        Answer r (answering ++ (silent ++ again)) taken_is head
        (record {
          answering = answering;
          silent = silent;
          again = again;
          coming = coming;
          staying = staying;
          taken_is = refl;
          waiting_is = waiting_is;
          answered = tail;
          flown = flown;
          both = both;
          low = tt;
          quiet = quiet;
        })

-- ---- Consequences

-- An acknowledged item was received.
pub answers_taken : {A : Type 0} (key : A → ℕ) (x y : State) (taken waiting : List A) (answers : List ℕ) (flying : List A)
    → Stages key x y taken waiting answers flying → (i : ℕ) → times i answers ≤ times i (map key taken)
answers_taken key x y taken waiting answers flying h i =
    let e : map key taken ≡ map key h.answering ++ map key (h.silent ++ h.again) = ap (map key) h.taken_is ∙ map-append key h.answering (h.silent ++ h.again) in
    let f = times_append i (map key h.answering) (map key (h.silent ++ h.again)) in
    let g : times i (map key taken) ≡ times i (map key h.answering ++ map key (h.silent ++ h.again)) = ap (times i) e in
    let j : times i answers ≡ times i (map key h.answering) = ap (times i) h.answered in
    omega arith

nothing_mapped : {A : Type 0} (key : A → ℕ) (answering : List A) → [] ≡ map key answering → answering ≡ []
nothing_mapped key [] e = refl
nothing_mapped key (r ∷ answering) e = absurd (not_empty (key r) (map key answering) (sym e))

no_front : {A : Type 0} (again coming : List A) → [] ≡ again ++ coming → (again ≡ []) × (coming ≡ [])
no_front [] coming e = (refl, sym e)
no_front (z ∷ again) coming e = absurd (not_empty z (again ++ coming) (sym e))

-- Both sides are connected and nothing is in flight: nothing is stored.
pub nothing_held : {A : Type 0} (key : A → ℕ) (taken waiting : List A) → Stages key Connected Connected taken waiting [] [] → (taken ≡ []) × (waiting ≡ [])
nothing_held {A} key taken waiting h =
    let r = nothing_mapped key h.answering h.answered in
    let f = no_front h.again h.coming h.flown in (
      h.taken_is ∙ (ap (λ (q : List A). q ++ (h.silent ++ h.again)) r ∙ (ap (λ (q : List A). q ++ h.again) h.both.0 ∙ f.0)),
      h.waiting_is ∙ (ap (λ (q : List A). q ++ h.staying) f.1 ∙ h.both.1),
    )
