-- Courses in sequence.
use Rattle.std.proofs.Common.{◌≡◌, ℕ, List, [], ◌∷◌, ◌++◌, Option, None, Some, refl, sym, ap, subst, ◌∙◌, append-nil, option_to_list, Result, Ok, Err, OnErr, OnOk}
use Rattle.std.proofs.KnownBytes.{Appends-kept, Appends-nil, Appends-trans, Consumes-kept, Consumes-nil, Consumes-trans}
use Rattle.std.proofs.lemmas.Grind.{flat_map-append}
use Rattle.std.specs.List.{flat_map}
use Rattle.std.specs.Io.KnownBytes.{Appends, Consumes, Keeps}
use Rattle.mq_packet.specs.Writing.{AppendsFront}
use Rattle.mq_packet.specs.declared.packet.Packet.TheVariants as packets
use Rattle.mq_end.specs.declared.happening.Happening.{Happening}
use Rattle.mq_end.specs.declared.reason.CloseReason.{CloseReason}
use Rattle.mq_end.specs.Publishing.{ClientState}
use Rattle.mq_end.specs.End.{over}
use Rattle.mq_end.specs.State.{PutsOut, no_bytes}
use Rattle.mq_client.specs.Course.{Ask, Does, Hear, Hears, Leaves, Line, Lose, Moment, Runs, Starve, Step, Tick, Ticked, Went, WentFirst, Write, closed, forms, heard, asked, readings, sent, told}
use Rattle.mq_client.specs.Halts.{Closes, Reports, closes_of, halt_closes}
use Rattle.mq_client.specs.Keeping.{Holds, saved_of}
use Rattle.mq_client.specs.declared.error.ClientError.{ClientError}
use Rattle.mq_client.specs.declared.error.ClientError.TheVariants.{Closed, Lost, Refused, NotSubscribed, SaveError, Memory}

runs_then : (a b c : ClientState) (ss ts : List Step) → Runs a ss b → Runs b ts c → Runs a (ss ++ ts) c
runs_then a b c [] ts p q = subst (λ x. Runs x ts c) p q
runs_then a b c (s ∷ ss) ts p q = (p.0, p.1, runs_then p.0 b c ss ts p.2 q)

-- ---- saved forms

pub Holds-nil : (a : Option (List ℕ)) → Holds a a []
Holds-nil None = tt
Holds-nil (Some x) = refl

pub Holds-trans : (a b c : Option (List ℕ)) (xs ys : List (List ℕ)) → Holds a b xs → Holds b c ys → Holds a c (xs ++ ys)
Holds-trans None b c xs ys p q = tt
Holds-trans (Some x) b c [] ys p q = subst (λ z. Holds z c ys) p q
Holds-trans (Some x) b c (y ∷ xs) ys p q = Holds-trans (Some y) b c xs ys p q

-- ---- courses

-- nothing happened
pub went_none : (a : Moment) → Went a a [] [] []
went_none a = record {
  steps = [];
  runs = refl;
  comes = Consumes-nil a.coming;
  goes = Appends-nil a.written;
  holds = Holds-nil a.kept;
  clock = Appends-nil a.times;
  asks_are = refl;
  happenings_are = refl;
  reasons_are = refl;
  limit = refl;
}

-- one step
pub went_step : (s : Step) (a b : Moment) → Does s a.client b.client → Consumes a.coming b.coming (heard s) → Appends a.written b.written (sent s)
    → Holds a.kept b.kept (forms s) → Appends a.times b.times (readings s) → b.line.limit ≡ a.line.limit → Went a b (asked s) (told s) (closed s)
went_step s a b does comes goes holds clock same = record {
  steps = s ∷ [];
  runs = (b.client, does, refl);
  comes = subst (Consumes a.coming b.coming) (sym (append-nil (heard s))) comes;
  goes = subst (Appends a.written b.written) (sym (append-nil (sent s))) goes;
  holds = subst (Holds a.kept b.kept) (sym (append-nil (forms s))) holds;
  clock = subst (Appends a.times b.times) (sym (append-nil (readings s))) clock;
  asks_are = sym (append-nil (asked s));
  happenings_are = sym (append-nil (told s));
  reasons_are = sym (append-nil (closed s));
  limit = same;
}

-- one course after another
pub went_then : (a b c : Moment) (ms ns : List Ask) (hs ks : List Happening) (rs ss : List CloseReason)
    → Went a b ms hs rs → Went b c ns ks ss → Went a c (ms ++ ns) (hs ++ ks) (rs ++ ss)
went_then a b c ms ns hs ks rs ss p q = record {
  steps = p.steps ++ q.steps;
  runs = runs_then a.client b.client c.client p.steps q.steps p.runs q.runs;
  comes = subst (Consumes a.coming c.coming) (sym (flat_map-append heard p.steps q.steps)) (Consumes-trans _ _ _ _ _ p.comes q.comes);
  goes = subst (Appends a.written c.written) (sym (flat_map-append sent p.steps q.steps)) (Appends-trans _ _ _ _ _ p.goes q.goes);
  holds = subst (Holds a.kept c.kept) (sym (flat_map-append forms p.steps q.steps)) (Holds-trans _ _ _ _ _ p.holds q.holds);
  clock = subst (Appends a.times c.times) (sym (flat_map-append readings p.steps q.steps)) (Appends-trans _ _ _ _ _ p.clock q.clock);
  asks_are = ap (λ z. z ++ ns) p.asks_are ∙ ap (λ z. flat_map asked p.steps ++ z) q.asks_are ∙ sym (flat_map-append asked p.steps q.steps);
  happenings_are = ap (λ z. z ++ ks) p.happenings_are ∙ ap (λ z. flat_map told p.steps ++ z) q.happenings_are ∙ sym (flat_map-append told p.steps q.steps);
  reasons_are = ap (λ z. z ++ ss) p.reasons_are ∙ ap (λ z. flat_map closed p.steps ++ z) q.reasons_are ∙ sym (flat_map-append closed p.steps q.steps);
  limit = q.limit ∙ p.limit;
}

-- more happenings and no request
pub went_on : (a b c : Moment) (ms : List Ask) (hs ks : List Happening) (ss : List CloseReason) → Went a b ms hs [] → Went b c [] ks ss → Went a c ms (hs ++ ks) ss
went_on a b c ms hs ks ss p q = subst (λ z. Went a c z (hs ++ ks) ss) (append-nil ms) (went_then a b c ms [] hs ks [] ss p q)

-- nothing more
pub went_still : (a b c : Moment) (ms : List Ask) (hs : List Happening) (rs : List CloseReason) → Went a b ms hs rs → Went b c [] [] [] → Went a c ms hs rs
went_still a b c ms hs rs p q =
    subst (λ z. Went a c z hs rs) (append-nil ms)
    (subst (λ z. Went a c (ms ++ []) z rs) (append-nil hs) (subst (λ z. Went a c (ms ++ []) (hs ++ []) z) (append-nil rs) (went_then a b c ms [] hs [] rs [] p q)))

-- ---- the steps of a peer

abbrev pub at : ClientState → Option (List ℕ) → Option (List ℕ) → Option (List ℕ) → Option (List ℕ) → Line → Moment
at client coming written kept times line = record { client = client; coming = coming; written = written; kept = kept; times = times; line = line }

-- a step that sends and receives nothing
pub stepped : (s : Step) (a b : ClientState) (k w h t u : Option (List ℕ)) (q : Line) → heard s ≡ [] → sent s ≡ [] → forms s ≡ [] → Appends t u (readings s) → Does s a b
    → Went (at a k w h t q) (at b k w h u q) (asked s) (told s) (closed s)
stepped s a b k w h t u q no_heard no_sent no_forms clock does =
    went_step s (at a k w h t q) (at b k w h u q) does (subst (Consumes k k) (sym no_heard) (Consumes-nil k)) (subst (Appends w w) (sym no_sent) (Appends-nil w))
    (subst (Holds h h) (sym no_forms) (Holds-nil h)) clock refl

-- memory ran out at this time
pub starved : (now : ℕ) (a : ClientState) (k w h t u : Option (List ℕ)) (q : Line) → Appends t u (now ∷ []) → Went (at a k w h t q) (at a k w h u q) [] [] []
starved now a k w h t u q clock = stepped (Starve now) a a k w h t u q refl refl refl clock refl

-- a tick is a course
pub went_tick : (now : ℕ) (a b : Moment) → Ticked now a b → Went a b [] [] []
went_tick now a b t =
    went_step (Tick now) a b t.ticks (subst (λ z. Consumes a.coming z []) (sym t.coming) (Consumes-nil a.coming))
    (subst (λ z. Appends a.written z []) (sym t.written) (Appends-nil a.written)) (subst (λ z. Holds a.kept z []) (sym t.kept) (Holds-nil a.kept)) t.clock (ap (λ z. z.limit) t.line)

-- the output was emptied
abbrev pub emptied : ClientState → ClientState
emptied a = record a { link = record a.link { output = []; room = no_bytes a.link.room } }

-- the session was saved, and the whole output was written
pub wrote : (a b : ClientState) (k j w v h i t : Option (List ℕ)) (q r : Line) (bytes : List ℕ) → r.limit ≡ q.limit → bytes ≡ a.link.output → b ≡ emptied a → Keeps k j → Appends w v bytes
    → Holds h i (saved_of a ∷ []) → Went (at a k w h t q) (at b j v i t r) [] [] []
wrote a b k j w v h i t q r bytes limit same left keeps goes holds =
    went_step (Write (saved_of a) bytes) (at a k w h t q) (at b j v i t r) (record { saved = refl; rest = []; parts = sym same ∙ sym (append-nil bytes); left = ap (λ c. c.link) left })
    (Consumes-kept k k j [] (Consumes-nil k) keeps) goes holds (Appends-nil t) limit

-- the connection was lost
pub lost : (a b : ClientState) (k j w v h t : Option (List ℕ)) (q : Line) → b.link.end ≡ over a.link.end → b.link.output ≡ [] → b.link.held ≡ [] → Keeps k j → Keeps w v
    → Went (at a k w h t q) (at b j v h t q) [] [] []
lost a b k j w v h t q end output held keeps stays =
    went_step Lose (at a k w h t q) (at b j v h t q) (record { end = end; output = output; held = held })
    (Consumes-kept k k j [] (Consumes-nil k) keeps) (Appends-kept w w v [] (Appends-nil w) stays) (Holds-nil h) (Appends-nil t) refl

-- the session was saved, a front of the output was written, and then the connection was lost
pub broke : (a b c : ClientState) (k j w v h i t : Option (List ℕ)) (q r : Line) (bytes : List ℕ) → r.limit ≡ q.limit → bytes ≡ a.link.output → b ≡ emptied a → Keeps k j → AppendsFront w v bytes
    → Holds h i (saved_of a ∷ []) → c.link.end ≡ over b.link.end → c.link.output ≡ [] → c.link.held ≡ [] → Went (at a k w h t q) (at c j v i t r) [] [] []
broke a b c k j w v h i t q r bytes limit same left keeps goes holds end output held =
    let m : ClientState = record a { link = record a.link { output = goes.rest; room = no_bytes a.link.room } } in
    let first : Went (at a k w h t q) (at m j v i t r) [] [] [] =
    went_step (Write (saved_of a) goes.front) (at a k w h t q) (at m j v i t r) (record { saved = refl; rest = goes.rest; parts = sym same ∙ goes.parts; left = refl })
    (Consumes-kept k k j [] (Consumes-nil k) keeps) goes.appends holds (Appends-nil t) limit in
    let second : Went (at m j v i t r) (at c j v i t r) [] [] [] =
    went_step Lose (at m j v i t r) (at c j v i t r) (record { end = end ∙ ap (λ x. over x.link.end) left; output = output; held = held })
    (Consumes-nil j) (Appends-nil v) (Holds-nil i) (Appends-nil t) refl in
    went_then _ _ _ [] [] [] [] [] [] first second

-- the client stays as it is
pub stays : (a : ClientState) (k j w v h i t : Option (List ℕ)) (q r : Line) → Keeps k j → Keeps w v → Holds h i [] → r.limit ≡ q.limit → Went (at a k w h t q) (at a j v i t r) [] [] []
stays a k j w v h i t q r keeps stay holds same = record {
  steps = [];
  runs = refl;
  comes = Consumes-kept k k j [] (Consumes-nil k) keeps;
  goes = Appends-kept w w v [] (Appends-nil w) stay;
  holds = holds;
  clock = Appends-nil t;
  asks_are = refl;
  happenings_are = refl;
  reasons_are = refl;
  limit = same;
}

-- a tick, and then bytes that the client received
pub took : (now : ℕ) (s m n : Moment) (a b : ClientState) (k w h t : Option (List ℕ)) (q : Line) (bytes : List ℕ) (hs : List Happening) (why : Option CloseReason)
    → Ticked now s m → n.client ≡ m.client → Consumes m.coming n.coming bytes → Keeps m.written n.written → n.kept ≡ m.kept → n.times ≡ m.times → n.line.limit ≡ m.line.limit → at a k w h t q ≡ n
    → Hears bytes hs why a b → Went s (at b k w h t q) [] hs (option_to_list why)
took now s m n a b k w h t q bytes hs why tick same comes keeps holds times limit is hears =
    let does : Hears bytes hs why m.client b = subst (λ x. Hears bytes hs why x b) (ap (λ z. z.client) is ∙ same) hears in
    let came : Consumes m.coming k bytes = subst (λ z. Consumes m.coming z.coming bytes) (sym is) comes in
    let kept : Keeps m.written w = subst (λ z. Keeps m.written z.written) (sym is) keeps in
    let held : h ≡ s.kept = ap (λ z. z.kept) is ∙ holds ∙ tick.kept in
    let read : t ≡ m.times = ap (λ z. z.times) is ∙ times in
    went_step (Hear now bytes hs why) s (at b k w h t q) (m.client, tick.ticks, does) (subst (λ z. Consumes z k bytes) tick.coming came)
    (Appends-kept s.written s.written w [] (Appends-nil s.written) (subst (λ z. Keeps z w) tick.written kept))
    (subst (λ z. Holds s.kept z []) (sym held) (Holds-nil s.kept)) (subst (λ z. Appends s.times z (now ∷ [])) (sym read) tick.clock)
    (ap (λ z. z.line.limit) is ∙ limit ∙ ap (λ z. z.limit) tick.line)

-- and nothing was sent
pub took_silent : (now : ℕ) (s m n : Moment) (a : ClientState) (k w h t : Option (List ℕ)) (q : Line) → Ticked now s m → Keeps m.written n.written → at a k w h t q ≡ n → Keeps s.written w
took_silent now s m n a k w h t q tick keeps is =
    subst (λ z. Keeps z w) tick.written (subst (λ z. Keeps m.written z.written) (sym is) keeps)

-- a connection began, and nothing more happened, or something could not be done
pub first_of : {T E : Type 0} → (r : Result T E) (a b : Moment) (asks : List Ask) → Went a b asks [] [] → OnErr r (WentFirst a b asks [] [])
first_of (Ok x) a b asks w = tt
first_of (Err e) a b asks w = record { asks = asks; rest = []; parts = sym (append-nil asks); went = w }

pub first_nothing : (a b : Moment) (asks : List Ask) → Went a b [] [] [] → WentFirst a b asks [] []
first_nothing a b asks w = record { asks = []; rest = asks; parts = refl; went = w }

-- a fact of an error, and one of a success
pub on_err : {T E : Type 0} → (r : Result T E) (P : Type 0) → P → OnErr r P
on_err (Ok x) P p = tt
on_err (Err e) P p = p

pub on_ok : {T E : Type 0} → (r : Result T E) (P : Type 0) → P → OnOk r P
on_ok (Ok x) P p = p
on_ok (Err e) P p = tt

-- the client left: after the output, DISCONNECT was sent
pub left : {T E : Type 0} → (r : Result T E) (a b : Moment) (last : List ℕ) → PutsOut (packets.Disconnect ∷ []) a.client.link.output last
    → OnOk r (Appends a.written b.written last) → OnOk r (Leaves a b)
left (Ok x) a b last out goes = record { last = last; disconnects = out; goes = goes }
left (Err e) a b last out goes = tt

-- ---- why the end closed

-- the end did not close
pub reports_none : (h : ClientError) → halt_closes h ≡ [] → Reports h []
reports_none (Closed reason) p = sym p
reports_none Lost p = refl
reports_none (Refused why) p = refl
reports_none NotSubscribed p = refl
reports_none (SaveError kind) p = tt
reports_none Memory p = tt

pub closes_none : {T : Type 0} → (r : Result T ClientError) → closes_of r ≡ [] → Closes r []
closes_none (Ok x) p = refl
closes_none (Err h) p = reports_none h p
