-- The progress of `collect`.
use Rattle.std.proofs.Common.{◌≡◌, ◌⊎◌, ◌∷◌, inl, inr, List, [], ◌++◌, refl, sym, ap, subst, ◌∙◌, append-nil, append_assoc, Result, Ok, Err}
use Rattle.std.specs.Bool.{⊤}
use Rattle.mq_end.specs.declared.happening.Happening.{Happening}
use Rattle.mq_end.specs.declared.reason.CloseReason.{CloseReason}
use Rattle.mq_client.specs.declared.error.ClientError.{ClientError}
use Rattle.mq_client.specs.declared.error.ClientError.TheVariants.{Closed, Lost, Refused, NotSubscribed, SaveError, Memory}
use Rattle.mq_client.specs.Course.{Ask, Moment, Went, WentFirst}
use Rattle.std.specs.List.{flat_map}
use Rattle.std.proofs.lemmas.Grind.{flat_map-append}
use Rattle.std.proofs.KnownBytes.{Keeps-refl, Keeps-trans}
use Rattle.std.specs.Io.KnownBytes.{Keeps as Silent}
use Rattle.mq_client.specs.Collecting.{Keeps, KeepsFirst, Misses, Unacknowledged, handed}
use Rattle.mq_client.specs.Halts.{Closes, closes_of, halt_closes}
use Rattle.mq_client.proofs.Courses.{closes_none, went_none, went_still, went_then}

-- nothing is missing
pub misses_none : (r : Result ⊤ ClientError) (rs : List CloseReason) → Closes r rs → Misses r [] rs
misses_none (Ok x) rs p = (refl, p)
misses_none (Err (Closed reason)) rs p = (refl, p)
misses_none (Err Lost) rs p = (refl, p)
misses_none (Err (Refused why)) rs p = (refl, p)
misses_none (Err NotSubscribed) rs p = (refl, p)
misses_none (Err (SaveError kind)) rs p = (refl, p)
misses_none (Err Memory) rs p = tt

-- no happenings
pub keeps_went : (a b : Moment) (asks : List Ask) (x : List Happening) (r : Result ⊤ ClientError) → Went a b asks [] [] → closes_of r ≡ [] → Keeps a b asks x x r
keeps_went a b asks x r w p = record { told = []; rest = []; reasons = []; went = w; kept = sym (append-nil x); misses = misses_none r [] (closes_none r p) }

-- all happenings are kept
pub keeps_all : (a b : Moment) (hs x y : List Happening) (ss : List CloseReason) (r : Result ⊤ ClientError) → Went a b [] hs ss → Closes r ss → y ≡ x ++ hs → Keeps a b [] x y r
keeps_all a b hs x y ss r w p kept = record {
  told = hs;
  rest = [];
  reasons = ss;
  went = subst (λ z. Went a b [] z ss) (sym (append-nil hs)) w;
  kept = kept;
  misses = misses_none r ss p;
}

-- memory ran out for the happenings
pub keeps_memory : (a b : Moment) (hs x y : List Happening) (ss : List CloseReason) → Went a b [] hs ss → y ≡ x → Keeps a b [] x y (Err Memory)
keeps_memory a b hs x y ss w kept = record { told = []; rest = hs; reasons = ss; went = w; kept = kept ∙ sym (append-nil x); misses = tt }

-- nothing is missing if all went well
pub keeps_told : (a b : Moment) (asks : List Ask) (x y : List Happening) (k : Keeps a b asks x y (Ok tt)) → Went a b asks k.told []
keeps_told a b asks x y k =
    let told : k.told ++ k.rest ≡ k.told = ap (λ u. k.told ++ u) k.misses.0 ∙ append-nil k.told in
    subst (λ u. Went a b asks k.told u) k.misses.1 (subst (λ u. Went a b asks u k.reasons) told k.went)

-- and then more
pub keeps_then : (a b c : Moment) (asks more : List Ask) (x y z : List Happening) (r : Result ⊤ ClientError) → Keeps a b asks x y (Ok tt) → Keeps b c more y z r → Keeps a c (asks ++ more) x z r
keeps_then a b c asks more x y z r p q =
    let first = keeps_told a b asks x y p in
    record {
      told = p.told ++ q.told;
      rest = q.rest;
      reasons = q.reasons;
      went = subst (λ u. Went a c (asks ++ more) u q.reasons) (sym (append_assoc p.told q.told q.rest)) (went_then a b c asks more p.told (q.told ++ q.rest) [] q.reasons first q.went);
      kept = q.kept ∙ ap (λ u. u ++ q.told) p.kept ∙ append_assoc x p.told q.told;
      misses = q.misses;
    }

-- and then a write, after which the program continues or stops
pub keeps_still : (a b c : Moment) (asks : List Ask) (x y : List Happening) (r : Result ⊤ ClientError) → Keeps a b asks x y (Ok tt) → Went b c [] [] [] → closes_of r ≡ [] → Keeps a c asks x y r
keeps_still a b c asks x y r k w p = record {
  told = k.told;
  rest = [];
  reasons = [];
  went = subst (λ z. Went a c asks z []) (sym (append-nil k.told)) (went_still a b c asks k.told [] (keeps_told a b asks x y k) w);
  kept = k.kept;
  misses = misses_none r [] (closes_none r p);
}

-- the program stops then
pub keeps_as : (a b : Moment) (asks : List Ask) (x y : List Happening) (h : ClientError) → halt_closes h ≡ [] → Keeps a b asks x y (Ok tt) → Keeps a b asks x y (Err h)
keeps_as a b asks x y h p k = keeps_still a b b asks x y (Err h) k (went_none b) p

-- ---- fronts of the requests

-- the program stopped without happenings
pub keeps_first : (a b : Moment) (all : List Ask) (x : List Happening) (r : Result ⊤ ClientError) → WentFirst a b all [] [] → closes_of r ≡ [] → KeepsFirst a b all x x r
keeps_first a b all x r w p = record { asks = w.asks; rest = w.rest; parts = w.parts; keeps = keeps_went a b w.asks x r w.went p }

-- the program stopped after all requests
pub first_all : (a b : Moment) (all : List Ask) (x y : List Happening) (r : Result ⊤ ClientError) → Keeps a b all x y r → KeepsFirst a b all x y r
first_all a b all x y r k = record { asks = all; rest = []; parts = sym (append-nil all); keeps = k }

-- the program stopped before the first request
pub first_none : (a b : Moment) (all : List Ask) (x y : List Happening) (r : Result ⊤ ClientError) → Keeps a b [] x y r → KeepsFirst a b all x y r
first_none a b all x y r k = record { asks = []; rest = all; parts = refl; keeps = k }

-- more requests would have followed
pub first_before : (a b : Moment) (all more : List Ask) (x y : List Happening) (r : Result ⊤ ClientError) → KeepsFirst a b all x y r → KeepsFirst a b (all ++ more) x y r
first_before a b all more x y r k = record { asks = k.asks; rest = k.rest ++ more; parts = ap (λ z. z ++ more) k.parts ∙ append_assoc k.asks k.rest more; keeps = k.keeps }

-- other requests came before
pub first_after : (a b c : Moment) (all more : List Ask) (x y z : List Happening) (r : Result ⊤ ClientError) → Keeps a b all x y (Ok tt) → KeepsFirst b c more y z r → KeepsFirst a c (all ++ more) x z r
first_after a b c all more x y z r k f = record {
  asks = all ++ f.asks;
  rest = f.rest;
  parts = ap (λ u. all ++ u) f.parts ∙ sym (append_assoc all f.asks f.rest);
  keeps = keeps_then a b c all f.asks x y z r k f.keeps;
}

-- ---- messages that are not acknowledged

-- no message was delivered yet
pub unack_none : (a b : Moment) (asks : List Ask) (told : List Happening) → Went a b asks told [] → flat_map handed told ≡ [] → Unacknowledged a b
unack_none a b asks told w none = record {
  last = b;
  asks = asks;
  more = [];
  told = told;
  rest = [];
  reasons = [];
  before = w;
  none = none;
  after = went_none b;
  silent = Keeps-refl b.written;
}

-- bytes arrived, and nothing was sent
pub unack_more : (a b c : Moment) (x y : List Happening) (r : Result ⊤ ClientError) → Unacknowledged a b → Keeps b c [] x y r → Silent b.written c.written → Unacknowledged a c
unack_more a b c x y r u k silent = record {
  last = u.last;
  asks = u.asks;
  more = u.more ++ [];
  told = u.told;
  rest = u.rest ++ (k.told ++ k.rest);
  reasons = u.reasons ++ k.reasons;
  before = u.before;
  none = u.none;
  after = went_then u.last b c u.more [] u.rest (k.told ++ k.rest) u.reasons k.reasons u.after k.went;
  silent = Keeps-trans u.last.written b.written c.written u.silent silent;
}

-- no message was delivered before
pub unack_after : (a b c : Moment) (asks : List Ask) (told : List Happening) → Went a b asks told [] → flat_map handed told ≡ [] → Unacknowledged b c → Unacknowledged a c
unack_after a b c asks told w none u = record {
  last = u.last;
  asks = asks ++ u.asks;
  more = u.more;
  told = told ++ u.told;
  rest = u.rest;
  reasons = u.reasons;
  before = went_then a b u.last asks u.asks told u.told [] [] w u.before;
  none = flat_map-append handed told u.told ∙ ap (λ z. z ++ flat_map handed u.told) none ∙ u.none;
  after = u.after;
  silent = u.silent;
}

append_nil_right : {A : Type 0} (xs ys : List A) → xs ++ ys ≡ [] → ys ≡ []
append_nil_right [] ys p = p
append_nil_right (x ∷ xs) ys p = cc

-- a list without a message has no message at its end
pub none_told : (x told y : List Happening) → y ≡ x ++ told → flat_map handed y ≡ [] → flat_map handed told ≡ []
none_told x told y kept none =
    append_nil_right (flat_map handed x) (flat_map handed told) (sym (ap (flat_map handed) kept ∙ flat_map-append handed x told) ∙ none)

-- the output was sent while no message was delivered
pub unack_write : (a b c : Moment) (asks : List Ask) (x y : List Happening) → Keeps a b asks x y (Ok tt) → flat_map handed y ≡ [] → Went b c [] [] [] → Unacknowledged a c
unack_write a b c asks x y k none w =
    unack_none a c asks k.told (went_still a b c asks k.told [] (keeps_told a b asks x y k) w) (none_told x k.told y k.kept none)

-- the output was sent if no message was delivered, and else nothing happened
pub unack_send : (a b c : Moment) (asks : List Ask) (x y z : List Happening) → Keeps a b asks x y (Ok tt) → Unacknowledged a b → Went b c [] [] [] → z ≡ y
    → (flat_map handed z ≡ []) ⊎ (c ≡ b) → Unacknowledged a c
unack_send a b c asks x y z k u w same sent = elim sent [
  | inl none ↦ unack_write a b c asks x y k (subst (λ l. flat_map handed l ≡ []) same none) w
  | inr still ↦ subst (Unacknowledged a) (sym still) u
]

-- the same at the start of what follows
pub unack_then : (a b c : Moment) (asks : List Ask) (x y : List Happening) → Keeps a b asks x y (Ok tt) → flat_map handed y ≡ [] → Unacknowledged b c → Unacknowledged a c
unack_then a b c asks x y k none u = unack_after a b c asks k.told (keeps_told a b asks x y k) (none_told x k.told y k.kept none) u

-- the first part of the requests delivered nothing
pub unack_first : (a b : Moment) (all : List Ask) → WentFirst a b all [] [] → Unacknowledged a b
unack_first a b all w = unack_none a b w.asks [] w.went refl

-- only reads since then
pub unack_reads : (a b c : Moment) (asks : List Ask) (x y : List Happening) (r : Result ⊤ ClientError) → Went a b asks [] [] → Keeps b c [] x y r → Silent b.written c.written → Unacknowledged a c
unack_reads a b c asks x y r w k silent = unack_more a b c x y r (unack_none a b asks [] w refl) k silent
