-- The progress of a publication.
use Rattle.std.proofs.Common.{◌≡◌, ◌<◌, ◌+◌, ℕ, List, [], ◌∷◌, ◌++◌, length, take, drop, map, sym, ap, subst, ◌∙◌, append-nil, append_assoc, get_or, arith, Result, Ok, Err, Bool, true, IfErr, OnOk}
use Rattle.std.specs.Bool.{⊤}
use Rattle.std.proofs.lemmas.List.{take_all, take_more, take-append-drop, take-map, map-append}
use Rattle.mq_end.specs.declared.happening.Happening.{Happening}
use Rattle.mq_end.specs.declared.reason.CloseReason.{CloseReason}
use Rattle.mq_end.specs.End.{is_up}
use Rattle.mq_client.specs.declared.error.ClientError.{ClientError}
use Rattle.mq_client.specs.declared.publisher.Publications.{Publications}
use Rattle.mq_client.specs.Course.{Ask, IsIdle, Leaves, Moment, Opening, Publication, Went, WentFirst}
use Rattle.mq_client.specs.Halts.{Reports, closes_of, halt_closes}
use Rattle.mq_client.specs.Publishing.{AskedAll, PublishHalts, Published, asks_of, publishes, text_message}
use Rattle.mq_client.specs.Inside.Publishing.{AskedFirst, AskedMore}
use Rattle.mq_client.proofs.Courses.{reports_none, went_none, went_still, went_then}

pub more_none : (a : Moment) (all : List Ask) (n : ℕ) → AskedMore a a all n n
more_none a all n = record { more = []; went = went_none a; parts = sym (append-nil (take n all)) }

-- no further request was made
pub more_same : (a b c : Moment) (all : List Ask) (from to : ℕ) → AskedMore a b all from to → Went b c [] [] [] → AskedMore a c all from to
more_same a b c all from to m w = record { more = m.more; went = went_still a b c m.more [] [] m.went w; parts = m.parts }

-- the next request was made
pub more_one : {X : Type 0} (f : X → Ask) (xs : List X) (d : X) (m : Ask) (a b c : Moment) (from to : ℕ) → AskedMore a b (map f xs) from to → to < length xs
    → m ≡ f (get_or xs to d) → Went b c (m ∷ []) [] [] → AskedMore a c (map f xs) from (to + 1)
more_one f xs d m a b c from to before within is w =
    let next : take (to + 1) (map f xs) ≡ take to (map f xs) ++ f (get_or xs to d) ∷ [] =
    take-map f (to + 1) xs ∙ ap (map f) (take_more xs to d within) ∙ map-append f (take to xs) (get_or xs to d ∷ []) ∙ ap (λ z. z ++ f (get_or xs to d) ∷ []) (sym (take-map f to xs)) in
    record {
      more = before.more ++ m ∷ [];
      went = went_then a b c before.more (m ∷ []) [] [] [] [] before.went w;
      parts = next ∙ ap (λ y. take to (map f xs) ++ y ∷ []) (sym is) ∙ ap (λ z. z ++ m ∷ []) before.parts ∙ append_assoc (take from (map f xs)) before.more (m ∷ []);
    }

pub first_none : (a : Moment) (all : List Ask) → AskedFirst a a all 0 []
first_none a all = record { told = []; went = went_none a }

-- more happenings, and the end closed for these reasons
pub first_told : (a b c : Moment) (all : List Ask) (n : ℕ) (hs : List Happening) (rs : List CloseReason) → AskedFirst a b all n [] → Went b c [] hs rs → AskedFirst a c all n rs
first_told a b c all n hs rs f w = record {
  told = f.told ++ hs;
  went = subst (λ z. Went a c z (f.told ++ hs) rs) (append-nil (take n all)) (went_then a b c (take n all) [] f.told hs [] rs f.went w);
}

-- more texts were published
pub first_more : (a b c : Moment) (all : List Ask) (from to : ℕ) → AskedFirst a b all from [] → AskedMore b c all from to → AskedFirst a c all to []
first_more a b c all from to f m = record {
  told = f.told;
  went = subst (λ z. Went a c z f.told []) (sym m.parts) (subst (λ z. Went a c (take from all ++ m.more) z []) (append-nil f.told) (went_then a b c (take from all) m.more f.told [] [] [] f.went m.went));
}

-- more happenings, and the end did not close
pub first_heard : (a b c : Moment) (all : List Ask) (n : ℕ) (hs : List Happening) (rs : List CloseReason) → AskedFirst a b all n [] → Went b c [] hs rs → rs ≡ [] → AskedFirst a c all n []
first_heard a b c all n hs rs f w none = subst (λ z. AskedFirst a c all n z) none (first_told a b c all n hs rs f w)

-- the program stops: the first texts were published
pub first_halts : (a b : Moment) (all : List Ask) (n : ℕ) (h : ClientError) (rs : List CloseReason) → AskedFirst a b all n rs → Reports h rs → PublishHalts a b all h
first_halts a b all n h rs f reports = (f.told, rs, record { asks = take n all; rest = drop n all; parts = sym (take-append-drop n all); went = f.went }, reports)

-- the program stops, and the end did not close
pub first_stops : (a b : Moment) (all : List Ask) (n : ℕ) (h : ClientError) → halt_closes h ≡ [] → AskedFirst a b all n [] → PublishHalts a b all h
first_stops a b all n h none f = first_halts a b all n h [] f (reports_none h none)

-- all texts were published
pub all_asked : (a b : Moment) (t : Publications) (n : ℕ) → n ≡ length t.texts.now → AskedFirst a b (asks_of t) n [] → is_up b.client.link.end.state ≡ true → IsIdle b.client.link.end
    → AskedAll a b (asks_of t)
all_asked a b t n full f up idle =
    let whole : take n (asks_of t) ≡ asks_of t = ap (λ z. take z (asks_of t)) full ∙ take-map (λ text. Publication (text_message t text.now)) (length t.texts.now) t.texts.now ∙ ap (map (λ text. Publication (text_message t text.now))) (take_all (length t.texts.now) t.texts.now (omega arith)) in
    record { told = f.told; went = subst (λ z. Went a b z f.told []) whole f.went; up = up; idle = idle }

-- ---- after a connection was opened

-- the program stopped before a text was published
pub opens_halts : (a b : Moment) (clean : Bool) (t : Publications) (h : ClientError) → halt_closes h ≡ [] → WentFirst a b (Opening clean ∷ []) [] [] → PublishHalts a b (publishes clean t) h
opens_halts a b clean t h none f = (
  [],
  [],
  record {
    asks = f.asks;
    rest = f.rest ++ asks_of t;
    parts = ap (λ z. z ++ asks_of t) f.parts ∙ append_assoc f.asks f.rest (asks_of t);
    went = f.went;
  },
  reports_none h none,
)

-- the program stopped later
pub opened_halts : (a b c : Moment) (clean : Bool) (t : Publications) (h : ClientError) → Went a b (Opening clean ∷ []) [] [] → PublishHalts b c (asks_of t) h → PublishHalts a c (publishes clean t) h
opened_halts a b c clean t h w p = (
  p.0,
  p.1,
  record {
    asks = Opening clean ∷ p.2.asks;
    rest = p.2.rest;
    parts = ap (λ z. Opening clean ∷ z) p.2.parts;
    went = went_then a b c (Opening clean ∷ []) p.2.asks [] p.0 [] p.1 w p.2.went;
  },
  p.3,
)

pub opened_all : (a b c : Moment) (clean : Bool) (t : Publications) → Went a b (Opening clean ∷ []) [] [] → AskedAll b c (asks_of t) → AskedAll a c (publishes clean t)
opened_all a b c clean t w f = record { told = f.told; went = went_then a b c (Opening clean ∷ []) (asks_of t) [] f.told [] [] w f.went; up = f.up; idle = f.idle }

-- the client leaves, if it can
pub left_then : (r : Result ⊤ ClientError) (a b c : Moment) (clean : Bool) (t : Publications) → AskedAll a b (publishes clean t) → OnOk r (Leaves b c) → OnOk r (Published a c clean t)
left_then (Ok x) a b c clean t f p = record { last = b; asked = f; leaves = p }
left_then (Err e) a b c clean t f p = tt

pub halts_then : (r : Result ⊤ ClientError) (a b c : Moment) (all : List Ask) → AskedAll a b all → Went b c [] [] [] → closes_of r ≡ [] → IfErr r (PublishHalts a c all)
halts_then (Ok x) a b c all f w p = tt
halts_then (Err e) a b c all f w p =
    (f.told, [], record { asks = all; rest = []; parts = sym (append-nil all); went = went_still a b c all f.told [] f.went w }, reports_none e p)
