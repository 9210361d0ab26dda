-- Entries that are printed, and how a file ends.
use Rattle.std.proofs.Common.{◌≡◌, ◌≢◌, ◌↔◌, ◌&&◌, ◌==◌, ◌+◌, ℕ, Bool, if◌then◌else◌, true, false, IsTrue, List, [], ◌∷◌, length, Vec, map, refl, sym, subst, nat_le, arith}
use Rattle.std.proofs.lemmas.Bool.Decides.{nat_tests}
use Rattle.std.specs.List.{AllByRecursion}
use Rattle.std.specs.declared.alloc.Global.{Global}
use Rattle.mq_log.specs.Blocks.{entries, gate, rest, stored_length, tail_of}
use Rattle.mq_log.specs.declared.reader.Tail.{Tail}
use Rattle.mq_log.specs.declared.reader.Tail.TheVariants.{Closed, Torn, CutShort, Damaged}
use Rattle.mq_record.specs.declared.fault.RecordFault.{RecordFault}
use Rattle.mq_record.specs.Laws.{RecordLaws}
use Rattle.mq_record.specs.Reading.{IsEntry, StopsAt}
use Rattle.mq_route.specs.declared.event.HubEvent.{HubEvent}
use Rattle.mq_durable.specs.Recorded.{IsReadable, events_in}
use Rattle.mq_durable.specs.Inside.Recorded.{AreReadable}
use Rattle.mq_durable.proofs.Entries.{found}
use Rattle.mq_store.specs.Restoring.{MayBeLeft}
use Rattle.mq_store.specs.Inside.Restoring.{may_end}

pub readable : (laws : RecordLaws) (events : List HubEvent) (entry : List ℕ) → IsEntry events entry → IsTrue true ↔ IsEntry (events_in entry) entry
readable laws events entry is =
    ((λ yes. subst (λ (l : List HubEvent). IsEntry l entry) (sym (found laws events entry is)) is), (λ whole. refl))

pub unreadable : (laws : RecordLaws) (fault : RecordFault) (entry : List ℕ) → StopsAt fault entry → IsTrue false ↔ IsEntry (events_in entry) entry
unreadable laws fault entry stops =
    ((λ no. absurd (cc no)), (λ whole. absurd (laws.no_fault (events_in entry) fault entry whole stops)))

-- all entries are readable exactly if those already read are, and the rest
abbrev pub AreSoFar : Bool → List (Vec ℕ Global) → List (Vec ℕ Global) → Type 0
AreSoFar are rest all = (IsTrue are × AreReadable rest) ↔ AreReadable all

pub none_so_far : (all : List (Vec ℕ Global)) → AreSoFar true all all
none_so_far all = ((λ both. both.1), (λ are. (refl, are)))

and_true : (a b : Bool) → IsTrue (a && b) → IsTrue a × IsTrue b
and_true true true both = (refl, refl)
and_true true false both = absurd (cc both)
and_true false b both = absurd (cc both)

both_true : (a b : Bool) → IsTrue a → IsTrue b → IsTrue (a && b)
both_true true true one other = refl
both_true true false one other = absurd (cc other)
both_true false b one other = absurd (cc one)

pub more_readable : (are is : Bool) (entry : Vec ℕ Global) (more all : List (Vec ℕ Global)) → AreSoFar are (entry ∷ more) all → IsTrue is ↔ IsEntry (events_in entry.items) entry.items
    → AreSoFar (are && is) more all
more_readable are is entry more all so_far here = (
  (λ both. so_far.0 ((and_true are is both.0).0, (here.0 (and_true are is both.0).1, both.1))),
  (λ whole. (both_true are is (so_far.1 whole).0 (here.1 (so_far.1 whole).1.0), (so_far.1 whole).1.1)),
)

pub all_readable : (are : Bool) (all : List (Vec ℕ Global)) → AreSoFar are [] all → IsTrue are ↔ AreReadable all
all_readable are all so_far = ((λ yes. so_far.0 (yes, tt)), (λ whole. (so_far.1 whole).0))

-- ---- the end of a file

is_one : (n : ℕ) → (n == 1) ≡ false → n ≢ 1
is_one n test one = grind (arith, nat_tests)

not_one : (n : ℕ) → n ≢ 1 → (n == 1) ≡ false
not_one n apart = grind (arith, nat_tests)

shut_if : (begun whole closed : Bool) → IsTrue (may_end (if begun then (if whole then Damaged else CutShort) else (if closed then Closed else Torn))) ↔ (begun ≡ false)
shut_if true true closed = ((λ yes. absurd (cc yes)), (λ no. absurd (cc no)))
shut_if true false closed = ((λ yes. absurd (cc yes)), (λ no. absurd (cc no)))
shut_if false whole true = ((λ yes. refl), (λ no. refl))
shut_if false whole false = ((λ yes. refl), (λ no. refl))

shut : (bytes : List ℕ) → IsTrue (may_end (tail_of bytes)) ↔ (gate bytes ≢ 1)
shut bytes =
    let by = shut_if (gate bytes == 1) (nat_le (9 + stored_length bytes) (length bytes)) (gate bytes == 0 && length bytes == 1) in
    ((λ yes. is_one (gate bytes) (by.0 yes)), (λ apart. by.1 (not_one (gate bytes) apart)))

are_mapped : (all : List (Vec ℕ Global)) → AreReadable all ↔ AllByRecursion (λ (e : List ℕ). IsEntry (events_in e) e) (map (λ (v : Vec ℕ Global). v.items) all)
are_mapped [] = ((λ are. are), (λ are. are))
are_mapped (v ∷ all) =
    ((λ are. (are.0, (are_mapped all).0 are.1)), (λ are. (are.0, (are_mapped all).1 are.1)))

pub may_be_left : (all : List (Vec ℕ Global)) (file : List ℕ) (are : Bool) (tail : Tail) → map (λ (v : Vec ℕ Global). v.items) all ≡ entries file → tail ≡ tail_of (rest file)
    → IsTrue are ↔ AreReadable all → IsTrue (are && may_end tail) ↔ MayBeLeft file
may_be_left all file are tail items tail_is readable_is =
    let Readable : List (List ℕ) → Type 0 = AllByRecursion (λ (e : List ℕ). IsEntry (events_in e) e) in (
      (λ yes.
          let both = and_true are (may_end tail) yes in (
            subst Readable items ((are_mapped all).0 (readable_is.0 both.0)),
            (shut (rest file)).0 (subst (λ (t : Tail). IsTrue (may_end t)) tail_is both.1),
          )),
      (λ left.
          both_true are (may_end tail) (readable_is.1 ((are_mapped all).1 (subst Readable (sym items) left.0)))
          (subst (λ (t : Tail). IsTrue (may_end t)) (sym tail_is) ((shut (rest file)).1 left.1))),
    )
