-- The rows of a store, client by client, as one list.
use Rattle.std.proofs.Common.{◌≡◌, ℕ, Bool, true, false, ◌&&◌, cond, eqb, T, List, [], ◌∷◌, ◌++◌, length, Option, Some, None, MatchOption, IsSome, IsTrue, refl, sym, ap, ◌∙◌, arith}
use Rattle.std.specs.BTreeMap.{BTreeMap, insert_entry}
use Rattle.std.specs.Cmp.Lexicographic.{slice_cmp}
use Rattle.std.specs.FinMap.{find, is_sorted, nat_cmp-IsAntisymmetric}
use Rattle.std.specs.FinMap.Entries.{below_all}
use Rattle.std.specs.List.Sorted.{IsStrictlySortedBy}
use Rattle.std.specs.Map.{keys_of, lookup, remove_entry, set_value}
use Rattle.std.specs.Option.{option_map_or, option_or}
use Rattle.std.specs.Ordering.{is_eq, is_lt, match_ordering, nat_cmp, ordering_then}
use Rattle.std.specs.declared.cmp.Ordering.{Ordering}
use Rattle.std.specs.declared.cmp.Ordering.TheVariants.{Equal, Greater, Less}
use Rattle.std.proofs.lemmas.Cmp.{eq_by_cmp_equiv, nat_cmp_total, nat_list_cmp_total, tied_itself}
use Rattle.mq_topic.specs.ClientRows.{AreClientRows, FiltersAscend, own_rows, rows_of}
use Rattle.mq_topic.specs.Rows.{IsAscending, Row, is_key, key_cmp, row_qos, with_row, without_client, without_row}
use Rattle.mq_topic.specs.declared.qos.Qos.{Qos}
use Rattle.mq_topic.specs.declared.qos.Qos.TheVariants.{Q0}
use Rattle.mq_topic.proofs.Gathering.{ordered-sorted}
use Rattle.mq_topic.proofs.Keys.{nat_ties}
use Rattle.mq_topic.proofs.Nodes.{is_client}
use Rattle.mq_topic.proofs.Placing.{T-true, find-lookup, first, less, second, true-T}
use Rattle.mq_topic.proofs.StoreFacts.{store_facts}
use Rattle.mq_topic.proofs.Storing.{ascending-with_row, ascending-without_client, ascending-without_row}

abbrev pub Own : Type 0
Own = BTreeMap (List ℕ) Qos

abbrev pub is_filter : List ℕ → List ℕ → Bool
is_filter f g = is_eq (slice_cmp nat_cmp f g)

-- the QoS of a client's filter, in the client's own rows
abbrev pub own_qos : ℕ → List ℕ → List (ℕ × Own) → Option Qos
own_qos c f es = option_map_or (λ (own : Own). lookup (is_filter f) own.entries) (lookup (is_client c) es) None

-- ---- look-ups

eq-then : (r s : Ordering) → is_eq (ordering_then r s) ≡ (is_eq r && is_eq s)
eq-then Less s = refl
eq-then Equal s = refl
eq-then Greater s = refl

own-by : (a b : Bool) (v : Qos) (rest : Option Qos) → cond (a && b) (Some v) (cond a rest None) ≡ cond a (cond b (Some v) rest) None
own-by true b v rest = refl
own-by false b v rest = refl

no_row : (b : Bool) → let none : Option Qos = None in none ≡ cond b None None
no_row true = refl
no_row false = refl

find_own : (c : ℕ) (f : List ℕ) (d : ℕ) (es : List (List ℕ × Qos)) → find key_cmp (c, f) (own_rows d es) ≡ cond (is_client c d) (lookup (is_filter f) es) None
find_own c f d [] = no_row (is_client c d)
find_own c f d (e ∷ es) =
    let test : is_eq (key_cmp (c, f) (d, e.0)) ≡ (is_client c d && is_filter f e.0) = eq-then (nat_cmp c d) (slice_cmp nat_cmp f e.0) in
    let rest : find key_cmp (c, f) (own_rows d es) ≡ cond (is_client c d) (lookup (is_filter f) es) None = find_own c f d es in
    let parts : find key_cmp (c, f) (own_rows d (e ∷ es)) ≡ cond (is_client c d && is_filter f e.0) (Some e.1) (cond (is_client c d) (lookup (is_filter f) es) None) = λ i. cond (test i) (Some e.1) (rest i) in
    parts ∙ own-by (is_client c d) (is_filter f e.0) e.1 (lookup (is_filter f) es)

find_append : (c : ℕ) (f : List ℕ) (xs ys : List Row) → find key_cmp (c, f) (xs ++ ys) ≡ option_or (find key_cmp (c, f) xs) (find key_cmp (c, f) ys)
find_append c f [] ys = refl
find_append c f (x ∷ xs) ys = ap (cond (is_eq (key_cmp (c, f) x.0)) (Some x.1)) (find_append c f xs ys) ∙ by_test (is_eq (key_cmp (c, f) x.0))
  where
    by_test : (b : Bool) → cond b (Some x.1) (option_or (find key_cmp (c, f) xs) (find key_cmp (c, f) ys)) ≡ option_or (cond b (Some x.1) (find key_cmp (c, f) xs)) (find key_cmp (c, f) ys)
    by_test true = refl
    by_test false = refl

-- a client below all is none of them
absent : (c d : ℕ) (es : List (ℕ × Own)) → is_client c d ≡ true → T (below_all nat_cmp d es) → lookup (is_client c) es ≡ None
absent c d [] e h = refl
absent c d (x ∷ es) e h =
    let lt : nat_cmp d x.0 ≡ Less = less (nat_cmp d x.0) (first (is_lt (nat_cmp d x.0)) (below_all nat_cmp d es) h) in
    let tie : nat_cmp c d ≡ Equal = equal (nat_cmp c d) e in
    let same : nat_cmp c x.0 ≡ Less = ap (λ k. nat_cmp k x.0) (unsigned_equal c d tie) ∙ lt in
    ap (λ b. cond b (Some x.1) (lookup (is_client c) es)) (ap is_eq same) ∙ absent c d es e (second (is_lt (nat_cmp d x.0)) (below_all nat_cmp d es) h)
  where
    equal : (r : Ordering) → is_eq r ≡ true → r ≡ Equal
    equal Less e = absurd cc
    equal Equal e = refl
    equal Greater e = absurd cc

    unsigned_equal : (a b : ℕ) → nat_cmp a b ≡ Equal → a ≡ b
    unsigned_equal = nat_cmp-IsAntisymmetric

option_or-none : (o : Option Qos) → option_or o None ≡ o
option_or-none None = refl
option_or-none (Some q) = refl

qos-by : (c : ℕ) (f : List ℕ) (e : ℕ × Own) (es : List (ℕ × Own)) (b : Bool) → is_client c e.0 ≡ b → T (is_sorted nat_cmp (e ∷ es))
    → option_or (cond b (lookup (is_filter f) e.1.entries) None) (own_qos c f es) ≡ option_map_or (λ (own : Own). lookup (is_filter f) own.entries) (cond b (Some e.1) (lookup (is_client c) es)) None
qos-by c f e es false test s = refl
qos-by c f e es true test s =
    ap (λ o. option_or (lookup (is_filter f) e.1.entries) (option_map_or (λ (own : Own). lookup (is_filter f) own.entries) o None)) (absent c e.0 es test (first (below_all nat_cmp e.0 es) (is_sorted nat_cmp es) s))
    ∙ option_or-none (lookup (is_filter f) e.1.entries)

pub rows_qos : (c : ℕ) (f : List ℕ) (es : List (ℕ × Own)) → T (is_sorted nat_cmp es) → row_qos c f (rows_of es) ≡ own_qos c f es
rows_qos c f [] s = refl
rows_qos c f (e ∷ es) s =
    find_append c f (own_rows e.0 e.1.entries) (rows_of es)
    ∙ (λ i. option_or (find_own c f e.0 e.1.entries i) (rows_qos c f es (second (below_all nat_cmp e.0 es) (is_sorted nat_cmp es) s) i))
    ∙ qos-by c f e es (is_client c e.0) refl s

-- ---- the order

both : (a b : Bool) → T a → T b → T (a && b)
both true b p q = q
both false b p q = p

below_append : (k : ℕ × List ℕ) (xs ys : List Row) → T (below_all key_cmp k xs) → T (below_all key_cmp k ys) → T (below_all key_cmp k (xs ++ ys))
below_append k [] ys h g = g
below_append k (x ∷ xs) ys h g =
    both (is_lt (key_cmp k x.0)) (below_all key_cmp k (xs ++ ys)) (first (is_lt (key_cmp k x.0)) (below_all key_cmp k xs) h)
    (below_append k xs ys (second (is_lt (key_cmp k x.0)) (below_all key_cmp k xs) h) g)

below_own : (c : ℕ) (f : List ℕ) (d : ℕ) (es : List (List ℕ × Qos)) → nat_cmp c d ≡ Less → T (below_all key_cmp (c, f) (own_rows d es))
below_own c f d [] e = tt
below_own c f d (x ∷ es) e =
    both (is_lt (key_cmp (c, f) (d, x.0))) (below_all key_cmp (c, f) (own_rows d es)) (T-true (is_lt (key_cmp (c, f) (d, x.0))) (ap (λ r. is_lt (ordering_then r (slice_cmp nat_cmp f x.0))) e)) (below_own c f d es e)

below_rows : (c : ℕ) (f : List ℕ) (es : List (ℕ × Own)) → T (below_all nat_cmp c es) → T (below_all key_cmp (c, f) (rows_of es))
below_rows c f [] h = tt
below_rows c f (e ∷ es) h =
    below_append (c, f) (own_rows e.0 e.1.entries) (rows_of es)
    (below_own c f e.0 e.1.entries (less (nat_cmp c e.0) (first (is_lt (nat_cmp c e.0)) (below_all nat_cmp c es) h)))
    (below_rows c f es (second (is_lt (nat_cmp c e.0)) (below_all nat_cmp c es) h))

below_later : (d : ℕ) (f : List ℕ) (es : List (List ℕ × Qos)) → T (below_all (slice_cmp nat_cmp) f es) → T (below_all key_cmp (d, f) (own_rows d es))
below_later d f [] h = tt
below_later d f (x ∷ es) h =
    both (is_lt (key_cmp (d, f) (d, x.0))) (below_all key_cmp (d, f) (own_rows d es))
    (T-true (is_lt (key_cmp (d, f) (d, x.0)))
    (ap (λ r. is_lt (ordering_then r (slice_cmp nat_cmp f x.0))) (tied_itself nat_cmp_total d)
    ∙ true-T (is_lt (slice_cmp nat_cmp f x.0)) (first (is_lt (slice_cmp nat_cmp f x.0)) (below_all (slice_cmp nat_cmp) f es) h)))
    (below_later d f es (second (is_lt (slice_cmp nat_cmp f x.0)) (below_all (slice_cmp nat_cmp) f es) h))

sorted_before : (d : ℕ) (es : List (List ℕ × Qos)) (ys : List Row) → T (is_sorted (slice_cmp nat_cmp) es) → T (is_sorted key_cmp ys) → ((f : List ℕ) → T (below_all key_cmp (d, f) ys)) → T (is_sorted key_cmp (own_rows d es ++ ys))
sorted_before d [] ys s t h = t
sorted_before d (e ∷ es) ys s t h =
    both (below_all key_cmp (d, e.0) (own_rows d es ++ ys)) (is_sorted key_cmp (own_rows d es ++ ys))
    (below_append (d, e.0) (own_rows d es) ys (below_later d e.0 es (first (below_all (slice_cmp nat_cmp) e.0 es) (is_sorted (slice_cmp nat_cmp) es) s)) (h e.0))
    (sorted_before d es ys (second (below_all (slice_cmp nat_cmp) e.0 es) (is_sorted (slice_cmp nat_cmp) es) s) t h)

sorted_rows : (es : List (ℕ × Own)) → T (is_sorted nat_cmp es) → FiltersAscend es → T (is_sorted key_cmp (rows_of es))
sorted_rows [] s h = tt
sorted_rows (e ∷ es) s h =
    sorted_before e.0 e.1.entries (rows_of es) (T-true _ h.0) (sorted_rows es (second (below_all nat_cmp e.0 es) (is_sorted nat_cmp es) s) h.1)
    (λ f. below_rows e.0 f es (first (below_all nat_cmp e.0 es) (is_sorted nat_cmp es) s))

pub ascending : (es : List (ℕ × Own)) → AreClientRows es → IsAscending (rows_of es)
ascending es h = true-T _ (sorted_rows es (T-true _ h.clients) h.filters)

-- rows with the same QoS for each client and filter are the same
pub by_qos : (es : List (ℕ × Own)) → AreClientRows es → (rows : List Row) → IsAscending rows → ((c : ℕ) (f : List ℕ) → own_qos c f es ≡ row_qos c f rows) → rows_of es ≡ rows
by_qos es h rows s same = store_facts.one_list (rows_of es) rows (ascending es h) s (λ c f. rows_qos c f es (T-true _ h.clients) ∙ same c f)

-- ---- Changes

inner : Option Own → List ℕ → Option Qos
inner o g = option_map_or (λ (own : Own). lookup (is_filter g) own.entries) o None

pub key_parts : (d : ℕ) (g : List ℕ) (c : ℕ) (f : List ℕ) → is_key d g (c, f) ≡ (is_client c d && is_filter f g)
key_parts d g c f =
    eq-then (nat_cmp d c) (slice_cmp nat_cmp g f)
    ∙ (λ i. (eq_by_cmp_equiv nat_cmp_total).symm d c i && (eq_by_cmp_equiv nat_list_cmp_total).symm g f i)

pub equal_number : (c d : ℕ) → is_client c d ≡ true → c ≡ d
equal_number c d e = nat_cmp-IsAntisymmetric c d (equal (nat_cmp c d) e)
  where
    equal : (r : Ordering) → is_eq r ≡ true → r ≡ Equal
    equal Less e = absurd cc
    equal Equal e = refl
    equal Greater e = absurd cc

module _ (c : ℕ) (f : List ℕ) (q : Option Qos) (old new : List (ℕ × Own)) (o : Option Own)
    (clients : (d : ℕ) → lookup (is_client d) new ≡ cond (is_client c d) o (lookup (is_client d) old))
    (filters : (g : List ℕ) → inner o g ≡ cond (is_filter f g) q (inner (lookup (is_client c) old) g)) where
  changed-by : (d : ℕ) (g : List ℕ) (same : Bool) → is_client c d ≡ same → inner (cond same o (lookup (is_client d) old)) g ≡ cond (same && is_filter f g) q (inner (lookup (is_client d) old) g)
  changed-by d g true e = filters g ∙ ap (λ x. cond (is_filter f g) q (inner (lookup (is_client x) old) g)) (equal_number c d e)
  changed-by d g false e = refl

  changed : (d : ℕ) (g : List ℕ) → own_qos d g new ≡ cond (is_key d g (c, f)) q (own_qos d g old)
  unfolding inner
  changed d g =
      ap (λ x. inner x g) (clients d) ∙ changed-by d g (is_client c d) refl ∙ ap (λ b. cond b q (own_qos d g old)) (sym (key_parts d g c f))

pub set_rows : (c : ℕ) (f : List ℕ) (q : Qos) (old new : List (ℕ × Own)) (own : Own) → AreClientRows old → AreClientRows new
    → ((d : ℕ) → lookup (is_client d) new ≡ cond (is_client c d) (Some own) (lookup (is_client d) old))
    → ((g : List ℕ) → lookup (is_filter g) own.entries ≡ cond (is_filter f g) (Some q) (option_map_or (λ (x : Own). lookup (is_filter g) x.entries) (lookup (is_client c) old) None))
    → rows_of new ≡ with_row c f q (rows_of old)
unfolding inner
set_rows c f q old new own h k clients filters =
    by_qos new k (with_row c f q (rows_of old)) (ascending-with_row c f q (rows_of old) (ascending old h))
    (λ d g. changed c f (Some q) old new (Some own) clients filters d g ∙ ap (cond (is_key d g (c, f)) (Some q)) (sym (rows_qos d g old (T-true _ h.clients))) ∙ sym (store_facts.set c f q (rows_of old) d g))

pub remove_rows : (c : ℕ) (f : List ℕ) (old new : List (ℕ × Own)) (o : Option Own) → AreClientRows old → AreClientRows new
    → ((d : ℕ) → lookup (is_client d) new ≡ cond (is_client c d) o (lookup (is_client d) old))
    → ((g : List ℕ) → option_map_or (λ (x : Own). lookup (is_filter g) x.entries) o None ≡ cond (is_filter f g) None (option_map_or (λ (x : Own). lookup (is_filter g) x.entries) (lookup (is_client c) old) None))
    → rows_of new ≡ without_row c f (rows_of old)
unfolding inner
remove_rows c f old new o h k clients filters =
    by_qos new k (without_row c f (rows_of old)) (ascending-without_row c f (rows_of old) (ascending old h))
    (λ d g. changed c f None old new o clients filters d g ∙ ap (cond (is_key d g (c, f)) None) (sym (rows_qos d g old (T-true _ h.clients))) ∙ sym (store_facts.removed c f (rows_of old) d g))

drop-by : (d : ℕ) (g : List ℕ) (old : List (ℕ × Own)) (b : Bool) → option_map_or (λ (x : Own). lookup (is_filter g) x.entries) (cond b None (lookup (is_client d) old)) None ≡ cond b None (own_qos d g old)
drop-by d g old true = refl
drop-by d g old false = refl

pub drop_rows : (c : ℕ) (old new : List (ℕ × Own)) → AreClientRows old → AreClientRows new
    → ((d : ℕ) → lookup (is_client d) new ≡ cond (is_client c d) None (lookup (is_client d) old)) → rows_of new ≡ without_client c (rows_of old)
drop_rows c old new h k clients =
    by_qos new k (without_client c (rows_of old)) (ascending-without_client c (rows_of old) (ascending old h))
    (λ d g.
    let number : is_client c d ≡ eqb d c = (eq_by_cmp_equiv nat_cmp_total).symm c d ∙ sym (nat_ties d c) in
    ap (λ o. option_map_or (λ (x : Own). lookup (is_filter g) x.entries) o None) (clients d)
    ∙ drop-by d g old (is_client c d)
    ∙ ap (λ b. cond b None (own_qos d g old)) number
    ∙ ap (cond (eqb d c) None) (sym (rows_qos d g old (T-true _ h.clients)))
    ∙ sym (store_facts.removed_client c (rows_of old) d g))

-- ---- each client's filters still ascend

set-by : (e : ℕ × Own) (es set : List (ℕ × Own)) (own : Own) → FiltersAscend (e ∷ es) → IsTrue (is_sorted (slice_cmp nat_cmp) own.entries) → FiltersAscend set → (b : Bool) → FiltersAscend (cond b ((e.0, own) ∷ es) (e ∷ set))
set-by e es set own h g rest true = (g, h.1)
set-by e es set own h g rest false = (h.0, rest)

pub filters_set : (test : ℕ → Bool) (es : List (ℕ × Own)) (own : Own) → FiltersAscend es → IsTrue (is_sorted (slice_cmp nat_cmp) own.entries) → FiltersAscend (set_value test es own)
filters_set test [] own h g = tt
filters_set test (e ∷ es) own h g = set-by e es (set_value test es own) own h g (filters_set test es own h.1 g) (test e.0)

insert-by : (e : ℕ × Own) (es inserted : List (ℕ × Own)) (c : ℕ) (own : Own) → FiltersAscend (e ∷ es) → IsTrue (is_sorted (slice_cmp nat_cmp) own.entries) → FiltersAscend inserted
    → (r : Ordering) → FiltersAscend (match_ordering r ((c, own) ∷ e ∷ es) ((e.0, own) ∷ es) (e ∷ inserted))
insert-by e es inserted c own h g rest Less = (g, h)
insert-by e es inserted c own h g rest Equal = (g, h.1)
insert-by e es inserted c own h g rest Greater = (h.0, rest)

pub filters_insert : (es : List (ℕ × Own)) (c : ℕ) (own : Own) → FiltersAscend es → IsTrue (is_sorted (slice_cmp nat_cmp) own.entries) → FiltersAscend (insert_entry nat_cmp es c own)
filters_insert [] c own h g = (g, tt)
filters_insert (e ∷ es) c own h g = insert-by e es (insert_entry nat_cmp es c own) c own h g (filters_insert es c own h.1 g) (nat_cmp c e.0)

removed-by : (e : ℕ × Own) (es removed : List (ℕ × Own)) → FiltersAscend (e ∷ es) → FiltersAscend removed → (b : Bool) → FiltersAscend (cond b es (e ∷ removed))
removed-by e es removed h rest true = h.1
removed-by e es removed h rest false = (h.0, rest)

pub filters_removed : (test : ℕ → Bool) (es : List (ℕ × Own)) → FiltersAscend es → FiltersAscend (remove_entry test es)
filters_removed test [] h = tt
filters_removed test (e ∷ es) h = removed-by e es (remove_entry test es) h (filters_removed test es h.1) (test e.0)

pub clients_ascend : (es : List (ℕ × Own)) → IsStrictlySortedBy nat_cmp (keys_of es) → IsTrue (is_sorted nat_cmp es)
clients_ascend es h = true-T _ (ordered-sorted nat_cmp es h)

pub filters_ascend : (es : List (List ℕ × Qos)) → IsStrictlySortedBy (slice_cmp nat_cmp) (keys_of es) → IsTrue (is_sorted (slice_cmp nat_cmp) es)
filters_ascend es h = true-T _ (ordered-sorted (slice_cmp nat_cmp) es h)

-- a client's own rows
pub own_given : (c : ℕ) (es : List (ℕ × Own)) (rows : List Row) (o : Option Own) → AreClientRows es → rows_of es ≡ rows → o ≡ lookup (is_client c) es
    → MatchOption o ((f : List ℕ) → row_qos c f rows ≡ None) (λ own. (f : List ℕ) → row_qos c f rows ≡ find (slice_cmp nat_cmp) f own.entries)
own_given c es rows None h view e = λ f.
    ap (row_qos c f) (sym view) ∙ rows_qos c f es (T-true _ h.clients) ∙ ap (λ (o : Option Own). option_map_or (λ (own : Own). lookup (is_filter f) own.entries) o None) (sym e)
own_given c es rows (Some own) h view e = λ f.
    ap (row_qos c f) (sym view) ∙ rows_qos c f es (T-true _ h.clients) ∙ ap (λ (o : Option Own). option_map_or (λ (own : Own). lookup (is_filter f) own.entries) o None) (sym e)
    ∙ sym (find-lookup (slice_cmp nat_cmp) nat_list_cmp_total f Q0 is_filter (λ g. refl) own.entries)

-- ---- the maps of the program

-- the maps after a client's own one was written
pub written_rows : (c : ℕ) (old new : List (ℕ × Own)) (own : Own) → AreClientRows old → new ≡ set_value (is_client c) old own → IsStrictlySortedBy nat_cmp (keys_of new) → IsStrictlySortedBy (slice_cmp nat_cmp) (keys_of own.entries) → AreClientRows new
written_rows c old new own h e ordered sorted = record {
  clients = clients_ascend new ordered;
  filters = rw e (filters_set (is_client c) old own h.filters (filters_ascend own.entries sorted));
}

pub removed_rows : (c : ℕ) (old new : List (ℕ × Own)) → AreClientRows old → new ≡ remove_entry (is_client c) old → IsStrictlySortedBy nat_cmp (keys_of new) → AreClientRows new
removed_rows c old new h e ordered = record {
  clients = clients_ascend new ordered;
  filters = rw e (filters_removed (is_client c) old h.filters);
}

pub inserted_rows : (c : ℕ) (old new : List (ℕ × Own)) (own : Own) → AreClientRows old → new ≡ insert_entry nat_cmp old c own → IsStrictlySortedBy nat_cmp (keys_of new) → IsStrictlySortedBy (slice_cmp nat_cmp) (keys_of own.entries) → AreClientRows new
inserted_rows c old new own h e ordered sorted = record {
  clients = clients_ascend new ordered;
  filters = rw e (filters_insert old c own h.filters (filters_ascend own.entries sorted));
}

-- A client's own map agrees with the map of all clients.
pub own_is : (c : ℕ) (f : List ℕ) (q : Option Qos) (old : List (ℕ × Own)) (own : Own) (look : List ℕ → Option Qos) → Some own ≡ lookup (is_client c) old
    → ((g : List ℕ) → look g ≡ cond (is_filter f g) q (lookup (is_filter g) own.entries))
    → (g : List ℕ) → look g ≡ cond (is_filter f g) q (option_map_or (λ (x : Own). lookup (is_filter g) x.entries) (lookup (is_client c) old) None)
own_is c f q old own look v h g = h g ∙ ap (λ (o : Option Own). cond (is_filter f g) q (option_map_or (λ (x : Own). lookup (is_filter g) x.entries) o None)) v

pub none_is : (c : ℕ) (f : List ℕ) (q : Option Qos) (old : List (ℕ × Own)) (look : List ℕ → Option Qos) → None ≡ lookup (is_client c) old
    → ((g : List ℕ) → look g ≡ cond (is_filter f g) q None)
    → (g : List ℕ) → look g ≡ cond (is_filter f g) q (option_map_or (λ (x : Own). lookup (is_filter g) x.entries) (lookup (is_client c) old) None)
none_is c f q old look v h g = h g ∙ ap (λ (o : Option Own). cond (is_filter f g) q (option_map_or (λ (x : Own). lookup (is_filter g) x.entries) o None)) v

-- a client that has no map
pub absent_client : (c : ℕ) (old : List (ℕ × Own)) → None ≡ lookup (is_client c) old → (d : ℕ) → lookup (is_client d) old ≡ cond (is_client c d) None (lookup (is_client d) old)
absent_client c old none d = by_test (is_client c d) refl
  where
    by_test : (b : Bool) → is_client c d ≡ b → lookup (is_client d) old ≡ cond b None (lookup (is_client d) old)
    by_test true e = ap (λ x. lookup (is_client x) old) (sym (equal_number c d e)) ∙ sym none
    by_test false e = refl

pub twice : (b : Bool) (x y : Option Own) → cond b None (cond b x y) ≡ cond b None y
twice true x y = refl
twice false x y = refl

pub nothing_twice : (b : Bool) → let none : Option Qos = None in none ≡ cond b None none
nothing_twice true = refl
nothing_twice false = refl

pub empty_own : (es : List (List ℕ × Qos)) → length es ≡ 0 → (g : List ℕ) → None ≡ lookup (is_filter g) es
empty_own [] e g = refl
empty_own (x ∷ es) e g = absurd (omega arith)

-- the same rows in the same maps
pub same_rows : (c : ℕ) (old new : List (ℕ × Own)) (own later : Own) → AreClientRows old → AreClientRows new → Some own ≡ lookup (is_client c) old → later.entries ≡ own.entries
    → ((d : ℕ) → lookup (is_client d) new ≡ cond (is_client c d) (Some later) (lookup (is_client d) old)) → rows_of new ≡ rows_of old
same_rows c old new own later h k v same clients =
    by_qos new k (rows_of old) (ascending old h)
    (λ d g. ap (λ o. option_map_or (λ (x : Own). lookup (is_filter g) x.entries) o None) (clients d) ∙ by_test d g (is_client c d) refl ∙ sym (rows_qos d g old (T-true _ h.clients)))
  where
    by_test : (d : ℕ) (g : List ℕ) (b : Bool) → is_client c d ≡ b → option_map_or (λ (x : Own). lookup (is_filter g) x.entries) (cond b (Some later) (lookup (is_client d) old)) None ≡ own_qos d g old
    by_test d g true e = ap (lookup (is_filter g)) same ∙ ap (λ (o : Option Own). option_map_or (λ (x : Own). lookup (is_filter g) x.entries) o None) v ∙ ap (λ x. own_qos x g old) (equal_number c d e)
    by_test d g false e = refl

pub some_own : (o : Option Own) (own : Own) → Some own ≡ o → IsSome o
some_own None own e = absurd cc
some_own (Some x) own e = refl

pub clients_in_order : (es : List (ℕ × Qos)) → IsStrictlySortedBy nat_cmp (keys_of es) → IsTrue (is_sorted nat_cmp es)
clients_in_order es h = true-T _ (ordered-sorted nat_cmp es h)
