-- The calls of the parts of a round, one after another.
use Rattle.std.proofs.Common.{◌≡◌, ◌+◌, ◌<◌, ◌≤◌, ℕ, zero, suc, add-one, Bool, true, false, cond, List, [], ◌∷◌, ◌++◌, length, map, set, drop, drop-cons, is_some, Option, Some, None, true≢false, append_assoc, append-nil, refl, sym, ap, subst, ◌∙◌, arith}
use Rattle.std.proofs.lemmas.List.{get_or-set_other}
use Rattle.std.specs.Prelude.{slice_index_or}
use Rattle.mq_route.specs.declared.event.HubEvent.{HubEvent}
use Rattle.mq_route.specs.declared.event.HubEvent.TheVariants.{Opened, Bytes, Ended, Tick, Collect}
use Rattle.mq_route.specs.declared.reply.HubReply.{HubReply}
use Rattle.mq_loop.specs.declared.turns.Turn.{Turn}
use Rattle.mq_loop.specs.Accounts.{Line, name_at}
use Rattle.mq_loop.specs.Brokers.{is_input}
use Rattle.mq_loop.specs.Calls.{Ages, AreCollects, Call, Collecting, Each, IsAscending, IsCovered, IsRound, Reads, age_at, ages_read, commit, places_in, places_read, step, with_calls}
use Rattle.mq_loop.specs.Inside.Calls.{Quietly, ReadsOf}
use Rattle.mq_loop.specs.Rounds.{exists_at}
use Rattle.mq_loop.proofs.Outputs.{output_same}
use Rattle.mq_loop.specs.Inside.Turns.{AtLeast, Below, HeardSo, IsOldestFirst}

-- ---- lists of calls

pub more_none : (o : Option (List Call)) → o ≡ with_calls o []
more_none None = refl
more_none (Some calls) = ap Some (sym (append-nil calls))

pub more_twice : (o : Option (List Call)) (a b : List Call) → with_calls (with_calls o a) b ≡ with_calls o (a ++ b)
more_twice None a b = refl
more_twice (Some calls) a b = ap Some (append_assoc calls a b)

-- one call after another
grown : (x y z : Option (List Call)) (a b : List Call) → y ≡ with_calls x a → z ≡ with_calls y b → z ≡ with_calls x (a ++ b)
grown x y z a b first then = then ∙ (ap (λ (o : Option (List Call)). with_calls o b) first ∙ more_twice x a b)

weaker_rest : (calls : List Call) (p q b : Bool) → (IsCovered p calls → IsCovered q calls) → IsCovered (cond b false p) calls → IsCovered (cond b false q) calls
weaker_rest calls p q true rest h = h
weaker_rest calls p q false rest h = rest h

weaker : (calls : List Call) (p q : Bool) → (p ≡ true → q ≡ true) → IsCovered p calls → IsCovered q calls
weaker [] p q so c = tt
weaker (None ∷ calls) p q so c = c
weaker (Some s ∷ calls) p q so c = (λ e. so (c.0 e), weaker_rest calls p q (is_input s.event) (λ h. weaker calls p q so h) c.1)

covered_then : (a b : List Call) (p : Bool) → IsCovered p a → IsCovered false b → IsCovered p (a ++ b)
covered_then [] b p first then = weaker b false p (λ e. absurd (true≢false (sym e))) then
covered_then (None ∷ a) b p first then = covered_then a b true first then
covered_then (Some s ∷ a) b p first then = (first.0, covered_then a b (cond (is_input s.event) false p) first.1 then)

read_then : (a b : List Call) → places_read (a ++ b) ≡ places_read a ++ places_read b
read_then [] b = refl
read_then (None ∷ a) b = read_then a b
read_then (Some s ∷ a) b =
    ap (λ (l : List ℕ). places_in s.event ++ l) (read_then a b) ∙ sym (append_assoc (places_in s.event) (places_read a) (places_read b))

mapped : (f : ℕ → ℕ) (a b : List ℕ) → map f (a ++ b) ≡ map f a ++ map f b
mapped f [] b = refl
mapped f (n ∷ a) b = ap (λ (l : List ℕ). f n ∷ l) (mapped f a b)

ages_then : (ages : Ages) (a b : List Call) → ages_read ages (a ++ b) ≡ ages_read ages a ++ ages_read ages b
ages_then ages a b =
    ap (map (λ (place : ℕ). age_at place ages)) (read_then a b) ∙ mapped (λ (place : ℕ). age_at place ages) (places_read a) (places_read b)

each_then : (P : ℕ → Type 0) (a b : List ℕ) → Each P a → Each P b → Each P (a ++ b)
each_then P [] b first then = then
each_then P (n ∷ a) b first then = (first.0, each_then P a b first.1 then)

each_so : (P Q : ℕ → Type 0) (a : List ℕ) → ((n : ℕ) → P n → Q n) → Each P a → Each Q a
each_so P Q [] so h = tt
each_so P Q (n ∷ a) so h = (so n h.0, each_so P Q a so h.1)

each_mapped : (P Q : ℕ → Type 0) (f : ℕ → ℕ) (a : List ℕ) → ((n : ℕ) → P n → Q (f n)) → Each P a → Each Q (map f a)
each_mapped P Q f [] so h = tt
each_mapped P Q f (n ∷ a) so h = (so n h.0, each_mapped P Q f a so h.1)

collects_then : (a b : List Call) → AreCollects a → AreCollects b → AreCollects (a ++ b)
collects_then [] b first then = then
collects_then (None ∷ a) b first then = absurd first
collects_then (Some s ∷ a) b first then = (first.0, collects_then a b first.1 then)

covered_rest : (a : List Call) (b : Bool) → b ≡ false → IsCovered true a → IsCovered (cond b false true) a
covered_rest a true e h = absurd (true≢false e)
covered_rest a false e h = h

collects_covered : (a : List Call) → AreCollects a → IsCovered true a
collects_covered [] h = tt
collects_covered (None ∷ a) h = absurd h
collects_covered (Some s ∷ a) h = (λ e. refl, covered_rest a (is_input s.event) h.0 (collects_covered a h.1))

no_place : (event : HubEvent) → is_input event ≡ false → places_in event ≡ []
no_place (Opened conn) e = refl
no_place (Bytes conn piece) e = absurd (true≢false e)
no_place (Ended conn) e = refl
no_place (Tick now) e = refl
no_place (Collect conn) e = refl

collects_nothing : (a : List Call) → AreCollects a → places_read a ≡ []
collects_nothing [] h = refl
collects_nothing (None ∷ a) h = absurd h
collects_nothing (Some s ∷ a) h = ap (λ (l : List ℕ). l ++ places_read a) (no_place s.event h.0) ∙ collects_nothing a h.1

-- ---- a connection is opened

pub opened_exists : (old new : List (Option Line)) (place : ℕ) (line : Line) → place < length old → new ≡ set old place (Some line) → exists_at place new ≡ true
opened_exists old new place line within is = ap (exists_at place) is ∙ ap is_some (output_same old place (Some line) within)

-- ---- output is collected

pub collecting_none : (x : Option (List Call)) → Collecting x x
collecting_none x = record { made = []; calls = more_none x; collects = tt }

pub collecting_same : (x y z w : Option (List Call)) → y ≡ x → Collecting y z → w ≡ z → Collecting x w
collecting_same x y z w before c after = record {
  made = c.made;
  calls = after ∙ (c.calls ∙ ap (λ (o : Option (List Call)). with_calls o c.made) before);
  collects = c.collects;
}

pub collecting_one : (x y : Option (List Call)) (place : ℕ) (reply : HubReply) → y ≡ with_calls x (step (Collect (name_at place)) reply ∷ []) → Collecting x y
collecting_one x y place reply e = record { made = step (Collect (name_at place)) reply ∷ []; calls = e; collects = (refl, tt) }

pub collecting_then : (x y z : Option (List Call)) → Collecting x y → Collecting y z → Collecting x z
collecting_then x y z c d = record {
  made = c.made ++ d.made;
  calls = grown x y z c.made d.made c.calls d.calls;
  collects = collects_then c.made d.made c.collects d.collects;
}

-- ---- no bytes are handled

pub quiet_none : (x : Option (List Call)) → Quietly x x
quiet_none x = record { made = []; calls = more_none x; covered = tt; nothing = refl }

pub quiet_same : (x y : Option (List Call)) → y ≡ x → Quietly x y
quiet_same x y e = record { made = []; calls = e ∙ more_none x; covered = tt; nothing = refl }

pub quiet_then : (x y z : Option (List Call)) → Quietly x y → Quietly y z → Quietly x z
quiet_then x y z a b = record {
  made = a.made ++ b.made;
  calls = grown x y z a.made b.made a.calls b.calls;
  covered = covered_then a.made b.made false a.covered b.covered;
  nothing = read_then a.made b.made ∙ (ap (λ (l : List ℕ). l ++ places_read b.made) a.nothing ∙ b.nothing);
}

pub quiet_tick : (x y : Option (List Call)) (now : ℕ) (reply : HubReply) → y ≡ with_calls x (step (Tick now) reply ∷ []) → Quietly x y
quiet_tick x y now reply e = record { made = step (Tick now) reply ∷ []; calls = e; covered = (λ h. absurd (true≢false h), tt); nothing = refl }

pub quiet_end : (x y : Option (List Call)) (place : ℕ) (reply : HubReply) → y ≡ with_calls x (step (Ended (name_at place)) reply ∷ []) → Quietly x y
quiet_end x y place reply e =
    record { made = step (Ended (name_at place)) reply ∷ []; calls = e; covered = (λ h. absurd (true≢false h), tt); nothing = refl }

-- output is collected after a commit
pub quiet_given : (x y z : Option (List Call)) → y ≡ with_calls x (commit ∷ []) → Collecting y z → Quietly x z
quiet_given x y z e c = record {
  made = commit ∷ c.made;
  calls = grown x y z (commit ∷ []) c.made e c.calls;
  covered = collects_covered c.made c.collects;
  nothing = collects_nothing c.made c.collects;
}

-- ---- bytes of one connection are handled

pub reads_none : (place : ℕ) (x : Option (List Call)) → Reads place x x
reads_none place x = record { made = []; calls = more_none x; covered = tt; there = tt }

pub reads_same : (place : ℕ) (x y : Option (List Call)) → y ≡ x → Reads place x y
reads_same place x y e = record { made = []; calls = e ∙ more_none x; covered = tt; there = tt }

pub reads_one : (place : ℕ) (x y : Option (List Call)) (piece : List ℕ) (reply : HubReply) → y ≡ with_calls x (step (Bytes (name_at place) piece) reply ∷ []) → Reads place x y
reads_one place x y piece reply e =
    record { made = step (Bytes (name_at place) piece) reply ∷ []; calls = e; covered = (λ h. absurd (true≢false h), tt); there = (refl, tt) }

pub of_none : (ages : Ages) (age : ℕ) (x : Option (List Call)) → ReadsOf ages age x x
of_none ages age x = record { made = []; calls = more_none x; covered = tt; aged = tt }

pub of_place : (ages : Ages) (age place : ℕ) (x y : Option (List Call)) → age_at place ages ≡ age → Reads place x y → ReadsOf ages age x y
of_place ages age place x y is r = record {
  made = r.made;
  calls = r.calls;
  covered = r.covered;
  aged = each_mapped (λ other. other ≡ place) (λ other. other ≡ age) (λ other. age_at other ages) (places_read r.made)
      (λ other same. ap (λ (p : ℕ). age_at p ages) same ∙ is) r.there;
}

pub of_then : (ages : Ages) (age : ℕ) (x y z : Option (List Call)) → ReadsOf ages age x y → ReadsOf ages age y z → ReadsOf ages age x z
of_then ages age x y z a b = record {
  made = a.made ++ b.made;
  calls = grown x y z a.made b.made a.calls b.calls;
  covered = covered_then a.made b.made false a.covered b.covered;
  aged = subst (Each (λ other. other ≡ age)) (sym (ages_then ages a.made b.made))
      (each_then (λ other. other ≡ age) (ages_read ages a.made) (ages_read ages b.made) a.aged b.aged);
}

-- ---- turns

ascending_then : (a b : List ℕ) (n : ℕ) → IsAscending a → Each (λ m. m ≤ n) a → Each (λ m. m ≡ n) b → IsAscending (a ++ b)
ascending_then [] [] n sorted below same = tt
ascending_then [] (m ∷ b) n sorted below same =
    (each_so (λ k. k ≡ n) (λ k. m ≤ k) b (λ k is. let e : m ≡ n = same.0 in omega (arith, is, e)) same.1, ascending_then [] b n tt tt same.1)
ascending_then (m ∷ a) b n sorted below same = (
  each_then (λ k. m ≤ k) a b sorted.0 (each_so (λ k. k ≡ n) (λ k. m ≤ k) b (λ k is. let e : m ≤ n = below.0 in omega (arith, is, e)) same),
  ascending_then a b n sorted.1 below.1 same,
)

tail_sorted : (t : Turn) (more : List Turn) → IsOldestFirst (t ∷ more) → IsOldestFirst more
tail_sorted t more sorted nth other within =
    let next : suc nth + 1 ≡ suc (nth + 1) = omega arith in
    subst (λ (n : ℕ). (slice_index_or more nth other).age ≤ (slice_index_or (t ∷ more) n other).age) next (sorted (suc nth) other (omega (arith, within)))

at_least_so : (a b : ℕ) (turns : List Turn) → a ≤ b → AtLeast b turns → AtLeast a turns
at_least_so a b [] le h = tt
at_least_so a b (t ∷ turns) le h = (let e : b ≤ t.age = h.0 in omega (arith, le, e), at_least_so a b turns le h.1)

least : (t : Turn) (more : List Turn) → IsOldestFirst (t ∷ more) → AtLeast t.age more
least t [] sorted = tt
least t (u ∷ more) sorted =
    let first : t.age ≤ u.age = sorted 0 t (omega arith) in
    (first, at_least_so t.age u.age more first (least u more (tail_sorted t (u ∷ more) sorted)))

below_then : (a b : List ℕ) (n : ℕ) (turns : List Turn) → Below a turns → Each (λ m. m ≡ n) b → AtLeast n turns → Below (a ++ b) turns
below_then a b n [] below same from = tt
below_then a b n (t ∷ turns) below same from = (
  each_then (λ m. m ≤ t.age) a b below.0 (each_so (λ m. m ≡ n) (λ m. m ≤ t.age) b (λ m is. let e : n ≤ t.age = from.0 in omega (arith, is, e)) same),
  below_then a b n turns below.1 same from.1,
)

below_none : (turns : List Turn) → Below [] turns
below_none [] = tt
below_none (t ∷ turns) = (tt, below_none turns)

pub heard_none : (ages : Ages) (turns : List Turn) (x : Option (List Call)) → HeardSo ages turns x x
heard_none ages turns x = record { made = []; calls = more_none x; covered = tt; oldest_first = tt; below = below_none turns }

heard_next : (ages : Ages) (t : Turn) (more : List Turn) (x y z : Option (List Call)) → IsOldestFirst (t ∷ more) → HeardSo ages (t ∷ more) x y → ReadsOf ages t.age y z
    → HeardSo ages more x z
heard_next ages t more x y z sorted h r = record {
  made = h.made ++ r.made;
  calls = grown x y z h.made r.made h.calls r.calls;
  covered = covered_then h.made r.made false h.covered r.covered;
  oldest_first = subst IsAscending (sym (ages_then ages h.made r.made)) (ascending_then (ages_read ages h.made) (ages_read ages r.made) t.age h.oldest_first h.below.0 r.aged);
  below = subst (λ (l : List ℕ). Below l more) (sym (ages_then ages h.made r.made))
      (below_then (ages_read ages h.made) (ages_read ages r.made) t.age more h.below.1 r.aged (least t more sorted));
}

pub heard_step : (ages : Ages) (t : Turn) (rest more : List Turn) (x y z : Option (List Call)) → rest ≡ t ∷ more → IsOldestFirst rest → HeardSo ages rest x y → ReadsOf ages t.age y z
    → HeardSo ages more x z
heard_step ages t rest more x y z is sorted h r =
    heard_next ages t more x y z (subst IsOldestFirst is sorted) (subst (λ (turns : List Turn). HeardSo ages turns x y) is h) r

pub sorted_step : (t : Turn) (rest more : List Turn) → rest ≡ t ∷ more → IsOldestFirst rest → IsOldestFirst more
sorted_step t rest more is sorted = tail_sorted t more (subst IsOldestFirst is sorted)

first_left : (turns : List Turn) (n : ℕ) (other : Turn) → n < length turns → drop n turns ≡ slice_index_or turns n other ∷ drop (n + 1) turns
first_left turns n other within =
    drop-cons turns n other within ∙ ap (λ (m : ℕ). slice_index_or turns n other ∷ drop m turns) (sym (add-one n))

pub sorted_at : (turns : List Turn) (n : ℕ) → n < length turns → IsOldestFirst (drop n turns) → IsOldestFirst (drop (n + 1) turns)
sorted_at turns n within sorted =
    let other : Turn = record { age = 0; place = 0 } in
    sorted_step (slice_index_or turns n other) (drop n turns) (drop (n + 1) turns) (first_left turns n other within) sorted

pub heard_at : (ages : Ages) (turns : List Turn) (n : ℕ) (other : Turn) (x y z : Option (List Call)) → n < length turns → IsOldestFirst (drop n turns)
    → HeardSo ages (drop n turns) x y → ReadsOf ages (slice_index_or turns n other).age y z → HeardSo ages (drop (n + 1) turns) x z
heard_at ages turns n other x y z within sorted h r =
    heard_step ages (slice_index_or turns n other) (drop n turns) (drop (n + 1) turns) x y z (first_left turns n other within) sorted h r

-- ---- rounds

pub round_none : (ages : Ages) (x : Option (List Call)) → IsRound ages x x
round_none ages x = record { made = []; calls = more_none x; covered = tt; oldest_first = tt }

pub round_heard : (ages : Ages) (turns : List Turn) (x y : Option (List Call)) → HeardSo ages turns x y → IsRound ages x y
round_heard ages turns x y h = record { made = h.made; calls = h.calls; covered = h.covered; oldest_first = h.oldest_first }

pub round_of : (ages : Ages) (x y z w : Option (List Call)) → Quietly x y → IsRound ages y z → Quietly z w → IsRound ages x w
round_of ages x y z w a r b = record {
  made = (a.made ++ r.made) ++ b.made;
  calls = grown x z w (a.made ++ r.made) b.made (grown x y z a.made r.made a.calls r.calls) b.calls;
  covered = covered_then (a.made ++ r.made) b.made false (covered_then a.made r.made false a.covered r.covered) b.covered;
  oldest_first = subst IsAscending (sym places) r.oldest_first;
}
  where
    read : places_read ((a.made ++ r.made) ++ b.made) ≡ places_read r.made
    read =
        read_then (a.made ++ r.made) b.made
        ∙ (ap (λ (l : List ℕ). places_read (a.made ++ r.made) ++ l) b.nothing
        ∙ (append-nil (places_read (a.made ++ r.made)) ∙ (read_then a.made r.made ∙ ap (λ (l : List ℕ). l ++ places_read r.made) a.nothing)))

    places : ages_read ages ((a.made ++ r.made) ++ b.made) ≡ ages_read ages r.made
    places = ap (map (λ (place : ℕ). age_at place ages)) read

-- the same with equal calls and ages between the parts
pub round_parts : (ages begun : Ages) (x start y before after z w : Option (List Call)) → begun ≡ ages → start ≡ x → before ≡ y → after ≡ z
    → Quietly start y → IsRound begun before z → Quietly after w → IsRound ages x w
round_parts ages begun x start y before after z w same first second third a r b =
    round_of ages x y z w (subst (λ (o : Option (List Call)). Quietly o y) first a)
    (subst (λ (o : Option (List Call)). IsRound ages o z) second (subst (λ (it : Ages). IsRound it before z) same r))
    (subst (λ (o : Option (List Call)). Quietly o w) third b)

-- ---- ages

pub one_more_age : (ages : List ℕ) (place : ℕ) → slice_index_or (ages ++ 0 ∷ []) place 0 ≡ slice_index_or ages place 0
one_more_age [] zero = refl
one_more_age [] (suc place) = refl
one_more_age (age ∷ ages) zero = refl
one_more_age (age ∷ ages) (suc place) = one_more_age ages place

pub age_here : (ages : List ℕ) (place age : ℕ) → place < length ages → slice_index_or (set ages place age) place 0 ≡ age
age_here [] place age within = absurd (omega (arith, within))
age_here (first ∷ ages) zero age within = refl
age_here (first ∷ ages) (suc place) age within = age_here ages place age (omega (arith, within))

pub age_elsewhere : (ages : List ℕ) (place other age : ℕ) → (other ≡ place → ⊥) → slice_index_or (set ages place age) other 0 ≡ slice_index_or ages other 0
age_elsewhere ages place other age apart = get_or-set_other ages place other age 0 apart
