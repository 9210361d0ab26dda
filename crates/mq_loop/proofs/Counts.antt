-- The number of places in a set, and of connections.
use Rattle.std.proofs.Common.{◌≡◌, ◌<◌, ◌+◌, ◌++◌, ℕ, zero, suc, Bool, true, false, cond, List, [], ◌∷◌, length, length-set, set, get_or, Option, Some, None, is_some, true≢false, refl, sym, ap, ap₂, ◌∙◌, arith}
use Rattle.std.proofs.lemmas.List.Sums.{count_by-le-length, sum_by-cons, sum_by-set}
use Rattle.mq_loop.specs.Accounts.{Line}
use Rattle.mq_loop.specs.Places.{is_in}
use Rattle.mq_loop.specs.Inside.Places.{count_in}
use Rattle.mq_loop.specs.Rounds.{connections_in, exists_at, output_at}

pub in_within : (m : List Bool) (p : ℕ) → is_in p m ≡ true → p < length m
in_within [] p e = absurd (true≢false (sym e))
in_within (x ∷ xs) zero e = omega arith
in_within (x ∷ xs) (suc p) e = let below = in_within xs p e in omega arith

pub fewer_in : (m : List Bool) (p : ℕ) → is_in p m ≡ true → count_in (set m p false) < count_in m
fewer_in m p h =
    let e = sum_by-set (λ (b : Bool). cond b 1 0) m p false false (in_within m p h) in
    let first : cond {A = ℕ} (get_or m p false) 1 0 ≡ 1 = ap (λ (b : Bool). cond {A = ℕ} b 1 0) h in
    omega (arith, e, first)

line_within : (p : ℕ) (lines : List (Option Line)) → exists_at p lines ≡ true → p < length lines
line_within p [] e = absurd (true≢false (sym e))
line_within zero (x ∷ xs) e = omega arith
line_within (suc p) (x ∷ xs) e = let below = line_within p xs e in omega arith

some_line : (p : ℕ) (lines : List (Option Line)) → exists_at p lines ≡ true → is_some (get_or lines p None) ≡ true
some_line p lines e = go (get_or lines p None) e
  where
    go : (x : Option Line) → exists_at 0 (x ∷ []) ≡ true → is_some x ≡ true
    go None e = absurd (true≢false (sym e))
    go (Some l) e = refl

-- a connection ends
pub one_fewer : (lines : List (Option Line)) (p : ℕ) → exists_at p lines ≡ true → connections_in (set lines p None) + 1 ≡ connections_in lines
one_fewer lines p h =
    let e = sum_by-set (λ (x : Option Line). cond (is_some x) 1 0) lines p None None (line_within p lines h) in
    let first : cond {A = ℕ} (is_some (get_or lines p None)) 1 0 ≡ 1 = ap (λ (b : Bool). cond {A = ℕ} b 1 0) (some_line p lines h) in
    omega (arith, e, first)

none_line : (p : ℕ) (lines : List (Option Line)) → output_at p lines ≡ None → is_some (get_or lines p None) ≡ false
none_line p lines e = go (get_or lines p None) e
  where
    go : (x : Option Line) → output_at 0 (x ∷ []) ≡ None → is_some x ≡ false
    go None e = refl
    go (Some l) e = absurd cc

-- a connection is opened
pub one_more_line : (lines : List (Option Line)) (p : ℕ) (l : Line) → p < length lines → output_at p lines ≡ None → connections_in (set lines p (Some l)) ≡ connections_in lines + 1
one_more_line lines p l within none =
    let e = sum_by-set (λ (x : Option Line). cond (is_some x) 1 0) lines p (Some l) None within in
    let first : cond {A = ℕ} (is_some (get_or lines p None)) 1 0 ≡ 0 = ap (λ (b : Bool). cond {A = ℕ} b 1 0) (none_line p lines none) in
    omega (arith, e, first)

-- a place without a connection is left
pub place_left : (lines : List (Option Line)) (p : ℕ) (l : Line) → p < length lines → output_at p lines ≡ None → connections_in lines < length lines
place_left lines p l within none =
    let e = one_more_line lines p l within none in
    let most = count_by-le-length is_some (set lines p (Some l)) in
    omega (arith, e, most, length-set lines p (Some l))

-- a place without a connection is added
pub vacant_line : (lines : List (Option Line)) → connections_in (lines ++ None ∷ []) ≡ connections_in lines
vacant_line [] = refl
vacant_line (x ∷ xs) =
    sum_by-cons one x (xs ++ None ∷ []) ∙ ap (λ (n : ℕ). one x + n) (vacant_line xs) ∙ sym (sum_by-cons one x xs)
  where
    one : Option Line → ℕ
    one x = cond (is_some x) 1 0

-- the same places have connections
pub as_many : (lines new : List (Option Line)) → length new ≡ length lines → ((p : ℕ) → exists_at p new ≡ exists_at p lines) → connections_in new ≡ connections_in lines
as_many [] [] long same = refl
as_many [] (y ∷ ys) long same = absurd (omega arith)
as_many (x ∷ xs) [] long same = absurd (omega arith)
as_many (x ∷ xs) (y ∷ ys) long same =
    sum_by-cons one y ys ∙ (ap₂ (λ (a b : ℕ). a + b) (ap (λ (b : Bool). cond b 1 0) (first x y (same 0))) (as_many xs ys (omega arith) (λ p. same (suc p))) ∙ sym (sum_by-cons one x xs))
  where
    one : Option Line → ℕ
    one x = cond (is_some x) 1 0

    first : (x y : Option Line) → exists_at 0 (y ∷ []) ≡ exists_at 0 (x ∷ []) → is_some y ≡ is_some x
    first None None e = refl
    first None (Some b) e = absurd (true≢false e)
    first (Some a) None e = absurd (true≢false (sym e))
    first (Some a) (Some b) e = refl
