-- Calls of workers, one after another.
use Rattle.std.proofs.Common.{◌≡◌, ◌<◌, ◌+◌, ℕ, zero, suc, Bool, true, false, cond, List, [], ◌∷◌, ◌++◌, Option, refl, take, length, get_or, ap, sym, subst, ◌∙◌, arith, append-nil, add-zero, add-one}
use Rattle.std.proofs.KnownBytes.{Appends-trans}
use Rattle.std.specs.Io.KnownBytes.{Appends}
use Rattle.mq_serve.specs.Calls.{numbers_from}

-- this number, if the test is true
abbrev single : Bool → ℕ → List ℕ
single b n = cond b (n ∷ []) []

put_front : (b : Bool) (n : ℕ) (rest more : List ℕ) → cond b (n ∷ (rest ++ more)) (rest ++ more) ≡ cond b (n ∷ rest) rest ++ more
put_front true n rest more = refl
put_front false n rest more = refl

first_alone : {A : Type 0} (test : ℕ → A → Bool) (first : ℕ) (x y : A) → x ≡ y → cond (test first y) (first ∷ []) [] ≡ single (test (first + 0) x) (first + 0)
first_alone test first x y is = rw (add-zero first, is) refl

-- one item more
numbers_more : {A : Type 0} (test : ℕ → A → Bool) (xs : List A) (first i : ℕ) (d x : A) → i < length xs → x ≡ get_or xs i d
    → numbers_from test first (take (suc i) xs) ≡ numbers_from test first (take i xs) ++ single (test (first + i) x) (first + i)
numbers_more test [] first i d x low is = absurd (omega arith)
numbers_more test (y ∷ ys) first zero d x low is = first_alone test first x y is
numbers_more test (y ∷ ys) first (suc i) d x low is =
    let rest : List ℕ = numbers_from test (first + 1) (take i ys) in
    let more : List ℕ = single (test (first + suc i) x) (first + suc i) in
    let at : (first + 1) + i ≡ first + suc i = omega arith in
    let here : numbers_from test (first + 1) (take (suc i) ys) ≡ rest ++ more =
    numbers_more test ys (first + 1) i d x (omega arith) is ∙ ap (λ n. rest ++ single (test n x) n) at in
    ap (λ r. cond (test first y) (first ∷ r) r) here ∙ put_front (test first y) first rest more

numbers_first : {A : Type 0} (test : ℕ → A → Bool) (xs : List A) (i : ℕ) (d x : A) → i < length xs → x ≡ get_or xs i d
    → numbers_from test 0 (take (suc i) xs) ≡ numbers_from test 0 (take i xs) ++ single (test i x) i
numbers_first test xs i d x low is =
    let at : 0 + i ≡ i = omega arith in
    numbers_more test xs 0 i d x low is ∙ ap (λ n. numbers_from test 0 (take i xs) ++ single (test n x) n) at

-- the test r of the next worker is true, and it is called
pub called_next : {A : Type 0} (test : ℕ → A → Bool) (xs : List A) (i : ℕ) (d x : A) (r : Bool) (a b c : Option (List ℕ)) → i < length xs → x ≡ get_or xs i d
    → r ≡ test i x → r ≡ true → Appends a b (numbers_from test 0 (take i xs)) → Appends b c (i ∷ []) → Appends a c (numbers_from test 0 (take (i + 1) xs))
called_next test xs i d x r a b c low is tested passes before now =
    let one : single (test i x) i ≡ i ∷ [] = ap (λ t. single t i) (sym tested ∙ passes) in
    let more : numbers_from test 0 (take (suc i) xs) ≡ numbers_from test 0 (take i xs) ++ i ∷ [] =
    numbers_first test xs i d x low is ∙ ap (λ z. numbers_from test 0 (take i xs) ++ z) one in
    let whole : Appends a c (numbers_from test 0 (take (suc i) xs)) =
    subst (Appends a c) (sym more) (Appends-trans a b c _ _ before now) in
    rw (add-one i) whole

-- the test r of the next worker is false, and no worker is called
pub skipped_next : {A : Type 0} (test : ℕ → A → Bool) (xs : List A) (i : ℕ) (d x : A) (r : Bool) (a b : Option (List ℕ)) → i < length xs → x ≡ get_or xs i d
    → r ≡ test i x → r ≡ false → Appends a b (numbers_from test 0 (take i xs)) → Appends a b (numbers_from test 0 (take (i + 1) xs))
skipped_next test xs i d x r a b low is tested fails before =
    let none : single (test i x) i ≡ [] = ap (λ t. single t i) (sym tested ∙ fails) in
    let same : numbers_from test 0 (take (suc i) xs) ≡ numbers_from test 0 (take i xs) =
    numbers_first test xs i d x low is ∙ (ap (λ z. numbers_from test 0 (take i xs) ++ z) none ∙ append-nil _) in
    let whole : Appends a b (numbers_from test 0 (take (suc i) xs)) = subst (Appends a b) (sym same) before in
    rw (add-one i) whole
