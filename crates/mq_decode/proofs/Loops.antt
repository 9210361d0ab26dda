-- Reading the items of a list one after the other, as a loop does.
use Rattle.std.proofs.Common.{◌≡◌, ℕ, zero, suc, ◌+◌, ◌-◌, Bool, false, eqb, ◌<◌, ◌≤◌, List, [], ◌∷◌, ◌++◌, length, Result, Ok, Err, refl, sym, ap, ◌∙◌, append_assoc, arith}
use Rattle.std.specs.Result.{IsOk}
use Rattle.std.proofs.lemmas.Bool.{true≢false, false≢true}
use Rattle.std.proofs.lemmas.List.{append-nil, length-append}
use Rattle.mq_decode.specs.declared.fault.BadField.{BadField}
use Rattle.mq_decode.specs.declared.fault.FieldsError.{FieldsError}
use Rattle.mq_decode.specs.declared.fault.FieldsError.TheVariants as errors
use Rattle.mq_decode.specs.Gives.{◌>>=◌, Fails}
use Rattle.mq_decode.specs.Inside.Lent.{rest_of}
use Rattle.mq_decode.specs.Lists.{items_at, list_at}
use Rattle.mq_decode.proofs.FieldLaws.{ok_is}

-- The items read before, in front of those still to be read.
abbrev pub with_front : {A : Type 0} → List A → Result (List A) BadField → Result (List A) BadField
with_front front read = read >>= λ xs. Ok (front ++ xs)

regroup : {A : Type 0} (front : List A) (x : A) (read : Result (List A) BadField) → with_front front (read >>= λ xs. Ok (x ∷ xs)) ≡ with_front (front ++ x ∷ []) read
regroup {A} front x (Ok xs) = ap (λ (ys : List A). Ok ys) (sym (append_assoc front (x ∷ []) xs))
regroup front x (Err bad) = refl

-- one more item
pub goes_on : {A : Type 0} (item : List ℕ → Result (A × List ℕ) BadField) (front : List A) (x : A) (bytes rest after : List ℕ) (total : Result (List A) BadField)
    → 0 < length rest → length front + length rest ≤ length bytes → item rest ≡ Ok (x, after)
    → with_front front (items_at item (length bytes - length front) rest) ≡ total
    → with_front (front ++ x ∷ []) (items_at item (length bytes - length (front ++ x ∷ [])) after) ≡ total
goes_on item front x bytes [] after total left room read told = absurd (omega arith)
goes_on {A} item front x bytes (b ∷ rest) after total left room read told =
    let more = length bytes - length (front ++ x ∷ []) in
    let fuel : length bytes - length front ≡ suc more = omega (arith, length-append front (x ∷ [])) in
    let one : with_front front (items_at item (length bytes - length front) (b ∷ rest)) ≡ with_front (front ++ x ∷ []) (items_at item more after) = rw (fuel, read) (regroup front x (items_at item more after)) in
    sym one ∙ told

-- an item that is bad
pub stops : {A : Type 0} (e : FieldsError) (item : List ℕ → Result (A × List ℕ) BadField) (front : List A) (bytes rest : List ℕ) (total : Result (List A) BadField)
    → 0 < length rest → length front + length rest ≤ length bytes → Fails e (item rest)
    → with_front front (items_at item (length bytes - length front) rest) ≡ total → Fails e total
stops errors.Memory item front bytes rest total left room bad told = tt
stops (errors.Bad f) item front bytes [] total left room bad told = absurd (omega arith)
stops (errors.Bad f) item front bytes (b ∷ rest) total left room bad told =
    let more = length bytes - length front - 1 in
    let fuel : length bytes - length front ≡ suc more = omega arith in
    let one : with_front front (items_at item (length bytes - length front) (b ∷ rest)) ≡ Err f = rw (fuel, bad) refl in
    sym told ∙ one

-- all items
pub is_done : {A : Type 0} (item : List ℕ → Result (A × List ℕ) BadField) (front : List A) (bytes rest : List ℕ) (total : Result (List A) BadField)
    → length rest ≡ 0 → with_front front (items_at item (length bytes - length front) rest) ≡ total → total ≡ Ok front
is_done {A} item front bytes [] total none told = sym told ∙ ap (λ (ys : List A). Ok ys) (append-nil front)
is_done item front bytes (b ∷ rest) total none told = absurd (omega arith)

pub list_of_some : {A : Type 0} (item : List ℕ → Result (A × List ℕ) BadField) (bytes : List ℕ) → 0 < length bytes → list_at item bytes ≡ items_at item (length bytes) bytes
list_of_some item [] left = absurd (omega arith)
list_of_some item (b ∷ bytes) left = refl

pub some_left : (b : Bool) (n : ℕ) → b ≡ eqb n 0 → b ≡ false → 0 < n
some_left b zero e f = absurd (true≢false (sym e ∙ f))
some_left b (suc n) e f = omega arith

-- ---- a list that is tested, and none of its items kept

-- the items that were passed
pub record Passed {A : Type 0} (item : List ℕ → Result (A × List ℕ) BadField) (bytes rest : List ℕ) : Type 0 where
  pub items : List A
  pub room : length items + length rest ≤ length bytes
  pub told : with_front items (items_at item (length bytes - length items) rest) ≡ items_at item (length bytes) bytes

front_nil : {A : Type 0} (read : Result (List A) BadField) → with_front [] read ≡ read
front_nil (Ok xs) = refl
front_nil (Err bad) = refl

pub passed_none : {A : Type 0} (item : List ℕ → Result (A × List ℕ) BadField) (bytes : List ℕ) → Passed item bytes bytes
passed_none item bytes =
    let all : length bytes - 0 ≡ length bytes = omega arith in
    record { items = []; room = omega arith; told = rw all (front_nil (items_at item (length bytes) bytes)) }

-- the item before the remaining bytes
pub rest_found : {A : Type 0} (r : Result (A × List ℕ) BadField) (after : List ℕ) → rest_of r ≡ Ok after → (x : A) × (r ≡ Ok (x, after))
rest_found (Ok x) after e = (x.0, ap (λ (t : List ℕ). Ok (x.0, t)) (ok_is x.1 after e))
rest_found (Err bad) after e = absurd cc

pub passed_more : {A : Type 0} (item : List ℕ → Result (A × List ℕ) BadField) (bytes rest after : List ℕ) → 0 < length rest → length after < length rest → rest_of (item rest) ≡ Ok after → Passed item bytes rest → Passed item bytes after
passed_more item bytes rest after left shorter read p =
    let f = rest_found (item rest) after read in
    record {
      items = p.items ++ f.0 ∷ [];
      room = omega (arith, length-append p.items (f.0 ∷ []), p.room);
      told = goes_on item p.items f.0 bytes rest after (items_at item (length bytes) bytes) left p.room f.1 p.told;
    }

-- none of its items is bad
pub never_bad : {A : Type 0} (read : Result A BadField) (bad : BadField) → IsOk read → read ≡ Err bad → ⊥
never_bad (Ok x) bad h e = absurd cc
never_bad (Err other) bad h e = absurd (false≢true h)
