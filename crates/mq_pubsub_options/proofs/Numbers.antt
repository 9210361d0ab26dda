-- Numbers of options.
use Rattle.std.proofs.Common.{◌≡◌, ℕ, List, Option, Some, None, Result, Ok, Err, refl}
use Rattle.std.specs.Str.Parse.{ExplainsUnsignedError, HasUnsignedDigitsIfOk, ParsesUnsigned}
use Rattle.clap.specs.Words.{ReadsOne, Text}
use Rattle.mq_pubsub_options.specs.Options.{IsNumber}

number_read : {E : Type 0} (bits : ℕ) (value : Option Text) (found : Option ℕ) (gives : List ℕ → Result ℕ E → Type 0)
    → ((text : List ℕ) (r : Result ℕ E) → gives text r → ParsesUnsigned bits 10 text r) → (value ≡ None → found ≡ None)
    → ((text : List ℕ) → value ≡ Some text → ReadsOne gives text found) → IsNumber bits value found
number_read bits None found gives parses none some = none refl
number_read {E} bits (Some text) None gives parses none some = let e = some text refl in parses text (Err e.0) e.1
number_read {E} bits (Some text) (Some n) gives parses none some = let p = parses text (Ok n) (some text refl) in (p.0.0, p.1)

parsed : {E : Type 0} (bits : ℕ) (text : List ℕ) (r : Result ℕ E) (P Q : Type 0) → ParsesUnsigned bits 10 text r × P × Q → ParsesUnsigned bits 10 text r
parsed bits text r P Q given = given.0

-- the parser of unsigned numbers read the text of an option
pub unsigned_read : (bits : ℕ) (value : Option Text) (found : Option ℕ) → (value ≡ None → found ≡ None)
    → ((text : List ℕ) → value ≡ Some text → ReadsOne (λ bs r. ParsesUnsigned bits 10 bs r × ExplainsUnsignedError 10 bs r × HasUnsignedDigitsIfOk bs r) text found)
    → IsNumber bits value found
unsigned_read bits value found none some =
    number_read bits value found (λ bs r. ParsesUnsigned bits 10 bs r × ExplainsUnsignedError 10 bs r × HasUnsignedDigitsIfOk bs r)
    (λ text r given. parsed bits text r (ExplainsUnsignedError 10 text r) (HasUnsignedDigitsIfOk text r) given) none some
