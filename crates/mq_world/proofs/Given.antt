-- A value that is returned only if an action on it succeeded.
use Rattle.std.proofs.Common.{◌≡◌, Result, Ok, Err, OnOk, OnErr, IfOk, IsErr, sym, subst}
use Rattle.std.proofs.lemmas.Bool.{false≢true}

failed_gives : {A E : Type 0} (r : Result A E) (P : A → Type 0) → IsErr r → IfOk r P
failed_gives (Ok x) P h = absurd (false≢true h)
failed_gives (Err e) P h = tt

-- A property of the value after every success is a property of the result.
pub if_given : {A D E : Type 0} (done : Result D E) (r : Result A E) (value : A) (P : A → Type 0) → OnOk done (r ≡ Ok value) → OnErr done (IsErr r) → OnOk done (P value) → IfOk r P
if_given (Ok d) r value P ok err holds = subst (λ s. IfOk s P) (sym ok) holds
if_given (Err e) r value P ok err holds = failed_gives r P err

-- A property that holds after success and failure.
pub if_given_always : {A D E : Type 0} (done : Result D E) (r : Result A E) (value : A) (P : A → Type 0) → OnOk done (r ≡ Ok value) → OnErr done (IsErr r) → P value → IfOk r P
if_given_always (Ok d) r value P ok err holds = subst (λ s. IfOk s P) (sym ok) holds
if_given_always (Err e) r value P ok err holds = failed_gives r P err
