-- The results of jobs.
use Rattle.std.proofs.Common.{◌≡◌, ◌<◌, ℕ, zero, suc, List, [], ◌∷◌, length, slice_index_or, Vec, vec_len, Result, Ok, Err, IfOk, subst, sym, ◌∙◌, arith}
use denote.Param.Members.{Shared}
use Rattle.std.specs.Fork.{GivesJobs}
use Rattle.std.specs.List.{AllZip}
use Rattle.std.specs.declared.alloc.Global.{Global}

-- a relation of each job and its result
zip_at : {J R : Type 0} (P : J → R → Type 0) (js : List J) (rs : List R) → length rs ≡ length js
    → ((i : ℕ) (d : R) → i < length js → (job : J) × (job ≡ slice_index_or js i job) × P job (slice_index_or rs i d)) → AllZip P js rs
zip_at P [] [] long at = tt
zip_at P [] (r ∷ rs) long at = absurd (omega (arith, long))
zip_at P (x ∷ js) [] long at = absurd (omega (arith, long))
zip_at P (x ∷ js) (r ∷ rs) long at =
    let first = at zero r (omega arith) in
    (subst (λ y. P y r) first.1 first.2, zip_at P js rs (omega (arith, long)) (λ i d low. at (suc i) d (omega (arith, low))))

-- each job is done, unless an allocation fails
pub all_done : {F J R E : Type 0} (g : Shared F (J × Unit {0}) R) (f : F) (P : J → R → Type 0) (js : List J) (n : ℕ) → n ≡ length js
    → (r : Result (Vec R Global) E) → IfOk r (λ v. vec_len v ≡ n) → IfOk r (λ v. GivesJobs g f js v.items) → ((x : J) (r : R) → g.post f (x, tt) r → P x r) → IfOk r (λ v. AllZip P js v.items)
all_done g f P js n size (Ok v) long gives says =
    zip_at P js v.items (sym v.ok.0 ∙ long ∙ size)
    (λ i d low. (
      (gives i d low).1.job,
      (gives i d low).1.job_read,
      says (gives i d low).1.job (slice_index_or v.items i d) (gives i d low).1.call.met,
    ))
all_done g f P js n size (Err e) long gives says = tt
