-- The front of bytes that was written.
use Rattle.std.proofs.Common.{◌≡◌, ◌≤◌, ◌+◌, ◌-◌, ℕ, zero, suc, List, [], ◌∷◌, ◌++◌, refl, Option, take, drop, length, sym, ap, subst, ◌∙◌, arith, take-append-drop, length-drop}
use Rattle.std.proofs.KnownBytes.{Appends-kept, Appends-nil, Appends-trans}
use Rattle.std.specs.Io.KnownBytes.{Appends, Keeps}
use Rattle.mq_packet.specs.Writing.{AppendsFront}

-- the first `done` bytes were appended
pub record FrontWritten (old new : Option (List ℕ)) (all : List ℕ) (done : ℕ) : Type 0 where
  pub bound : done ≤ length all
  pub appends : Appends old new (take done all)

pub front_none : (old : Option (List ℕ)) (all : List ℕ) → FrontWritten old old all 0
front_none old all = record { bound = omega arith; appends = Appends-nil old }

take_none : (m : ℕ) → take {A = ℕ} m [] ≡ []
take_none zero = refl
take_none (suc m) = refl

zero_plus : (m : ℕ) → m ≡ 0 + m
zero_plus m = omega arith

suc_plus : (n m : ℕ) → suc (n + m) ≡ suc n + m
suc_plus n m = omega arith

take_more_bytes : (n m : ℕ) (all : List ℕ) → take n all ++ take m (drop n all) ≡ take (n + m) all
take_more_bytes zero m all = ap (λ k. take k all) (zero_plus m)
take_more_bytes (suc n) m [] = take_none m ∙ sym (take_none (suc n + m))
take_more_bytes (suc n) m (x ∷ xs) = ap (λ z. x ∷ z) (take_more_bytes n m xs) ∙ ap (λ k. take k (x ∷ xs)) (suc_plus n m)

pub front_more : (a b c : Option (List ℕ)) (all : List ℕ) (n m : ℕ) → FrontWritten a b all n → m ≤ length (drop n all) → Appends b c (take m (drop n all)) → FrontWritten a c all (n + m)
front_more a b c all n m w bound p =
    let long : length (drop n all) ≡ length all - n = length-drop n all in
    let before = w.bound in
    record {
      bound = omega (arith, bound, long, before);
      appends = subst (λ z. Appends a c z) (take_more_bytes n m all) (Appends-trans a b c _ _ w.appends p);
    }

pub nothing_written : (a b : Option (List ℕ)) → Keeps a b → Appends a b []
nothing_written a b p = Appends-kept a a b [] (Appends-nil a) p

pub front_cut : (a b : Option (List ℕ)) (all : List ℕ) (n : ℕ) → Appends a b (take n all) → AppendsFront a b all
front_cut a b all n wrote = record { front = take n all; rest = drop n all; parts = sym (take-append-drop n all); appends = wrote }
