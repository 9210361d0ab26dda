-- Bytes behind bytes.
use Rattle.std.proofs.Common.{◌≡◌, ℕ, List, ◌++◌, Result, Ok, Err, OnOk, ap, ◌∙◌, append_assoc}

pub on_ok : {T E : Type 0} (r : Result T E) (P Q : Type 0) → (P → Q) → OnOk r P → OnOk r Q
on_ok (Ok x) P Q f h = f h
on_ok (Err e) P Q f h = tt

pub two : (front x y a b : List ℕ) → x ≡ front ++ a → y ≡ x ++ b → y ≡ front ++ (a ++ b)
two front x y a b first then = then ∙ ap (λ (l : List ℕ). l ++ b) first ∙ append_assoc front a b

pub three : (front x y z a b c : List ℕ) → x ≡ front ++ a → y ≡ x ++ b → z ≡ y ++ c → z ≡ front ++ ((a ++ b) ++ c)
three front x y z a b c first second third =
    third ∙ ap (λ (l : List ℕ). l ++ c) (two front x y a b first second) ∙ append_assoc front (a ++ b) c
