-- Consequences of a call that returns `Ok` or `Err`.
use Rattle.std.proofs.Common.{◌≡◌, Bool, true, false, Result, Ok, Err}
use Rattle.std.specs.Bool.{MatchBool}
use Rattle.std.specs.Result.{IfOk, OnOk}

pub if_ok : {A E : Type 0} (r : Result A E) (P Q : A → Type 0) → ((x : A) → P x → Q x) → IfOk r P → IfOk r Q
if_ok (Ok x) P Q f h = f x h
if_ok (Err e) P Q f h = tt

pub on_ok : {A E : Type 0} (r : Result A E) (P : A → Type 0) (Q : Type 0) → ((x : A) → P x → Q) → IfOk r P → OnOk r Q
on_ok (Ok x) P Q f h = f x h
on_ok (Err e) P Q f h = tt

pub when_true : (r : Bool) (P Q : Type 0) → r ≡ true → MatchBool r P Q → P
when_true true P Q e h = h
when_true false P Q e h = absurd cc

pub when_false : (r : Bool) (P Q : Type 0) → r ≡ false → MatchBool r P Q → Q
when_false true P Q e h = absurd cc
when_false false P Q e h = h

pub when_ok : {A E : Type 0} (r : Result A E) (P Q : Type 0) → (P → Q) → OnOk r P → OnOk r Q
when_ok (Ok x) P Q f h = f h
when_ok (Err e) P Q f h = tt

pub both_ok : {A E : Type 0} (r : Result A E) (P Q R : A → Type 0) → ((x : A) → P x → Q x → R x) → IfOk r P → IfOk r Q → IfOk r R
both_ok (Ok x) P Q R f h g = f x h g
both_ok (Err e) P Q R f h g = tt
