-- The first packet of a connection, in terms of the step's definition.
use Rattle.std.proofs.Common.{Result, Ok, Err, IfOk, OnOk, OnErr}

-- ---- answers

pub ok_by : {X E P Q : Type 0} (r : Result X E) → (P → Q) → OnOk r P → OnOk r Q
ok_by (Ok x) f p = f p
ok_by (Err e) f p = tt

pub if_ok_by : {X E : Type 0} {P Q : X → Type 0} (r : Result X E) → ((x : X) → P x → Q x) → IfOk r P → IfOk r Q
if_ok_by (Ok x) f p = f x p
if_ok_by (Err e) f p = tt

pub err_by : {X E P Q : Type 0} (r : Result X E) → (P → Q) → OnErr r P → OnErr r Q
err_by (Ok x) f p = tt
err_by (Err e) f p = f p

pub err_any : {X E P : Type 0} (r : Result X E) → P → OnErr r P
err_any (Ok x) p = tt
err_any (Err e) p = p
