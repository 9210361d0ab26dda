-- Writers that fail.
use Rattle.std.proofs.Common.{List, ℕ, [], ◌++◌, Option, Result, Ok, Err, OnErr}
use Rattle.std.proofs.KnownBytes.{Appends-nil, Appends-trans}
use Rattle.std.specs.Io.KnownBytes.{Appends}
use Rattle.mq_packet.specs.Writing.{AppendsFront}
use Rattle.mq_client.specs.Collecting.{Grows}

pub grows_by : (old new : Option (List ℕ)) (text : List ℕ) → Appends old new text → Grows old new
grows_by old new text p = (text, p)

pub grows_none : (old : Option (List ℕ)) → Grows old old
grows_none old = ([], Appends-nil old)

pub grows_then : (a b c : Option (List ℕ)) → Grows a b → Grows b c → Grows a c
grows_then a b c p q = (p.0 ++ q.0, Appends-trans a b c p.0 q.0 p.1 q.1)

pub front_grows : (old new : Option (List ℕ)) (text : List ℕ) → AppendsFront old new text → Grows old new
front_grows old new text p = (p.front, p.appends)

-- a front after some bytes
pub front_after : (a b c : Option (List ℕ)) (first text : List ℕ) → Appends a b first → AppendsFront b c text → Grows a c
front_after a b c first text p q = (first ++ q.front, Appends-trans a b c first q.front p q.appends)

-- a failure after two writes
pub fronts_after : {T E : Type 0} → (r : Result T E) (a b c d : Option (List ℕ)) (first second text : List ℕ) → Appends a b first → Appends b c second → OnErr r (AppendsFront c d text) → OnErr r (Grows a d)
fronts_after (Ok x) a b c d first second text p q f = tt
fronts_after (Err e) a b c d first second text p q f = (first ++ (second ++ f.front), Appends-trans a b d first (second ++ f.front) p (Appends-trans b c d second f.front q f.appends))

-- a fact of an error gives another
pub if_err : {T E : Type 0} → (r : Result T E) (P Q : Type 0) → OnErr r P → (P → Q) → OnErr r Q
if_err (Ok x) P Q p f = tt
if_err (Err e) P Q p f = f p
