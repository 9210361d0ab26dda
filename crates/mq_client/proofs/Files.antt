-- Files that are replaced.
use Rattle.std.proofs.Common.{◌≡◌, ◌+◌, ℕ, List, [], ◌∷◌, ◌++◌, Option, Some, None, Result, Ok, Err, OnOk, OnErr, length, length-append, codes, refl, sym, ap, subst, ◌∙◌, inl, inr, arith}
use Rattle.mq_client.specs.Disk.{FileState, IsLast, Moved, Replaced, Stays, Synced, Touched, Unchanged, Wrote, bytes_of, durable, history_of, newest, present, stands_of, synced}
use Rattle.mq_client.specs.Keeping.{Holds}

newest_last : (e f : FileState) (es : List FileState) → newest e (es ++ f ∷ []) ≡ f
newest_last e f [] = refl
newest_last e f (g ∷ es) = newest_last g f es

-- the last entry is present
present_last : (es : List FileState) (f : FileState) → present (es ++ f ∷ []) ≡ f
present_last [] f = refl
present_last (e ∷ es) f = newest_last e f es

-- a name with a suffix is another name
pub other_name : (name draft : List ℕ) → draft ≡ name ++ codes ".new" → name ≡ draft → ⊥
other_name name draft is same =
    let long : length name ≡ length name + 4 = ap length (same ∙ is) ∙ length-append name (codes ".new") in
    absurd (omega (arith, long))

-- ---- unchanged

pub unchanged_none : (a : Option (List FileState)) → Unchanged a a
unchanged_none None = refl
unchanged_none (Some a) = refl

pub unchanged_then : (a b c : Option (List FileState)) → Unchanged a b → Unchanged b c → Unchanged a c
unchanged_then None None c p q = q
unchanged_then None (Some b) c p q = cc
unchanged_then (Some a) None c p q = absurd p
unchanged_then (Some a) (Some b) None p q = absurd q
unchanged_then (Some a) (Some b) (Some c) p q = q ∙ p

-- another file was touched
pub touched : (name draft : List ℕ) (h i : Option (List ℕ → List FileState)) → (name ≡ draft → ⊥) → Touched draft h i → Unchanged (history_of h name) (history_of i name)
touched name draft None i other t = ap (λ z. history_of z name) t
touched name draft (Some a) None other t = absurd t
touched name draft (Some a) (Some b) other t = t name other

pub wrote : (name draft form : List ℕ) (h i : Option (List ℕ → List FileState)) → (name ≡ draft → ⊥) → Wrote draft form h i → Unchanged (history_of h name) (history_of i name)
wrote name draft form None i other t = ap (λ z. history_of z name) t
wrote name draft form (Some a) None other t = absurd t
wrote name draft form (Some a) (Some b) other t = t.0 name other

pub brought : (name draft : List ℕ) (h i : Option (List ℕ → List FileState)) → (name ≡ draft → ⊥) → Synced draft h i → Unchanged (history_of h name) (history_of i name)
brought name draft None i other t = ap (λ z. history_of z name) t
brought name draft (Some a) None other t = absurd t
brought name draft (Some a) (Some b) other t = t.0 name other

pub stayed : (name : List ℕ) (h i : Option (List ℕ → List FileState)) → Stays name h i → Unchanged (history_of h name) (history_of i name)
stayed name None i t = ap (λ z. history_of z name) t
stayed name (Some a) None t = absurd t
stayed name (Some a) (Some b) t = t

-- ---- replaced

-- a draft was written, synced and renamed
pub replaced : (name draft form : List ℕ) (h i j k : Option (List ℕ → List FileState)) → (name ≡ draft → ⊥) → Wrote draft form h i → Synced draft i j → Moved draft name j k
    → Replaced (history_of h name) (history_of k name) form
replaced name draft form None None None k other w s m = ap (λ z. history_of z name) m
replaced name draft form None None (Some c) k other w s m = cc
replaced name draft form None (Some b) j k other w s m = cc
replaced name draft form (Some a) None j k other w s m = absurd w
replaced name draft form (Some a) (Some b) None k other w s m = absurd s
replaced name draft form (Some a) (Some b) (Some c) None other w s m = absurd m
replaced name draft form (Some a) (Some b) (Some c) (Some d) other w s m =
    let entry : present (c draft) ≡ durable form = s.1 ∙ ap synced w.1 in
    let same : c name ≡ a name = s.0 name other ∙ w.0 name other in
    let grown : d name ≡ a name ++ durable form ∷ [] = m ∙ ap (λ z. z ++ present (c draft) ∷ []) same ∙ ap (λ e. a name ++ e ∷ []) entry in
    (ap present grown ∙ present_last (a name) (durable form), inr grown)

-- the same, if the file was renamed
pub replaced_if : {T E : Type 0} (r : Result T E) (name draft form : List ℕ) (h i j k : Option (List ℕ → List FileState)) → (name ≡ draft → ⊥) → Wrote draft form h i → Synced draft i j → OnOk r (Moved draft name j k)
    → OnOk r (Replaced (history_of h name) (history_of k name) form)
replaced_if (Ok x) name draft form h i j k other w s m = replaced name draft form h i j k other w s m
replaced_if (Err e) name draft form h i j k other w s m = tt

-- and otherwise it is unchanged
pub unchanged_if : {T E : Type 0} (r : Result T E) (name draft form : List ℕ) (h i j k : Option (List ℕ → List FileState)) → (name ≡ draft → ⊥) → Wrote draft form h i → Synced draft i j → OnErr r (Stays name j k)
    → OnErr r (Unchanged (history_of h name) (history_of k name))
unchanged_if (Ok x) name draft form h i j k other w s m = tt
unchanged_if (Err e) name draft form h i j k other w s m = unchanged_then _ _ _ (unchanged_then _ _ _ (wrote name draft form h i other w) (brought name draft i j other s)) (stayed name j k m)

-- ---- the form that was written last

pub last_unchanged : (a b : Option (List FileState)) (form : List ℕ) → Unchanged a b → IsLast a form → IsLast b form
last_unchanged None None form p q = tt
last_unchanged None (Some b) form p q = cc
last_unchanged (Some a) None form p q = absurd p
last_unchanged (Some a) (Some b) form p q = ap present p ∙ q

pub last_replaced : (a b : Option (List FileState)) (form : List ℕ) → Replaced a b form → IsLast b form
last_replaced None None form p = tt
last_replaced None (Some b) form p = cc
last_replaced (Some a) None form p = tt
last_replaced (Some a) (Some b) form p = p.0

-- the form is in the file already
pub has_last : (a : Option (List FileState)) (last form : List ℕ) → IsLast a last → last ≡ form → Replaced a a form
has_last None last form p q = refl
has_last (Some a) last form p q = (p ∙ ap durable q, inl refl)

-- ---- what a store promises

holds_one : (old new : Option (List ℕ)) (form : List ℕ) → new ≡ Some form → Holds old new (form ∷ [])
holds_one None new form p = tt
holds_one (Some old) new form p = p

pub holds_replaced : (a b : Option (List FileState)) (form : List ℕ) → Replaced a b form → Holds (stands_of a) (stands_of b) (form ∷ [])
holds_replaced None b form p = tt
holds_replaced (Some a) None form p = absurd p
holds_replaced (Some a) (Some b) form p = holds_one (stands_of (Some a)) (stands_of (Some b)) form (ap bytes_of p.0)

holds_same : (old : Option (List ℕ)) → Holds old old []
holds_same None = tt
holds_same (Some old) = refl

pub holds_unchanged : (a b : Option (List FileState)) → Unchanged a b → Holds (stands_of a) (stands_of b) []
holds_unchanged None b p = tt
holds_unchanged (Some a) None p = absurd p
holds_unchanged (Some a) (Some b) p = subst (λ z. Holds (stands_of (Some a)) (bytes_of (present z)) []) (sym p) (holds_same (stands_of (Some a)))
