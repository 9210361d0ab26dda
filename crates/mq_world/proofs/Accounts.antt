-- The lists of a side: reported and acknowledged messages, one after another.
use Rattle.std.proofs.Common.{◌≡◌, ℕ, suc, ◌+◌, ◌<◌, Bool, true, false, cond, eqb, ◌||◌, List, [], ◌∷◌, ◌++◌, length, drop, get_or, Option, Some}
use Rattle.std.proofs.Common.{refl, sym, ap, ◌∙◌, add-one}
use Rattle.std.specs.Option.{unwrap_or}
use Rattle.std.proofs.Math.Seq.{drop-cons}
use Rattle.mq_packet.specs.declared.message.Message.{Message}
use Rattle.mq_end.specs.declared.happening.Happening.{Happening}
use Rattle.mq_end.specs.declared.happening.Happening.TheVariants as happens
use Rattle.mq_world.specs.Half.{HandedOn, is_given, last_place, freed_with}
use Rattle.mq_world.specs.OverBytes.{handed_with}

-- one happening, and then the others
pub handed_step : (h : Happening) (rest : List Happening) (x : HandedOn) → handed_with (h ∷ rest) x ≡ handed_with rest (handed_with (h ∷ []) x)
handed_step (happens.Handed m) rest x = refl
handed_step (happens.Up b) rest x = refl
handed_step (happens.Subscribe i r) rest x = refl
handed_step (happens.Unsubscribe i r) rest x = refl
handed_step (happens.SubAck i r) rest x = refl
handed_step (happens.UnsubAck i) rest x = refl
handed_step happens.Pong rest x = refl

pub handed_more : (hs : List Happening) (k : ℕ) (h : Happening) (x y : HandedOn) → k < length hs → h ≡ get_or hs k h → handed_with (drop k hs) x ≡ y
    → handed_with (drop (k + 1) hs) (handed_with (h ∷ []) x) ≡ y
handed_more hs k h x y below is before =
    let e : drop k hs ≡ h ∷ drop (k + 1) hs = drop-cons hs k h below ∙ ap (λ z. z ∷ drop (suc k) hs) (sym is) ∙ ap (λ n. h ∷ drop n hs) (sym (add-one k)) in
    sym (ap (λ z. handed_with z x) e ∙ handed_step h (drop (k + 1) hs) x) ∙ before

pub freed_more : (given : List (ℕ × Message)) (is : List ℕ) (k i : ℕ) (x y : List ℕ) → k < length is → i ≡ get_or is k i
    → freed_with given (drop k is) x ≡ y → freed_with given (drop (k + 1) is) (x ++ last_place i given ∷ []) ≡ y
freed_more given is k i x y below at before =
    let e : drop k is ≡ i ∷ drop (k + 1) is = drop-cons is k i below ∙ ap (λ z. z ∷ drop (suc k) is) (sym at) ∙ ap (λ n. i ∷ drop n is) (sym (add-one k)) in
    sym (ap (λ z. freed_with given z x) e) ∙ before

-- ---- the last place

or_true : (b : Bool) → b || true ≡ true
or_true true = refl
or_true false = refl

or_false : (b : Bool) → b || false ≡ b
or_false true = refl
or_false false = refl

-- An identifier occurs in a list with one more pair if it occurred before or the pair has it.
given_there : (i : ℕ) (ps : List (ℕ × Message)) (p : ℕ × Message) → eqb p.0 i ≡ true → is_given i (ps ++ p ∷ []) ≡ true
given_there i [] p e = ap (λ b. b || false) e
given_there i (q ∷ ps) p e = ap (λ b. eqb q.0 i || b) (given_there i ps p e) ∙ or_true (eqb q.0 i)

given_before : (i : ℕ) (ps : List (ℕ × Message)) (p : ℕ × Message) → eqb p.0 i ≡ false → is_given i (ps ++ p ∷ []) ≡ is_given i ps
given_before i [] p e = ap (λ b. b || false) e
given_before i (q ∷ ps) p e = ap (λ b. eqb q.0 i || b) (given_before i ps p e)

-- the last place of an identifier, with a pair behind the others
last_there : (i : ℕ) (ps : List (ℕ × Message)) (p : ℕ × Message) → eqb p.0 i ≡ true → last_place i (ps ++ p ∷ []) ≡ length ps
last_there i [] p e = refl
last_there i (q ∷ ps) p e =
    ap (λ b. cond b (last_place i (ps ++ p ∷ []) + 1) 0) (given_there i ps p e) ∙ ap (λ n. n + 1) (last_there i ps p e) ∙ add-one (length ps)

last_before : (i : ℕ) (ps : List (ℕ × Message)) (p : ℕ × Message) → eqb p.0 i ≡ false → last_place i (ps ++ p ∷ []) ≡ last_place i ps
last_before i [] p e = refl
last_before i (q ∷ ps) p e =
    ap (λ b. cond b (last_place i (ps ++ p ∷ []) + 1) 0) (given_before i ps p e) ∙ ap (λ n. cond (is_given i ps) (n + 1) 0) (last_before i ps p e)

last_by : (i : ℕ) (ps : List (ℕ × Message)) (p : ℕ × Message) (b : Bool) → eqb p.0 i ≡ b → last_place i (ps ++ p ∷ []) ≡ cond b (length ps) (last_place i ps)
last_by i ps p true e = last_there i ps p e
last_by i ps p false e = last_before i ps p e

pub last_more : (i : ℕ) (ps : List (ℕ × Message)) (p : ℕ × Message) → last_place i (ps ++ p ∷ []) ≡ cond (eqb p.0 i) (length ps) (last_place i ps)
last_more i ps p = last_by i ps p (eqb p.0 i) refl

-- places that say the last place of each identifier say it with a pair behind the others and its
-- place put in
unwrap_cond : (b : Bool) (n : ℕ) (o : Option ℕ) → unwrap_or (cond b (Some n) o) 0 ≡ cond b n (unwrap_or o 0)
unwrap_cond true n o = refl
unwrap_cond false n o = refl

pub places_more : (i : ℕ) (ps : List (ℕ × Message)) (p : ℕ × Message) (old new : Option ℕ) → unwrap_or old 0 ≡ last_place i ps
    → new ≡ cond (eqb p.0 i) (Some (length ps)) old → unwrap_or new 0 ≡ last_place i (ps ++ p ∷ [])
places_more i ps p old new before updates =
    ap (λ o. unwrap_or o 0) updates ∙ unwrap_cond (eqb p.0 i) (length ps) old ∙ ap (λ n. cond (eqb p.0 i) (length ps) n) before ∙ sym (last_more i ps p)
