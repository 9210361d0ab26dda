-- Packets that are sent one after another, from the front of a list.
use Rattle.std.proofs.Common.{◌≡◌, ℕ, Bool, true, false, ◌||◌, List, [], ◌∷◌, ◌++◌, Result, Ok, Err, refl, sym, ap, subst, ◌∙◌, append_assoc}
use Rattle.std.specs.Result.{OnOk}
use Rattle.std.specs.List.{list_any}
use Rattle.std.proofs.lemmas.List.{append-nil}
use Rattle.mq_packet.specs.declared.packet.Packet.{Packet}
use Rattle.mq_packet.specs.Encoding.{Encodes}
use Rattle.mq_end.specs.State.{EncodesAll, PutsOut}
use Rattle.mq_end.specs.Waiting.{Waiting}
use Rattle.mq_end.proofs.Replies.{puts_then}

-- The output for the remaining packets behind the present bytes is the output for all behind the
-- old ones.
pub record Onward (left all : List Packet) (old now : List ℕ) : Type 0 where
  pub whole : (b : List ℕ) → EncodesAll left b → PutsOut all old (now ++ b)

pub at_first : (left all : List Packet) (old : List ℕ) → left ≡ all → Onward left all old old
at_first left all old e = record { whole = λ b h. (b, subst (λ (ps : List Packet). EncodesAll ps b) e h, refl) }

pub one_more : (p : Packet) (left rest all : List Packet) (old now new : List ℕ) → left ≡ p ∷ rest → Onward left all old now → (s : List ℕ) × Encodes p s × (new ≡ now ++ s) → Onward rest all old new
one_more p left rest all old now new e o k = record {
  whole = λ b h.
      subst (PutsOut all old) (sym (append_assoc now k.0 b) ∙ ap (λ (t : List ℕ). t ++ b) (sym k.2))
      (o.whole (k.0 ++ b) (subst (λ (ps : List Packet). EncodesAll ps (k.0 ++ b)) (sym e) (k.0, b, k.1, h, refl)));
}

pub at_last : (left all : List Packet) (old now : List ℕ) → left ≡ [] → Onward left all old now → PutsOut all old now
at_last left all old now e o = subst (PutsOut all old) (append-nil now) (o.whole [] (subst (λ (ps : List Packet). EncodesAll ps []) (sym e) refl))

-- the bytes of a packet that was put behind others
pub bytes_behind : (p : Packet) (old new : Waiting) → (b : List ℕ) × Encodes p b × (new ≡ record old { bytes = old.bytes ++ b }) → (b : List ℕ) × Encodes p b × (new.bytes ≡ old.bytes ++ b)
bytes_behind p old new h = (h.0, h.1, ap (λ (w : Waiting). w.bytes) h.2)

-- bytes are put behind others
pub not_grown : (old : List ℕ) → (rest : List ℕ) × (old ≡ old ++ rest)
not_grown old = ([], sym (append-nil old))

pub grown_twice : (old mid new : List ℕ) → (a : List ℕ) × (mid ≡ old ++ a) → (b : List ℕ) × (new ≡ mid ++ b) → (rest : List ℕ) × (new ≡ old ++ rest)
grown_twice old mid new a b = (a.0 ++ b.0, b.1 ∙ ap (λ (t : List ℕ). t ++ b.0) a.1 ∙ append_assoc old a.0 b.0)

pub grown_more : (p : Packet) (old now new : List ℕ) → (rest : List ℕ) × (now ≡ old ++ rest) → (s : List ℕ) × Encodes p s × (new ≡ now ++ s) → (rest : List ℕ) × (new ≡ old ++ rest)
grown_more p old now new g k = grown_twice old now new g (k.0, k.2)

pub put_grown : (ps : List Packet) (old new : List ℕ) → PutsOut ps old new → (rest : List ℕ) × (new ≡ old ++ rest)
put_grown ps old new p = (p.0, p.2)

-- The first packets are sent, then the others.
pub both_put : {T E : Type 0} (r : Result T E) (ps qs all : List Packet) (a b c : List ℕ) → ps ++ qs ≡ all → PutsOut ps a b → OnOk r (PutsOut qs b c) → OnOk r (PutsOut all a c)
both_put (Ok x) ps qs all a b c e h k = subst (λ (t : List Packet). PutsOut t a c) e (puts_then ps qs a b c h k)
both_put (Err x) ps qs all a b c e h k = tt

second : (a b : Bool) → (a || b) ≡ false → b ≡ false
second false b h = h
second true b h = absurd cc

-- A property that no item of a list has, no item behind its first has.
pub none_left : {A : Type 0} (test : A → Bool) (x : A) (xs all : List A) → all ≡ x ∷ xs → list_any test all ≡ false → list_any test xs ≡ false
none_left test x xs all e h = second (test x) (list_any test xs) (ap (list_any test) (sym e) ∙ h)
