-- The lines of the messages that each client collected.
use Rattle.std.proofs.Common.{◌≡◌, ◌⊎◌, ℕ, ◌-◌, ◌≤◌, ◌<◌, List, [], ◌∷◌, ◌++◌, length, take, drop, get_or, map, Option, Some, None, Vec, refl, sym, ap, subst, inl, inr, ◌∙◌, append_assoc, append-nil, arith}
use Rattle.std.specs.Io.KnownBytes.{Appends}
use Rattle.std.proofs.Math.Seq.{take-length}
use Rattle.mq_packet.specs.declared.message.Message.{Message}
use Rattle.mq_loopback.specs.declared.client.Client.{Client}
use Rattle.mq_loopback.specs.Printed.{collected_lines, role_lines}

-- one text after another
appends_then : (a b c : Option (List ℕ)) (x y : List ℕ) → Appends a b x → Appends b c y → Appends a c (x ++ y)
appends_then None b c x y h k = tt
appends_then (Some xs) None c x y h k = absurd h
appends_then (Some xs) (Some ys) None x y h k = absurd k
appends_then (Some xs) (Some ys) (Some zs) x y h k = k ∙ (ap (λ (t : List ℕ). t ++ y) h ∙ append_assoc xs x y)

-- a list without its first element
tail_is : {A : Type 0} (x : A) (xs : List A) → take (length (x ∷ xs) - 1) (drop 1 (x ∷ xs)) ≡ xs
tail_is x xs = let size : length (x ∷ xs) - 1 ≡ length xs = omega arith in ap (λ (n : ℕ). take n xs) size ∙ take-length xs

-- The output, followed by the lines of the remaining clients.
abbrev pub Partly : {Z : Type 0} → Option (List ℕ) → Option (List ℕ) → List Client → List (Vec Message Z) → List ℕ → Type 0
Partly old new left lists whole = (text : List ℕ) × Appends old new text × (text ++ collected_lines left (map (λ v. v.items) lists) ≡ whole)

-- the lines of one client more
pub lines_more : {Z : Type 0} (old mid new : Option (List ℕ)) (left : List Client) (lists : List (Vec Message Z)) (client : Client) (messages : Vec Message Z) (own : List Message) (whole : List ℕ)
    → 1 ≤ length left → 1 ≤ length lists → client ≡ get_or left 0 client → messages ≡ get_or lists 0 messages → own ≡ messages.items → Partly old mid left lists whole → Appends mid new (role_lines client.name client.role own)
    → Partly old new (take (length left - 1) (drop 1 left)) (take (length lists - 1) (drop 1 lists)) whole
lines_more old mid new [] lists client messages own whole some many first own_is same h k = absurd (omega (arith, some))
lines_more old mid new (x ∷ left) [] client messages own whole some many first own_is same h k = absurd (omega (arith, many))
lines_more {Z} old mid new (x ∷ left) (v ∷ lists) client messages own whole some many first own_is same h k =
    let lines : List ℕ = role_lines client.name client.role own in
    let mine : lines ≡ role_lines x.name x.role v.items = ap (λ (c : Client). role_lines c.name c.role own) first ∙ ap (role_lines x.name x.role) (same ∙ ap (λ (u : Vec Message Z). u.items) own_is) in
    let rest : List ℕ = collected_lines left (map (λ v. v.items) lists) in
    let whole_is : (h.0 ++ lines) ++ rest ≡ whole = append_assoc h.0 lines rest ∙ ap (λ (t : List ℕ). h.0 ++ (t ++ rest)) mine ∙ h.2 in
    rw (tail_is x left, tail_is v lists) (h.0 ++ lines, appends_then old mid new h.0 lines h.1 k, whole_is)

nothing_left : {Z : Type 0} (left : List Client) (lists : List (Vec Message Z)) → (length left < 1) ⊎ (length lists < 1) → collected_lines left (map (λ v. v.items) lists) ≡ []
nothing_left [] lists h = refl
nothing_left (x ∷ left) [] h = refl
nothing_left (x ∷ left) (v ∷ lists) (inl h) = absurd (omega (arith, h))
nothing_left (x ∷ left) (v ∷ lists) (inr h) = absurd (omega (arith, h))

-- none is left
pub lines_all : {Z : Type 0} (old new : Option (List ℕ)) (left : List Client) (lists : List (Vec Message Z)) (whole : List ℕ) → (length left < 1) ⊎ (length lists < 1) → Partly old new left lists whole → Appends old new whole
lines_all old new left lists whole none h = subst (Appends old new) (sym (append-nil h.0) ∙ ap (λ (t : List ℕ). h.0 ++ t) (sym (nothing_left left lists none)) ∙ h.2) h.1
