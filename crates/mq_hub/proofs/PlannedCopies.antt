-- Planned copies, and sessions with room for them.
use Rattle.std.proofs.Common.{◌≡◌, ℕ, ◌<◌, Bool, true, false, cond, ◌&&◌, List, [], ◌∷◌, ◌++◌, Some, is_some, Result, Ok, Err, IfOk, T, refl, sym, ap, ap₂, ◌∙◌, append_assoc, eqb, ne_eqb, arith}
use Rattle.std.specs.FinMap.{is_sorted}
use Rattle.std.specs.FinMap.Entries.{below_all}
use Rattle.std.specs.Ordering.{nat_cmp, is_lt}
use Rattle.std.specs.declared.cmp.Ordering.{Ordering}
use Rattle.std.specs.declared.cmp.Ordering.TheVariants.{Less, Equal, Greater}
use Rattle.std.proofs.lemmas.Cmp.{ranked}
use Rattle.mq_topic.specs.declared.qos.Qos.{Qos}
use Rattle.mq_topic.specs.Rows.{matched}
use Rattle.mq_packet.specs.declared.message.Message.{Message}
use Rattle.mq_packet.specs.declared.packet.Request.{Request}
use Rattle.mq_route.specs.Copies.{copy, copy_by, is_hidden_name, retained_for}
use Rattle.mq_route.specs.Hub.{HubState, HubConnection, copies_of, for_key, up_on}
use Rattle.mq_route.specs.Work.{retained_copies}
use Rattle.mq_hub.specs.Inside.Placement.{AreApart, AreUpAlike, copies_found, is_among}

-- ---- copies for the clients that were found

pub found_alike : (xs ys : List HubConnection) (m : Message) (found : List (ℕ × Qos)) → AreUpAlike xs ys → copies_found ys m found ≡ copies_found xs m found
found_alike xs ys m [] alike = refl
found_alike xs ys m (f ∷ found) alike =
    ap₂ (λ (up : Bool) (rest : List (ℕ × Message)). for_key f.0 (copy_by up m (Some f.1)) ++ rest) (sym (alike f.0)) (found_alike xs ys m found alike)

pub found_is : (m : Message) (h : HubState) → is_hidden_name m.topic ≡ false → copies_found h.connections m (matched m.topic h.rows) ≡ copies_of m h
unfolding copies_of
found_is m h shown = rw shown refl

pub hidden_none : (m : Message) (h : HubState) → is_hidden_name m.topic ≡ true → [] ≡ copies_of m h
unfolding copies_of
hidden_none m h hidden = rw hidden refl

-- ---- no two for one client

first : (a b : Bool) → T (a && b) → T a
first true b p = tt
first false b p = p

second : (a b : Bool) → T (a && b) → T b
second true b p = p
second false b p = absurd p

less : (o : Ordering) → T (is_lt o) → o ≡ Less
less Less p = refl
less Equal p = absurd p
less Greater p = absurd p

apart_below : (c d : ℕ) → T (is_lt (nat_cmp c d)) → eqb d c ≡ false
apart_below c d h = let lt : c < d = ranked c d Less (sym (less (nat_cmp c d) h)) in ne_eqb d c (λ same. omega arith)

among_others : (key d : ℕ) (ms : List Message) (rest : List (ℕ × Message)) → eqb d key ≡ false → is_among key rest ≡ false → is_among key (for_key d ms ++ rest) ≡ false
among_others key d [] rest apart none = none
among_others key d (m ∷ ms) rest apart none = rw apart (among_others key d ms rest apart none)

none_found : (connections : List HubConnection) (m : Message) (key : ℕ) (found : List (ℕ × Qos)) → T (below_all nat_cmp key found) → is_among key (copies_found connections m found) ≡ false
none_found connections m key [] below = refl
none_found connections m key (f ∷ found) below =
    among_others key f.0 (copy_by (is_some (up_on f.0 connections)) m (Some f.1)) (copies_found connections m found) (apart_below key f.0 (first _ _ below)) (none_found connections m key found (second _ _ below))

one_more_apart : (key : ℕ) (b : Bool) (m : Message) (rest : List (ℕ × Message)) → is_among key rest ≡ false → AreApart rest → AreApart (for_key key (cond b [] (m ∷ [])) ++ rest)
one_more_apart key true m rest none apart = apart
one_more_apart key false m rest none apart = (none, apart)

pub found_apart : (connections : List HubConnection) (m : Message) (found : List (ℕ × Qos)) → T (is_sorted nat_cmp found) → AreApart (copies_found connections m found)
found_apart connections m [] sorted = tt
found_apart connections m (f ∷ found) sorted =
    one_more_apart f.0 _ (copy f.1 false m) (copies_found connections m found) (none_found connections m f.0 found (first _ _ sorted)) (found_apart connections m found (second _ _ sorted))

-- ---- retained messages

pub keyed : (key : ℕ) (xs ys : List Message) → for_key key (xs ++ ys) ≡ for_key key xs ++ for_key key ys
keyed key [] ys = refl
keyed key (x ∷ xs) ys = ap (λ (cs : List (ℕ × Message)). (key, x) ∷ cs) (keyed key xs ys)

pub retained_next : (key : ℕ) (r : Request) (later : List Request) (ms done found : List Message) → found ≡ retained_for r.filter r.qos ms
    → for_key key (done ++ found) ++ retained_copies key later ms ≡ for_key key done ++ retained_copies key (r ∷ later) ms
retained_next key r later ms done found e =
    ap (λ (cs : List (ℕ × Message)). cs ++ retained_copies key later ms) (keyed key done found)
    ∙ append_assoc (for_key key done) (for_key key found) (retained_copies key later ms)
    ∙ ap (λ (fs : List Message). for_key key done ++ (for_key key fs ++ retained_copies key later ms)) e

-- ---- an answer

pub if_ok : {X E : Type 0} {P Q : X → Type 0} (r : Result X E) → IfOk r P → ((x : X) → P x → Q x) → IfOk r Q
if_ok (Ok x) p f = f x p
if_ok (Err e) p f = tt
