-- Packets that come at once are as many arrivals.
use Rattle.std.proofs.Common.{◌≡◌, ℕ, zero, suc, cond, List, [], ◌∷◌, ◌++◌, length, refl, sym, ap, subst, ◌∙◌, append_assoc, append-nil}
use Rattle.mq_topic.specs.declared.qos.Qos.{Qos}
use Rattle.mq_topic.specs.declared.qos.Qos.TheVariants.{Q0, Q1, Q2}
use Rattle.mq_packet.specs.declared.message.Message.{Message}
use Rattle.mq_packet.specs.declared.packet.Packet.{Packet}
use Rattle.mq_flow.specs.Sender.{same_qos}
use Rattle.mq_end.specs.declared.state.State.{State}
use Rattle.mq_end.specs.declared.state.State.TheVariants.{Disconnected, Connecting, Connected}
use Rattle.mq_end.specs.declared.happening.Happening.{Happening}
use Rattle.mq_end.specs.declared.happening.Happening.TheVariants as happens
use Rattle.mq_end.specs.End.{End, Reply, silent, followed, one_by_one}
use Rattle.mq_world.specs.declared.side.Side.{Side}
use Rattle.mq_world.specs.declared.side.Side.TheVariants.{Client, Server}
use Rattle.mq_world.specs.Half.{Half, Arrives, joined, kept, put, took, told, freed_with, last_place, moved, gets}
use Rattle.mq_world.specs.Machine.{Machine, By, after}
use Rattle.mq_world.specs.Settling.{arrivals}
use Rattle.mq_world.specs.AtOnce.{AtOnceLaw}

-- Several arrivals at a side that faces another.
pub record Sides : Type 0 where
  pub near : Half
  pub far : Half

abbrev pub arrive_at : ℕ → Side → Half → Half → Sides
arrive_at zero side x y = record { near = x; far = y }
arrive_at (suc n) side x y = arrive_at n side (moved side Arrives x).half (put (moved side Arrives x).out y)

pub client_arrivals : (n : ℕ) (w : Machine)
    → arrivals n Client w ≡ record { client = (arrive_at n Client w.client w.server).near; server = (arrive_at n Client w.client w.server).far }
client_arrivals zero w = refl
client_arrivals (suc n) w = client_arrivals n (after w (By Client Arrives))

pub server_arrivals : (n : ℕ) (w : Machine)
    → arrivals n Server w ≡ record { client = (arrive_at n Server w.server w.client).far; server = (arrive_at n Server w.server w.client).near }
server_arrivals zero w = refl
server_arrivals (suc n) w = server_arrivals n (after w (By Server Arrives))

told_append : (q : Qos) (hs ks : List Happening) (ms : List Message) → told q (hs ++ ks) ms ≡ told q ks (told q hs ms)
told_append q [] ks ms = refl
told_append q (happens.Handed m ∷ hs) ks ms = told_append q hs ks (cond (same_qos q m.qos) (ms ++ m ∷ []) ms)
told_append q (h ∷ hs) ks ms = told_append q hs ks ms

freed_append : (given : List (ℕ × Message)) (is js places : List ℕ) → freed_with given (is ++ js) places ≡ freed_with given js (freed_with given is places)
freed_append given [] js places = refl
freed_append given (i ∷ is) js places = freed_append given is js (places ++ last_place i given ∷ [])

pub joined_nil : (st : State) (q : List Packet) → joined st q [] ≡ q
joined_nil Disconnected q = refl
joined_nil Connecting q = append-nil q
joined_nil Connected q = append-nil q

joined_both : (st : State) (q a b : List Packet) → joined st (joined st q a) b ≡ joined st q (a ++ b)
joined_both Disconnected q a b = refl
joined_both Connecting q a b = append_assoc q a b
joined_both Connected q a b = append_assoc q a b

pub closed_silent : (side : Side) (p : Packet) (e : End) → gets side p (record e { state = Disconnected }) ≡ silent (record e { state = Disconnected })
closed_silent Client p e = refl
closed_silent Server p e = refl

-- The two sides afterwards.
abbrev pub result : List Packet → Half → Half → Reply → Sides
result rest x y r = record { near = (took x rest r).half; far = put (took x rest r).out y }

-- a reply that follows another, as two moves
after_both : (rest : List Packet) (q : List Packet) (x y : Half) (r s : Reply) → result rest (took x q r).half (put r.out y) s ≡ result rest x y (followed r s)
after_both rest q x y r s =
    let a = told_append Q0 r.happenings s.happenings x.handed.at_most_once in
    let b = told_append Q1 r.happenings s.happenings x.handed.at_least_once in
    let c = told_append Q2 r.happenings s.happenings x.handed.exactly_once in
    let d = freed_append x.accepted.at_least_once r.freed s.freed x.freed in
    let e = joined_both y.end.state y.coming r.out s.out in
    λ i. record {
      near = record x {
        end = s.end;
        coming = kept s.end.state rest;
        handed = record { at_most_once = sym a i; at_least_once = sym b i; exactly_once = sym c i };
        freed = sym d i;
      };
      far = record y { coming = e i };
    }

first_comes : (side : Side) (p : Packet) (ps rest : List Packet) (h y : Half) (st : State)
    → ((x y : Half) → x.coming ≡ kept x.end.state (ps ++ rest) → arrive_at (length ps) side x y ≡ result rest x y (one_by_one (gets side) ps x.end))
    → arrive_at (length (p ∷ ps)) side (record h { end = record h.end { state = st }; coming = kept st (p ∷ (ps ++ rest)) }) y
    ≡ result rest (record h { end = record h.end { state = st }; coming = kept st (p ∷ (ps ++ rest)) }) y
    (one_by_one (gets side) (p ∷ ps) (record h.end { state = st }))
first_comes side p ps rest h y Disconnected next =
    let e : End = record h.end { state = Disconnected } in
    let x : Half = record h { end = e; coming = [] } in
    let s : Reply = one_by_one (gets side) ps e in
    let more : followed (gets side p e) (one_by_one (gets side) ps (gets side p e).end) ≡ s =
    ap (λ (r : Reply). followed r (one_by_one (gets side) ps r.end)) (closed_silent side p h.end) in
    let same : put [] y ≡ y = (λ i. record y { coming = joined_nil y.end.state y.coming i }) in
    next x (put [] y) refl ∙ (ap (λ (z : Half). result rest x z s) same ∙ ap (result rest x y) (sym more))
first_comes side p ps rest h y Connecting next =
    let x : Half = record h { end = record h.end { state = Connecting }; coming = p ∷ (ps ++ rest) } in
    let r : Reply = gets side p x.end in
    next (took x (ps ++ rest) r).half (put r.out y) refl ∙ after_both rest (ps ++ rest) x y r (one_by_one (gets side) ps r.end)
first_comes side p ps rest h y Connected next =
    let x : Half = record h { end = record h.end { state = Connected }; coming = p ∷ (ps ++ rest) } in
    let r : Reply = gets side p x.end in
    next (took x (ps ++ rest) r).half (put r.out y) refl ∙ after_both rest (ps ++ rest) x y r (one_by_one (gets side) ps r.end)

pub at_once : (side : Side) (ps rest : List Packet) (x y : Half) → x.coming ≡ kept x.end.state (ps ++ rest)
    → arrive_at (length ps) side x y ≡ result rest x y (one_by_one (gets side) ps x.end)
at_once side [] rest x y h =
    let e = joined_nil y.end.state y.coming in
    λ i. record { near = record x { coming = h i }; far = record y { coming = sym e i } }
at_once side (p ∷ ps) rest x y h =
    let P : List Packet → Type 0 =
    λ q. arrive_at (length (p ∷ ps)) side (record x { coming = q }) y ≡ result rest (record x { coming = q }) y (one_by_one (gets side) (p ∷ ps) x.end) in
    subst P (sym h) (first_comes side p ps rest x y x.end.state (λ x y h. at_once side ps rest x y h))

pub law : AtOnceLaw
law = record {
  client = λ ps rest w h. client_arrivals (length ps) w ∙
      ap (λ (s : Sides). record { client = s.near; server = s.far }) (at_once Client ps rest w.client w.server h);
  server = λ ps rest w h. server_arrivals (length ps) w ∙
      ap (λ (s : Sides). record { client = s.far; server = s.near }) (at_once Server ps rest w.server w.client h);
}
