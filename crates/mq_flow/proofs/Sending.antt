-- Accepting and then sending is accepting while connected.
use Rattle.std.proofs.Common.{◌≡◌, ℕ, ◌+◌, Bool, true, false, cond, not, ◌&&◌, eqb, List, [], ◌∷◌, ◌++◌, map, filter, refl, sym, ap, subst, ◌∙◌, arith, inl, inr}
use Rattle.std.proofs.lemmas.Bool.{cases_eq, ne_eqb}
use Rattle.std.proofs.lemmas.List.{map-append}
use Rattle.std.proofs.lemmas.List.Elements.{filter-append}
use Rattle.mq_packet.specs.declared.message.Message.{Message}
use Rattle.mq_flow.specs.declared.entry.SenderEntry.{SenderEntry}
use Rattle.mq_flow.specs.Sender.{SenderBook, times, IsFree, accept, publish_packet, send, sent_packets}
use Rattle.mq_flow.specs.Laws.{SendingLaws}
use Rattle.mq_flow.proofs.Counting.{eqb_self, times_same, times_other}
use Rattle.mq_flow.proofs.Books.{times_uses}

-- the entry after its identifier is sent
abbrev pub marked : ℕ → SenderEntry → SenderEntry
marked i e = record { id = e.id; message = e.message; sent = cond (eqb e.id i) true e.sent }

others : (i : ℕ) (es : List SenderEntry) → times i (map (λ e. e.id) es) ≡ 0 → map (marked i) es ≡ es
others i [] z = refl
others i (e ∷ es) z =
    elim (cases_eq e.id i) [
      | inl s ↦ let h : times i (e.id ∷ map (λ e. e.id) es) ≡ 1 + times i (map (λ e. e.id) es) = rw s (times_same i (map (λ e. e.id) es)) in absurd (omega arith)
      | inr n ↦
          let h = times_other i e.id (map (λ e. e.id) es) n in
          let rest = others i es (omega arith) in
          let P : Bool → Type 0 = λ t. ◌≡◌ {A = List SenderEntry} (record { id = e.id; message = e.message; sent = cond t true e.sent } ∷ map (marked i) es) (e ∷ es) in
          subst P (sym (ne_eqb e.id i n)) (ap (λ (fs : List SenderEntry). e ∷ fs) rest)
    ]

unsent_others : (i : ℕ) (es : List SenderEntry) → times i (map (λ e. e.id) es) ≡ 0 → filter (λ e. eqb e.id i && not e.sent) es ≡ []
unsent_others i [] z = refl
unsent_others i (e ∷ es) z =
    elim (cases_eq e.id i) [
      | inl s ↦ let h : times i (e.id ∷ map (λ e. e.id) es) ≡ 1 + times i (map (λ e. e.id) es) = rw s (times_same i (map (λ e. e.id) es)) in absurd (omega arith)
      | inr n ↦
          let h = times_other i e.id (map (λ e. e.id) es) n in
          let rest = unsent_others i es (omega arith) in
          let P : Bool → Type 0 = λ t. cond (t && not e.sent) (e ∷ filter (λ e. eqb e.id i && not e.sent) es) (filter (λ e. eqb e.id i && not e.sent) es) ≡ [] in
          subst P (sym (ne_eqb e.id i n)) rest
    ]

free_entries : (b : SenderBook) (i : ℕ) → IsFree b i → times i (map (λ e. e.id) b.entries) ≡ 0
free_entries b i free = let z = free.1 in let e = times_uses i b in omega arith

both : (i : ℕ) (m : Message) (b : SenderBook) → IsFree b i → send i (accept i m false b) ≡ accept i m true b
both i m b free =
    let new : SenderEntry = record { id = i; message = m; sent = false } in
    let one : List SenderEntry = record { id = i; message = m; sent = true } ∷ [] in
    let last : map (marked i) (new ∷ []) ≡ one = ap (λ (t : Bool). let e : SenderEntry = record { id = i; message = m; sent = cond t true false } in e ∷ []) (eqb_self i) in
    let all : map (marked i) (b.entries ++ new ∷ []) ≡ b.entries ++ one =
    map-append (marked i) b.entries (new ∷ [])
    ∙ (ap (λ (fs : List SenderEntry). fs ++ map (marked i) (new ∷ [])) (others i b.entries (free_entries b i free))
    ∙ ap (λ (fs : List SenderEntry). b.entries ++ fs) last) in
    ap (λ (fs : List SenderEntry). record b { entries = fs }) all

packet : (i : ℕ) (m : Message) (b : SenderBook) → IsFree b i → sent_packets i (accept i m false b) ≡ publish_packet i false m ∷ []
packet i m b free =
    let new : SenderEntry = record { id = i; message = m; sent = false } in
    let test : SenderEntry → Bool = λ e. eqb e.id i && not e.sent in
    let last : filter test (new ∷ []) ≡ new ∷ [] = ap (λ (t : Bool). cond (t && true) (new ∷ []) []) (eqb_self i) in
    let all : filter test (b.entries ++ new ∷ []) ≡ new ∷ [] =
    filter-append test b.entries (new ∷ []) ∙ (ap (λ (fs : List SenderEntry). fs ++ filter test (new ∷ [])) (unsent_others i b.entries (free_entries b i free)) ∙ last) in
    ap (λ (fs : List SenderEntry). map (λ e. publish_packet e.id false e.message) fs) all

pub sending : SendingLaws
sending = record { both = both; packet = packet }
