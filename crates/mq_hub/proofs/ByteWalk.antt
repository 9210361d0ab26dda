-- The walk over the bytes of a connection, packet by packet.
use Rattle.std.proofs.Common.{◌≡◌, ◌⊎◌, ◌∙◌, ℕ, ◌+◌, ◌<◌, true, false, List, ◌++◌, [], inl, inr, length, take, drop, refl, sym, ap, subst, append-nil}
use Rattle.std.proofs.lemmas.List.{append_assoc, take-append-drop, length-take-le}
use Rattle.std.proofs.Math.Seq.{take-add, take-length}
use Rattle.mq_decode.specs.Grammar.{Pending}
use Rattle.mq_decode.specs.Limits.{Bounds}
use Rattle.mq_route.specs.declared.act.Act.{Act}
use Rattle.mq_route.specs.declared.conn.Conn.{Conn}
use Rattle.mq_route.specs.Hub.{HubState, is_open, stage_of}
use Rattle.mq_tables.proofs.PendingBytes.{takes_some}
use Rattle.mq_hub.specs.Inside.Input.{RefinesBytes, HandlesPacket, with_held}
use Rattle.mq_hub.proofs.InputBytes.{arrives_by, waits_by, lets_go_by}

-- a result of these bytes and further ones is a result of all bytes
abbrev pub LeadsOn : Bounds → Conn → ℕ → List ℕ → HubState → List Act → List ℕ → HubState → List Act → Type 0
LeadsOn limits k most all old said left new says = (more : List ℕ) (end : HubState) (ends : List Act) → RefinesBytes limits k most (left ++ more) new says end ends
    → RefinesBytes limits k most (all ++ more) old said end ends

-- a packet takes bytes that came
pub some_past : (own : Bounds) (k : Conn) (held rest : List ℕ) (count : ℕ) (old new : HubState) (said says : List Act) → Pending own held
    → HandlesPacket own k held rest count old said new says → 0 < count
some_past own k held rest count old new said says pending taken =
    subst (λ (n : ℕ). 0 < n) (length-take-le count rest taken.within) (takes_some own held (take count rest) taken.packet pending taken.reads)

-- so it is at the start
pub leads_first : (limits : Bounds) (k : Conn) (most : ℕ) (held piece : List ℕ) (old : HubState) (said : List Act)
    → LeadsOn limits k most (held ++ take 0 piece) old said held old said
leads_first limits k most held piece old said = λ more end ends later.
    subst (λ (b : List ℕ). RefinesBytes limits k most (b ++ more) old said end ends) (sym (append-nil held)) later

module _ (limits own : Bounds) (k : Conn) (most : ℕ) (piece begun held rest : List ℕ) (used : ℕ) (first old new : HubState) (starts said says : List Act)
    (same : own ≡ limits) (here : rest ≡ drop used piece) (is_on : is_open (stage_of k old.connections) ≡ true)
    (leads : LeadsOn limits k most (begun ++ take used piece) first starts held old said) where
  -- the bytes of a packet are among those that came
  past : (more : List ℕ) (count : ℕ) → (begun ++ take used piece) ++ (take count rest ++ more) ≡ (begun ++ take (used + count) piece) ++ more
  past more count =
      append_assoc begun (take used piece) (take count rest ++ more)
      ∙ ap (λ (b : List ℕ). begun ++ b)
      (sym (append_assoc (take used piece) (take count rest) more)
      ∙ ap (λ (b : List ℕ). b ++ more) (ap (λ (b : List ℕ). take used piece ++ take count b) here ∙ sym (take-add used count piece)))
      ∙ sym (append_assoc begun (take (used + count) piece) more)

  -- a packet came, and then the rest: there is none, or the acts are below the limit
  packet_then : (more : List ℕ) (count : ℕ) (end : HubState) (ends : List Act) → HandlesPacket own k held rest count old said new says
      → (more ≡ []) ⊎ (length says < most) → RefinesBytes limits k most more new says end ends
      → RefinesBytes limits k most ((begun ++ take (used + count) piece) ++ more) first starts end ends
  packet_then more count end ends taken gap later =
      let within = subst (λ (l : Bounds). HandlesPacket l k held rest count old said new says) same taken in
      subst (λ (b : List ℕ). RefinesBytes limits k most b first starts end ends) (past more count)
      (leads (take count rest ++ more) end ends (arrives_by limits k most held rest more count old new end said says ends is_on within gap later))

  -- the walk goes on
  pub leads_past : (kept : List ℕ) (count : ℕ) → HandlesPacket own k held rest count old said new says → kept ≡ [] → length says < most
      → LeadsOn limits k most (begun ++ take (used + count) piece) first starts kept new says
  leads_past kept count taken none few = λ more end ends later.
      packet_then more count end ends taken (inr few) (subst (λ (b : List ℕ). RefinesBytes limits k most (b ++ more) new says end ends) none later)

  -- it stops behind the packet
  pub stops_past : (count : ℕ) (end : HubState) (ends : List Act) → HandlesPacket own k held rest count old said new says
      → RefinesBytes limits k most [] new says end ends → RefinesBytes limits k most (begun ++ take (used + count) piece) first starts end ends
  stops_past count end ends taken later =
      subst (λ (b : List ℕ). RefinesBytes limits k most b first starts end ends) (append-nil (begun ++ take (used + count) piece))
      (packet_then [] count end ends taken (inl refl) later)

  -- all bytes that are left have this result
  pub ends_past : (taken : ℕ) (end : HubState) (ends : List Act) → taken ≡ length piece → RefinesBytes own k most (held ++ rest) old said end ends
      → RefinesBytes limits k most (begun ++ take taken piece) first starts end ends
  ends_past taken end ends all later =
      let within = subst (λ (l : Bounds). RefinesBytes l k most (held ++ rest) old said end ends) same later in
      subst (λ (b : List ℕ). RefinesBytes limits k most b first starts end ends)
      (append_assoc begun (take used piece) rest
      ∙ ap (λ (b : List ℕ). begun ++ b)
      (ap (λ (b : List ℕ). take used piece ++ b) here ∙ take-append-drop used piece ∙ sym (ap (λ (n : ℕ). take n piece) all ∙ take-length piece)))
      (leads rest end ends within)

  -- an incomplete packet is left, and is held
  pub waits_past : (taken : ℕ) (mid : HubState) (kept : List ℕ) → taken ≡ length piece → Pending own (held ++ rest) → mid ≡ old → says ≡ said
      → kept ≡ held ++ rest → new ≡ with_held k kept mid → RefinesBytes limits k most (begun ++ take taken piece) first starts new says
  waits_past taken mid kept all pending stays quiet holds after =
      ends_past taken new says all
      (subst (λ (h : HubState). RefinesBytes own k most (held ++ rest) old said h says) (sym (after ∙ λ i. with_held k (holds i) (stays i)))
      (subst (λ (acts : List Act). RefinesBytes own k most (held ++ rest) old said (with_held k (held ++ rest) old) acts) (sym quiet)
      (waits_by own k most (held ++ rest) old said is_on pending)))

-- the connection is closed and drops the bytes that are left
pub closed_past : (limits : Bounds) (k : Conn) (most : ℕ) (piece begun held : List ℕ) (used taken : ℕ) (first old : HubState) (starts said : List Act)
    → LeadsOn limits k most (begun ++ take used piece) first starts held old said → is_open (stage_of k old.connections) ≡ false → taken ≡ length piece
    → RefinesBytes limits k most (begun ++ take taken piece) first starts old said
closed_past limits k most piece begun held used taken first old starts said leads closed all =
    subst (λ (b : List ℕ). RefinesBytes limits k most b first starts old said)
    (append_assoc begun (take used piece) (drop used piece)
    ∙ ap (λ (b : List ℕ). begun ++ b) (take-append-drop used piece ∙ sym (ap (λ (n : ℕ). take n piece) all ∙ take-length piece)))
    (leads (drop used piece) old said (lets_go_by limits k most (held ++ drop used piece) old said closed))
