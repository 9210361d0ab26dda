-- Packets that an end processes one after another, as far as it got.
use Rattle.std.proofs.Common.{◌≡◌, ℕ, List, [], ◌∷◌, ◌++◌, length, Option, Some, None, refl, sym, ap, subst, ◌∙◌, append_assoc, arith}
use Rattle.std.proofs.lemmas.List.{append-nil}
use Rattle.mq_packet.specs.declared.packet.Packet.{Packet}
use Rattle.mq_packet.specs.declared.packet.Packet.TheVariants as packets
use Rattle.mq_end.specs.declared.reason.CloseReason.{CloseReason}
use Rattle.mq_end.specs.declared.reason.CloseReason.TheVariants as reasons
use Rattle.mq_end.specs.declared.role.Role.{Role}
use Rattle.mq_end.specs.declared.role.Role.TheVariants.{Client, Server}
use Rattle.mq_end.specs.declared.state.State.{State}
use Rattle.mq_end.specs.declared.state.State.TheVariants as states
use Rattle.mq_end.specs.declared.progress_builder.ProgressBuilder.{ProgressBuilder}
use Rattle.mq_end.specs.End.{End, Reply, first_reason, followed, one_by_one, over, closes}
use Rattle.mq_end.specs.Both.{flow_gets}
use Rattle.mq_end.specs.Client.{client_gets_in}
use Rattle.mq_end.specs.Server.{server_gets_in}
use Rattle.mq_end.specs.State.{EndState, PutsOut}
use Rattle.mq_end.specs.Receiving.{Makes, Stays, Taken, TakesAll, Closed, Starved, gets_as}
use Rattle.mq_end.proofs.Replies.{puts_nothing, one_by_one_last, makes_nothing, makes_then, makes_end}

-- ---- an end that closes

pub closes_made : (reason : CloseReason) (old new : EndState) (t : ProgressBuilder) → new ≡ record old { end = over old.end; held = [] } → Makes (closes reason old.end) old new t t
closes_made reason old new t s = record {
  out = subst (λ (o : List ℕ). PutsOut [] old.output o) (sym same) (puts_nothing old.output);
  state = s ∙ ap (λ (o : List ℕ). record old { end = over old.end; output = o; held = [] }) (sym same);
  happenings = sym (append-nil t.happenings.items);
  acknowledged = sym (append-nil t.acknowledged.items);
}
  where
    same : new.output ≡ old.output
    same = ap (λ (x : EndState). x.output) s

-- If an allocation failed before.
pub closes_stays : (reason : CloseReason) (old mid new : EndState) (t u : ProgressBuilder) → Stays old mid t u → new ≡ record mid { end = over mid.end; held = [] } → Makes (closes reason old.end) old new t u
closes_stays reason old mid new t u stays s =
    let m = closes_made reason old new t (s ∙ ap (λ (x : EndState). record x { end = over x.end; held = [] }) stays.state) in
    record { out = m.out; state = m.state; happenings = stays.happenings ∙ m.happenings; acknowledged = stays.acknowledged ∙ m.acknowledged }

-- a packet that is of no flow
pub flow_default : (p : Packet) (e : End) → ((x : _) → p ≡ packets.Publish x → ⊥) → ((i : _) → p ≡ packets.PubAck i → ⊥) → ((i : _) → p ≡ packets.PubRec i → ⊥) → ((i : _) → p ≡ packets.PubRel i → ⊥) → ((i : _) → p ≡ packets.PubComp i → ⊥)
    → flow_gets p e ≡ closes reasons.Unexpected e
flow_default (packets.Publish x) e a b c d f = absurd (a x refl)
flow_default (packets.PubAck i) e a b c d f = absurd (b i refl)
flow_default (packets.PubRec i) e a b c d f = absurd (c i refl)
flow_default (packets.PubRel i) e a b c d f = absurd (d i refl)
flow_default (packets.PubComp i) e a b c d f = absurd (f i refl)
flow_default p e a b c d f = refl

-- an end without a connection takes nothing in
pub closed_makes : (role : Role) (p : Packet) (s : EndState) (t : ProgressBuilder) → s.end.state ≡ states.Disconnected → Makes (gets_as role p s.end) s s t t
closed_makes Client p s t h = subst (λ (st : State). Makes (client_gets_in st p s.end) s s t t) (sym h) (makes_nothing s t)
closed_makes Server p s t h = subst (λ (st : State). Makes (server_gets_in st p s.end) s s t t) (sym h) (makes_nothing s t)

-- ---- one packet after another

pub record Along (gets : Packet → End → Reply) (old now : EndState) (t u : ProgressBuilder) (ps : List Packet) : Type 0 where
  pub going : (one_by_one gets ps old.end).close ≡ None
  pub makes : Makes (one_by_one gets ps old.end) old now t u

pub along_none : (gets : Packet → End → Reply) (old : EndState) (t : ProgressBuilder) → Along gets old old t t []
along_none gets old t = record { going = refl; makes = makes_nothing old t }

joined : (gets : Packet → End → Reply) (old mid new : EndState) (t u v : ProgressBuilder) (ps : List Packet) (p : Packet) → Along gets old mid t u ps → Makes (gets p mid.end) mid new u v → Makes (one_by_one gets (ps ++ p ∷ []) old.end) old new t v
joined gets old mid new t u v ps p a k =
    let s = one_by_one gets ps old.end in
    subst (λ (r : Reply). Makes r old new t v) (sym (one_by_one_last gets ps p old.end))
    (makes_then s (gets p s.end) old mid new t u v a.going a.makes (subst (λ (e : End). Makes (gets p e) mid new u v) (makes_end s old mid t u a.makes) k))

closes_as : (gets : Packet → End → Reply) (old mid : EndState) (t u : ProgressBuilder) (ps : List Packet) (p : Packet) → Along gets old mid t u ps → (one_by_one gets (ps ++ p ∷ []) old.end).close ≡ (gets p mid.end).close
closes_as gets old mid t u ps p a =
    let s = one_by_one gets ps old.end in
    ap (λ (r : Reply). r.close) (one_by_one_last gets ps p old.end)
    ∙ ap (λ (c : Option CloseReason). first_reason c (gets p s.end).close) a.going
    ∙ ap (λ (e : End). (gets p e).close) (sym (makes_end s old mid t u a.makes))

pub along_more : (gets : Packet → End → Reply) (old mid new : EndState) (t u v : ProgressBuilder) (ps : List Packet) (p : Packet) → Along gets old mid t u ps → None ≡ (gets p mid.end).close → Makes (gets p mid.end) mid new u v → Along gets old new t v (ps ++ p ∷ [])
along_more gets old mid new t u v ps p a none k = record { going = closes_as gets old mid t u ps p a ∙ sym none; makes = joined gets old mid new t u v ps p a k }

-- The effect of all.
abbrev pub TakenAs : (Packet → End → Reply) → List Packet → EndState → EndState → ProgressBuilder → ProgressBuilder → Option CloseReason → Type 0
TakenAs gets items old new t v closed = (r : Reply) × Taken gets items old.end r × (closed ≡ r.close) × Makes r old new t v

pub taken_shut : (gets : Packet → End → Reply) (old mid new : EndState) (t u v : ProgressBuilder) (ps rest items : List Packet) (p : Packet) (reason : CloseReason)
    → Along gets old mid t u ps → items ≡ ps ++ p ∷ rest → Some reason ≡ (gets p mid.end).close → Makes (gets p mid.end) mid new u v → TakenAs gets items old new t v (Some reason)
taken_shut gets old mid new t u v ps rest items p reason a parts shut k =
    let r = one_by_one gets (ps ++ p ∷ []) old.end in
    let closed : r.close ≡ Some reason = closes_as gets old mid t u ps p a ∙ sym shut in
    (r, Closed (ps ++ p ∷ []) rest reason (parts ∙ sym (append_assoc ps (p ∷ []) rest)) closed refl, sym closed, joined gets old mid new t u v ps p a k)

pub taken_starved : (gets : Packet → End → Reply) (old mid new : EndState) (t u v : ProgressBuilder) (ps rest items : List Packet) (p : Packet)
    → Along gets old mid t u ps → items ≡ ps ++ p ∷ rest → Makes (closes reasons.Memory mid.end) mid new u v → TakenAs gets items old new t v (Some reasons.Memory)
taken_starved gets old mid new t u v ps rest items p a parts k =
    let s = one_by_one gets ps old.end in
    let x = closes reasons.Memory s.end in (
      followed s x,
      Starved ps rest p parts a.going refl,
      sym (ap (λ (c : Option CloseReason). first_reason c (Some reasons.Memory)) a.going),
      makes_then s x old mid new t u v a.going a.makes (subst (λ (e : End). Makes (closes reasons.Memory e) mid new u v) (makes_end s old mid t u a.makes) k),
    )

pub taken_all_in : (gets : Packet → End → Reply) (old new : EndState) (t v : ProgressBuilder) (ps items : List Packet) → Along gets old new t v ps → ps ≡ items → TakenAs gets items old new t v None
taken_all_in gets old new t v ps items a same =
    let b = subst (λ (qs : List Packet). Along gets old new t v qs) same a in
    (one_by_one gets items old.end, TakesAll b.going refl, sym b.going, b.makes)

pub nothing_left : {X : Type 0} (l : List X) → length l ≡ 0 → l ≡ []
nothing_left [] h = refl
nothing_left (x ∷ xs) h = absurd (omega arith)
