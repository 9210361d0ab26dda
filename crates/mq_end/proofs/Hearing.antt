-- The reaction of an end to received bytes.
use Rattle.std.proofs.Common.{◌≡◌, inl, inr, ℕ, ◌==◌, Bool, true, false, cond, not, List, [], ◌∷◌, ◌++◌, length, Option, Some, None, refl, sym, ap, subst, ◌∙◌, ◌&&◌, append_assoc}
use Rattle.std.proofs.Math.Dec.{eqb-suc-zero}
use Rattle.mq_packet.specs.declared.packet.Packet.{Packet}
use Rattle.mq_decode.specs.declared.fault.DecodeFault.{DecodeFault}
use Rattle.mq_decode.specs.Limits.{Bounds}
use Rattle.mq_decode.specs.Grammar.{Stream, Pending, Reading, Begins}
use Rattle.mq_decode.specs.Laws.{ReadsAgain}
use Rattle.mq_end.specs.declared.reason.CloseReason.{CloseReason}
use Rattle.mq_end.specs.declared.reason.CloseReason.TheVariants as reasons
use Rattle.mq_end.specs.declared.role.Role.{Role}
use Rattle.mq_end.specs.declared.role.Role.TheVariants.{Client, Server}
use Rattle.mq_end.specs.declared.happening.Happening.{Happening}
use Rattle.mq_end.specs.declared.progress_builder.ProgressBuilder.{ProgressBuilder}
use Rattle.mq_end.specs.End.{End, Reply, is_live, is_up, first_reason, followed, closes}
use Rattle.mq_end.specs.Server.{level_refused}
use Rattle.mq_end.specs.State.{EndState, PutsOut, is_level}
use Rattle.mq_end.specs.Receiving.{Acts, Receives, Shows, Makes, Taken, Hears, HearsAt, HeardAs, held_after, gets_as, faulted_as}
use Rattle.mq_end.specs.Inside.Receiving.{ReceivesAs, IsBreak, heard_as}
use Rattle.mq_end.proofs.Replies.{makes_then, quiet}
use Rattle.mq_end.proofs.Received.{received_shut, received_all, received_fault, received_fault_starved, received_starved}

-- the end after its packets were taken out of the bytes
abbrev pub with_held : EndState → List ℕ → EndState
with_held old h = record old { held = h }

held_is : (old new : EndState) (h : List ℕ) (t u : ProgressBuilder) (r : Reply) → Makes r (with_held old h) new t u → new.held ≡ held_after r.close h
held_is old new h t u r m = ap (λ (s : EndState). s.held) m.state

held_none : (old new : EndState) (h : List ℕ) (t u : ProgressBuilder) (r : Reply) (reason : CloseReason) → Makes r (with_held old h) new t u → r.close ≡ Some reason → new.held ≡ []
held_none old new h t u r reason m shut = held_is old new h t u r m ∙ ap (λ (c : Option CloseReason). held_after c h) shut

held_all : (old new : EndState) (h : List ℕ) (t u : ProgressBuilder) (r : Reply) → Makes r (with_held old h) new t u → r.close ≡ None → new.held ≡ h
held_all old new h t u r m none = held_is old new h t u r m ∙ ap (λ (c : Option CloseReason). held_after c h) none

moment_is : (old new : EndState) (h : List ℕ) (t u : ProgressBuilder) (r : Reply) → Makes r (with_held old h) new t u → new.last_activity ≡ old.last_activity
moment_is old new h t u r m = ap (λ (s : EndState). s.last_activity) m.state

hears_from : (role : Role) (now : ℕ) (piece : List ℕ) (old mid new : EndState) (h : List ℕ) (t u : ProgressBuilder) (r : Reply) (closed : Option CloseReason)
    → Receives old.limit (gets_as role) (faulted_as role) (old.held ++ piece) old.end r new.held → Makes r (with_held old h) mid t u → new ≡ record mid { last_activity = new.last_activity }
    → HeardAs role now (old.held ++ piece) closed old new → closed ≡ r.close → Hears role now piece old new t u closed
hears_from role now piece old mid new h t u r closed receives m later heard close = record {
  reply = r;
  receives = receives;
  out = subst (λ (o : List ℕ). PutsOut r.out old.output o) (sym out_is) m.out;
  state = later
      ∙ ap (λ (s : EndState). record s { last_activity = new.last_activity }) m.state
      ∙ ap (λ (o : List ℕ). record old { end = r.end; output = o; held = held_after r.close h; last_activity = new.last_activity }) (sym out_is)
      ∙ ap (λ (hs : List ℕ). record old { end = r.end; output = new.output; held = hs; last_activity = new.last_activity }) (sym (ap (λ (s : EndState). s.held) later ∙ held_is old mid h t u r m));
  heard = heard;
  happenings = m.happenings;
  acknowledged = m.acknowledged;
  close = close;
}
  where
    out_is : new.output ≡ mid.output
    out_is = ap (λ (s : EndState). s.output) later

-- ---- The time of last activity

-- An end that closes keeps its time.
heard_shut : (role : Role) (now : ℕ) (b : List ℕ) (reason : CloseReason) (old new : EndState) → new.last_activity ≡ old.last_activity → HeardAs role now b (Some reason) old new
heard_shut Client now b reason old new same = same
heard_shut Server now b reason old new same = record { waits = λ p. same; closes = λ s. same; hears = λ none. cc }

-- no packet is whole in bytes that are pending
pending_none : (limit : Bounds) (ps : List Packet) (b front rest : List ℕ) → Stream limit ps front → b ≡ front ++ rest → Pending limit b → ps ≡ []
pending_none limit [] b front rest stream parts pending = refl
pending_none limit (p ∷ ps) b front rest h parts pending =
    absurd (pending.not_whole p h.0 (h.1 ++ rest) h.2 (parts ∙ ap (λ (t : List ℕ). t ++ rest) h.4 ∙ append_assoc h.0 h.1 rest))

-- bytes without a whole packet are the rest behind none
none_pending : (limit : Bounds) (b front rest : List ℕ) → front ≡ [] → b ≡ front ++ rest → Pending limit rest → Pending limit b
none_pending limit b front rest none parts pending = subst (λ (t : List ℕ). Pending limit t) (sym (parts ∙ ap (λ (t : List ℕ). t ++ rest) none)) pending

-- The server's time, depending on whether a complete packet arrived.
server_heard : (now : ℕ) (ps : List Packet) (b rest : List ℕ) (old new : EndState) → Reading old.limit b ps rest None → new.last_activity ≡ cond (not (length ps == 0)) now old.last_activity → HearsAt now b None old new
server_heard now [] b rest old new reading last_activity =
    let pending = none_pending old.limit b reading.front rest reading.stream reading.parts reading.ends in
    record { waits = λ p. last_activity; closes = λ s. last_activity; hears = λ none whole. absurd (whole pending) }
server_heard now (p ∷ ps) b rest old new reading last_activity = record {
  waits = λ pending. absurd (some_none p ps (pending_none old.limit (p ∷ ps) b reading.front rest reading.stream reading.parts pending));
  closes = λ s. cc;
  hears = λ none whole. last_activity ∙ ap (λ (t : Bool). cond (not t) now old.last_activity) (eqb-suc-zero (length ps));
}
  where
    some_none : (q : Packet) (qs : List Packet) → q ∷ qs ≡ [] → ⊥
    some_none q qs h = cc

heard_open : (role : Role) (now : ℕ) (ps : List Packet) (b rest : List ℕ) (old new : EndState) → Reading old.limit b ps rest None → new.last_activity ≡ heard_as role (not (length ps == 0)) now old.last_activity → HeardAs role now b None old new
heard_open Client now ps b rest old new reading last_activity = last_activity
heard_open Server now ps b rest old new reading last_activity = server_heard now ps b rest old new reading last_activity

-- An end keeps its time, with or without a connection.
kept_by : (live : Bool) (old new : EndState) → (live ≡ true → new.last_activity ≡ old.last_activity) → (live ≡ false → new ≡ old) → new.last_activity ≡ old.last_activity
kept_by true old new at_live at_shut = at_live refl
kept_by false old new at_live at_shut = ap (λ (s : EndState). s.last_activity) (at_shut refl)

pub kept_moment : (old new : EndState) → (is_live old.end.state ≡ true → new.last_activity ≡ old.last_activity) → (is_live old.end.state ≡ false → new ≡ old) → new.last_activity ≡ old.last_activity
kept_moment old new at_live at_shut = kept_by (is_live old.end.state) old new at_live at_shut

-- ---- The reaction to the bytes

pub hears_shut : (role : Role) (now : ℕ) (piece : List ℕ) (old new : EndState) (h : List ℕ) (t u : ProgressBuilder) (r : Reply) (ps : List Packet) (front rest : List ℕ) (reason : CloseReason)
    → ReadsAgain → Stream old.limit ps front → old.held ++ piece ≡ front ++ rest → Taken (gets_as role) ps old.end r → Makes r (with_held old h) new t u → Some reason ≡ r.close → Hears role now piece old new t u (Some reason)
hears_shut role now piece old new h t u r ps front rest reason again stream parts taken m shut =
    hears_from role now piece old new new h t u r (Some reason)
    (received_shut old.limit (gets_as role) (faulted_as role) ps (old.held ++ piece) front rest old.end r reason new.held again stream parts taken (sym shut) (held_none old new h t u r reason m (sym shut)))
    m refl (heard_shut role now (old.held ++ piece) reason old new (moment_is old new h t u r m)) shut

-- mid: the end before the time is recorded.
pub hears_all : (role : Role) (now : ℕ) (piece : List ℕ) (old mid new : EndState) (h : List ℕ) (t u : ProgressBuilder) (r : Reply) (ps : List Packet)
    → Reading old.limit (old.held ++ piece) ps h None → Taken (gets_as role) ps old.end r → Makes r (with_held old h) mid t u → None ≡ r.close
    → new ≡ record mid { last_activity = heard_as role (not (length ps == 0)) now mid.last_activity } → Hears role now piece old new t u None
hears_all role now piece old mid new h t u r ps reading taken m none later =
    hears_from role now piece old mid new h t u r None
    (received_all old.limit (gets_as role) (faulted_as role) ps (old.held ++ piece) h old.end r new.held reading taken (sym none) (ap (λ (s : EndState). s.held) later ∙ held_all old mid h t u r m (sym none)))
    m (later ∙ ap (λ (n : ℕ). record mid { last_activity = n }) (sym last_activity)) (heard_open role now ps (old.held ++ piece) h old new reading (last_activity ∙ ap (λ (n : ℕ). heard_as role (not (length ps == 0)) now n) (moment_is old mid h t u r m))) none
  where
    last_activity : new.last_activity ≡ heard_as role (not (length ps == 0)) now mid.last_activity
    last_activity = ap (λ (s : EndState). s.last_activity) later

-- two replies, of which the second closes
twice : (old mid new : EndState) (h : List ℕ) (t u v : ProgressBuilder) (r x : Reply) → None ≡ r.close → Makes r (with_held old h) mid t u → Makes x mid new u v → Makes (followed r x) (with_held old h) new t v
twice old mid new h t u v r x none m k = makes_then r x (with_held old h) mid new t u v (sym none) m k

close_is : (r x : Reply) (reason : CloseReason) → None ≡ r.close → Some reason ≡ x.close → Some reason ≡ (followed r x).close
close_is r x reason none shut = shut ∙ ap (λ (c : Option CloseReason). first_reason c x.close) none

pub hears_starved : (role : Role) (now : ℕ) (piece : List ℕ) (old mid new : EndState) (h : List ℕ) (t u v : ProgressBuilder) (r : Reply) (ps : List Packet)
    → Begins old.limit (old.held ++ piece) ps → Taken (gets_as role) ps old.end r → Makes r (with_held old h) mid t u → None ≡ r.close → Makes (closes reasons.Memory r.end) mid new u v → Hears role now piece old new t v (Some reasons.Memory)
hears_starved role now piece old mid new h t u v r ps begins taken m none k =
    let x = closes reasons.Memory r.end in
    let both = twice old mid new h t u v r x none m k in
    hears_from role now piece old new new h t v (followed r x) (Some reasons.Memory)
    (subst (λ (hs : List ℕ). Receives old.limit (gets_as role) (faulted_as role) (old.held ++ piece) old.end (followed r x) hs) (sym (held_none old new h t v (followed r x) reasons.Memory both (sym (close_is r x reasons.Memory none refl))))
    (received_starved old.limit (gets_as role) (faulted_as role) ps (old.held ++ piece) old.end r begins taken (sym none)))
    both refl (heard_shut role now (old.held ++ piece) reasons.Memory old new (moment_is old new h t v (followed r x) both)) (close_is r x reasons.Memory none refl)

-- bytes that are not a packet tell nothing
faulted_quiet : (role : Role) (fault : DecodeFault) (e : End) → ((faulted_as role fault e).happenings ≡ []) × ((faulted_as role fault e).freed ≡ [])
faulted_quiet Client fault e = (refl, refl)
faulted_quiet Server fault e = by (not (is_up e.state) && is_level fault.kind)
  where
    by : (b : Bool) → ((cond b (level_refused e) (closes (reasons.Fault fault) e)).happenings ≡ []) × ((cond b (level_refused e) (closes (reasons.Fault fault) e)).freed ≡ [])
    by true = (refl, refl)
    by false = (refl, refl)

pub break_made : (role : Role) (fault : DecodeFault) (old new : EndState) (t : ProgressBuilder) (r : Reply) → IsBreak role fault old.end r → Acts r old new → Makes r old new t t
break_made role fault old new t r (inl e) a =
    let q = faulted_quiet role fault old.end in
    quiet r old new t a (ap (λ (x : Reply). x.happenings) e ∙ q.0) (ap (λ (x : Reply). x.freed) e ∙ q.1)
break_made role fault old new t r (inr e) a = quiet r old new t a (ap (λ (x : Reply). x.happenings) e) (ap (λ (x : Reply). x.freed) e)

pub hears_fault : (role : Role) (now : ℕ) (piece : List ℕ) (old mid new : EndState) (h : List ℕ) (t u v : ProgressBuilder) (r x : Reply) (ps : List Packet) (rest : List ℕ) (fault : DecodeFault) (reason : CloseReason)
    → Reading old.limit (old.held ++ piece) ps rest (Some fault) → Taken (gets_as role) ps old.end r → Makes r (with_held old h) mid t u → None ≡ r.close
    → IsBreak role fault r.end x → Some reason ≡ x.close → Makes x mid new u v → Hears role now piece old new t v (Some reason)
hears_fault role now piece old mid new h t u v r x ps rest fault reason reading taken m none break shut k =
    let both = twice old mid new h t u v r x none m k in
    hears_from role now piece old new new h t v (followed r x) (Some reason)
    (subst (λ (hs : List ℕ). Receives old.limit (gets_as role) (faulted_as role) (old.held ++ piece) old.end (followed r x) hs) (sym (held_none old new h t v (followed r x) reason both (sym (close_is r x reason none shut)))) (broken break))
    both refl (heard_shut role now (old.held ++ piece) reason old new (moment_is old new h t v (followed r x) both)) (close_is r x reason none shut)
  where
    broken : IsBreak role fault r.end x → Receives old.limit (gets_as role) (faulted_as role) (old.held ++ piece) old.end (followed r x) []
    broken (inl e) =
        subst (λ (y : Reply). Receives old.limit (gets_as role) (faulted_as role) (old.held ++ piece) old.end (followed r y) []) (sym e)
        (received_fault old.limit (gets_as role) (faulted_as role) ps (old.held ++ piece) rest fault old.end r reading taken (sym none))
    broken (inr e) =
        subst (λ (y : Reply). Receives old.limit (gets_as role) (faulted_as role) (old.held ++ piece) old.end (followed r y) []) (sym e)
        (received_fault_starved old.limit (gets_as role) (faulted_as role) ps (old.held ++ piece) rest fault old.end r reading taken (sym none))

-- ---- The effect that the user sees

shown : (role : Role) (now : ℕ) (piece : List ℕ) (old new : EndState) (t u : ProgressBuilder) (closed : Option CloseReason) (hs : List Happening) (acked : List ℕ) (shut : Option CloseReason) → (h : Hears role now piece old new t u closed)
    → t.happenings.items ≡ [] → t.acknowledged.items ≡ [] → hs ≡ u.happenings.items → acked ≡ u.acknowledged.items → shut ≡ closed → Shows h.reply old new hs acked shut
shown role now piece old new t u closed hs acked shut h none no_id same same_ids same_close = record {
  after = ap (λ (s : EndState). s.end) h.state;
  out = h.out;
  room = ap (λ (s : EndState). s.room) h.state;
  told = same ∙ h.happenings ∙ ap (λ xs. xs ++ h.reply.happenings) none;
  freed = same_ids ∙ h.acknowledged ∙ ap (λ (xs : List ℕ). xs ++ h.reply.freed) no_id;
  close = same_close ∙ h.close;
}

pub receives_as : (role : Role) (now : ℕ) (piece : List ℕ) (old new : EndState) (t u : ProgressBuilder) (closed : Option CloseReason) (hs : List Happening) (acked : List ℕ) (shut : Option CloseReason) → Hears role now piece old new t u closed
    → t.happenings.items ≡ [] → t.acknowledged.items ≡ [] → hs ≡ u.happenings.items → acked ≡ u.acknowledged.items → shut ≡ closed → ReceivesAs role piece old new hs acked shut
receives_as Client now piece old new t u closed hs acked shut h none no_id same same_ids same_close = (h.reply, h.receives, shown Client now piece old new t u closed hs acked shut h none no_id same same_ids same_close)
receives_as Server now piece old new t u closed hs acked shut h none no_id same same_ids same_close = (h.reply, h.receives, shown Server now piece old new t u closed hs acked shut h none no_id same same_ids same_close)
