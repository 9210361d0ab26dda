-- A complete packet arrives at an end.
use Rattle.std.proofs.Common.{◌≡◌, ℕ, ◌⊎◌, ◌++◌, Bool, true, false, not, is_some, Option, Some, None, List, [], refl, sym, ap, subst, ◌∙◌}
use Rattle.mq_packet.specs.declared.packet.Packet.{Packet}
use Rattle.mq_end.specs.declared.happening.Happening.{Happening}
use Rattle.mq_end.specs.declared.reason.CloseReason.{CloseReason}
use Rattle.mq_end.specs.declared.reason.CloseReason.TheVariants as reasons
use Rattle.mq_end.specs.declared.packet_outcome.PacketOutcome.{PacketOutcome}
use Rattle.mq_end.specs.declared.role.Role.{Role}
use Rattle.mq_end.specs.declared.role.Role.TheVariants.{Client, Server}
use Rattle.mq_end.specs.declared.progress_builder.ProgressBuilder.{ProgressBuilder}
use Rattle.mq_end.specs.End.{Reply, closes}
use Rattle.mq_end.specs.Server.{server_gets}
use Rattle.mq_end.specs.State.{EndState, PutsOut}
use Rattle.mq_end.specs.Receiving.{Gives, Makes, Shows, TakesAs, TakesPacket, gets_as, heard_one, heard_one_as, held_after}
use Rattle.mq_end.specs.Inside.Receiving.{heard_as}
use Rattle.mq_end.proofs.Walking.{Came}

-- The visible effect of a reply that was made, and of a packet whose reply it is.
pub shows_one : (r : Reply) (last : ℕ) (old mid new : EndState) (told after : ProgressBuilder) (happenings : List Happening) (acknowledged : List ℕ) (closed : Option CloseReason)
    → Makes r old mid told after → new ≡ record mid { last_activity = last }
    → told.happenings.items ≡ [] → told.acknowledged.items ≡ [] → happenings ≡ after.happenings.items → acknowledged ≡ after.acknowledged.items → closed ≡ r.close
    → Shows r old new happenings acknowledged closed
shows_one r last old mid new told after happenings acknowledged closed made is no_h no_a is_h is_a is_c = record {
  after = ap (λ (s : EndState). s.end) is ∙ ap (λ (s : EndState). s.end) made.state;
  out = subst (PutsOut r.out old.output) (sym (ap (λ (s : EndState). s.output) is)) made.out;
  room = ap (λ (s : EndState). s.room) is ∙ ap (λ (s : EndState). s.room) made.state;
  told = is_h ∙ made.happenings ∙ ap (λ (hs : List Happening). hs ++ r.happenings) no_h;
  freed = is_a ∙ made.acknowledged ∙ ap (λ (is : List ℕ). is ++ r.freed) no_a;
  close = is_c;
}

pub takes_one : (role : Role) (now : ℕ) (p : Packet) (old mid new : EndState) (told after : ProgressBuilder) (r : Reply) (happenings : List Happening) (acknowledged : List ℕ) (closed : Option CloseReason)
    → (r ≡ gets_as role p old.end) ⊎ (r ≡ closes reasons.Memory old.end) → Makes r old mid told after → new ≡ record mid { last_activity = heard_one_as role r.close now old.last_activity }
    → told.happenings.items ≡ [] → told.acknowledged.items ≡ [] → happenings ≡ after.happenings.items → acknowledged ≡ after.acknowledged.items → closed ≡ r.close
    → TakesAs role now p old new happenings acknowledged closed
takes_one role now p old mid new told after r happenings acknowledged closed does made last no_h no_a is_h is_a is_c =
    let out_same : mid.output ≡ new.output = sym (ap (λ (s : EndState). s.output) last) in
    record {
      reply = r;
      does = does;
      shows = shows_one r (heard_one_as role r.close now old.last_activity) old mid new told after happenings acknowledged closed made last no_h no_a is_h is_a is_c;
      state =
          last
          ∙ ap (λ (s : EndState). record s { last_activity = heard_one_as role r.close now old.last_activity }) made.state
          ∙ ap (λ (b : List ℕ). record old { end = r.end; output = b; held = held_after r.close old.held; last_activity = heard_one_as role r.close now old.last_activity }) out_same;
    }

-- If the end closes, it keeps its time.
kept_moment : (role : Role) (closed : Option CloseReason) (now last : ℕ) (reason : CloseReason) → closed ≡ Some reason → heard_one_as role closed now last ≡ last
kept_moment Client closed now last reason is = refl
kept_moment Server closed now last reason is = ap (λ (c : Option CloseReason). heard_one c now last) is

pub same_moment : (role : Role) (r : Reply) (old mid : EndState) (told after : ProgressBuilder) (now : ℕ) (reason : CloseReason) → r.close ≡ Some reason → Makes r old mid told after → mid ≡ record mid { last_activity = heard_one_as role r.close now old.last_activity }
same_moment role r old mid told after now reason is made =
    ap (λ (m : ℕ). record mid { last_activity = m }) (ap (λ (s : EndState). s.last_activity) made.state ∙ sym (kept_moment role r.close now old.last_activity reason is))

-- else it is heard
heard_alike : (role : Role) (closed : Option CloseReason) (none : Bool) (now last : ℕ) → is_some closed ≡ not none → heard_as role none now last ≡ heard_one_as role closed now last
heard_alike Client closed none now last is = refl
heard_alike Server None true now last is = refl
heard_alike Server None false now last is = absurd cc
heard_alike Server (Some reason) true now last is = absurd cc
heard_alike Server (Some reason) false now last is = refl

-- a packet of which a server end made its reply, and heard of it
pub takes_heard : (now : ℕ) (p : Packet) (o : PacketOutcome) (closed : Option CloseReason) (none : Bool) (old mid new : EndState) → Gives (server_gets p old.end) o old mid
    → closed ≡ o.closed → is_some closed ≡ not none → new ≡ record mid { last_activity = heard_as Server none now mid.last_activity } → TakesPacket now p o old new
takes_heard now p o closed none old mid new g is_closed is_none last =
    let r = server_gets p old.end in
    let out_same : mid.output ≡ new.output = sym (ap (λ (s : EndState). s.output) last) in
    let last_activity =
    ap (λ (m : ℕ). heard_as Server none now m) (ap (λ (s : EndState). s.last_activity) g.state)
    ∙ heard_alike Server closed none now old.last_activity is_none
    ∙ ap (λ (c : Option CloseReason). heard_one c now old.last_activity) (is_closed ∙ g.close) in
    record {
      out = subst (PutsOut r.out old.output) out_same g.out;
      state =
          last
          ∙ ap (λ (m : ℕ). record mid { last_activity = m }) last_activity
          ∙ ap (λ (s : EndState). record s { last_activity = heard_one r.close now old.last_activity }) g.state
          ∙ ap (λ (b : List ℕ). record old { end = r.end; output = b; held = held_after r.close old.held; last_activity = heard_one r.close now old.last_activity }) out_same;
      happening = g.happening;
      acknowledged = g.acknowledged;
      close = g.close;
    }

-- a packet that came
pub arrived : (role : Role) (now : ℕ) (p : Packet) (old mid new : EndState) (told after : ProgressBuilder) (none : Bool) (came closed : Option CloseReason) (happenings : List Happening) (acknowledged : List ℕ)
    → Came role p old mid told after came → is_some came ≡ not none → new ≡ record mid { last_activity = heard_as role none now mid.last_activity }
    → told.happenings.items ≡ [] → told.acknowledged.items ≡ [] → happenings ≡ after.happenings.items → acknowledged ≡ after.acknowledged.items → closed ≡ came
    → TakesAs role now p old new happenings acknowledged closed
arrived role now p old mid new told after none came closed happenings acknowledged x is last no_h no_a is_h is_a is_c =
    let last_activity =
    ap (λ (m : ℕ). heard_as role none now m) (ap (λ (s : EndState). s.last_activity) x.3.state)
    ∙ heard_alike role came none now old.last_activity is
    ∙ ap (λ (c : Option CloseReason). heard_one_as role c now old.last_activity) x.2 in
    takes_one role now p old mid new told after x.0 happenings acknowledged closed x.1 x.3 (last ∙ ap (λ (m : ℕ). record mid { last_activity = m }) last_activity) no_h no_a is_h is_a (is_c ∙ x.2)
