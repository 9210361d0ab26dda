-- The bytes of a connection, packet by packet.
use Rattle.std.proofs.Common.{◌≡◌, ◌⊎◌, ℕ, ◌<◌, ◌≤◌, Bool, true, false, List, [], ◌++◌, inl, inr, length, take, Some, None, refl, sym, ap, subst, ◌∙◌, arith, true≢false}
use Rattle.std.proofs.lemmas.Bool.{cond-true}
use Rattle.std.proofs.lemmas.List.{append_assoc}
use Rattle.std.proofs.Math.Seq.{take-length}
use Rattle.mq_decode.specs.declared.fault.DecodeFault.{DecodeFault}
use Rattle.mq_decode.specs.Grammar.{Faulty, Pending}
use Rattle.mq_decode.specs.Limits.{Bounds}
use Rattle.mq_end.specs.declared.reason.CloseReason.TheVariants as reasons
use Rattle.mq_route.specs.declared.act.Act.{Act}
use Rattle.mq_route.specs.declared.close.HubClose.TheVariants.{Own}
use Rattle.mq_route.specs.declared.conn.Conn.{Conn}
use Rattle.mq_route.specs.declared.event.HubEvent.TheVariants.{Bytes}
use Rattle.mq_route.specs.declared.refusal.HubRefusal.TheVariants as refusals
use Rattle.mq_route.specs.declared.reply.HubReply.{HubReply}
use Rattle.mq_route.specs.Arrives.{on_malformed, on_packet}
use Rattle.mq_route.specs.Hub.{HubState, HubConnection, held_on, is_open, knows, stage_of}
use Rattle.mq_route.specs.Step.{Arrives, Waits, Breaks, Starves, LetsGo, HubStep, holding}
use Rattle.mq_route.specs.StepSome.{HubStepSome}
use Rattle.mq_route.specs.Work.{Work, begin, close}
use Rattle.mq_tables.proofs.ConnectionTable.{unknown_shut}
use Rattle.mq_hub.specs.Inside.Input.{HandlesBytes, RefinesBytes, HandlesPacket, with_held}
use Rattle.mq_hub.specs.Inside.Refinement.{Refines}

module _ (limits : Bounds) (k : Conn) (most : ℕ) where
  open_so_far : (h : HubState) (w : Work) → w.hub ≡ h → is_open (stage_of k h.connections) ≡ true → is_open (stage_of k w.hub.connections) ≡ true
  open_so_far h w e is_on = ap (λ (x : HubState). is_open (stage_of k x.connections)) e ∙ is_on

  -- a packet came, and then the rest: there is none, or the acts are below the limit
  pub arrives_by : (held rest more : List ℕ) (used : ℕ) (old new end : HubState) (said says ends : List Act) → is_open (stage_of k old.connections) ≡ true
      → HandlesPacket limits k held rest used old said new says → (more ≡ []) ⊎ (length says < most) → RefinesBytes limits k most more new says end ends
      → RefinesBytes limits k most (held ++ (take used rest ++ more)) old said end ends
  arrives_by held rest more used old new end said says ends is_on t gap later = λ w e f.
      let v : Work = on_packet k t.packet t.growth w in
      let c = later v (t.goes.hub w e f) (t.goes.did w e f) in
      let all = held ++ take used rest in
      subst (λ (b : List ℕ). HandlesBytes limits k most b w end ends) (append_assoc held (take used rest) more) (record {
        after = c.after;
        comes = Arrives t.packet all more t.growth w c.after (open_so_far old w e is_on) t.reads c.comes;
        sparing = (subst (λ (acts : List Act). (more ≡ []) ⊎ (length acts < most)) (sym (t.goes.did w e f)) gap, c.sparing);
        hub = c.hub;
        did = c.did;
      })

  -- they are an incomplete packet, and are held
  pub waits_by : (b : List ℕ) (old : HubState) (said : List Act) → is_open (stage_of k old.connections) ≡ true → Pending limits b
      → RefinesBytes limits k most b old said (with_held k b old) said
  waits_by b old said is_on pending = λ w e f. record {
    after = holding k b w;
    comes = Waits b w (open_so_far old w e is_on) pending;
    sparing = tt;
    hub = ap (with_held k b) e;
    did = f;
  }

  -- they are malformed
  pub breaks_by : (b : List ℕ) (fault : DecodeFault) (fits : Bool) (old new : HubState) (said says : List Act) → is_open (stage_of k old.connections) ≡ true
      → Faulty limits b fault.kind fault.place → Refines (on_malformed k fault fits) old said new says → RefinesBytes limits k most b old said new says
  breaks_by b fault fits old new said says is_on faulty goes = λ w e f. record {
    after = on_malformed k fault fits w;
    comes = Breaks b fault fits w (open_so_far old w e is_on) faulty;
    sparing = tt;
    hub = goes.hub w e f;
    did = goes.did w e f;
  }

  -- an allocation failed for them
  pub starves_by : (b : List ℕ) (fits : Bool) (old new : HubState) (said says : List Act) → is_open (stage_of k old.connections) ≡ true → 0 < length b
      → Refines (close k (Own reasons.Memory) fits) old said new says → RefinesBytes limits k most b old said new says
  starves_by b fits old new said says is_on some goes = λ w e f. record {
    after = close k (Own reasons.Memory) fits w;
    comes = Starves b fits w (open_so_far old w e is_on) some;
    sparing = tt;
    hub = goes.hub w e f;
    did = goes.did w e f;
  }

  -- the connection is closed and drops them
  pub lets_go_by : (b : List ℕ) (old : HubState) (said : List Act) → is_open (stage_of k old.connections) ≡ false → RefinesBytes limits k most b old said old said
  lets_go_by b old said closed = λ w e f. record {
    after = w;
    comes = LetsGo b w (ap (λ (x : HubState). is_open (stage_of k x.connections)) e ∙ closed);
    sparing = tt;
    hub = e;
    did = f;
  }

-- ---- the step

-- a connection that is open is known
pub open_known : (k : Conn) (xs : List HubConnection) → is_open (stage_of k xs) ≡ true → knows k xs ≡ true
open_known k xs is_on = go (knows k xs) refl
  where
    go : (b : Bool) → knows k xs ≡ b → knows k xs ≡ true
    go true e = e
    go false e = absurd (true≢false (sym is_on ∙ ap is_open (unknown_shut k xs e)))

-- the result of the held bytes and of the first bytes that came is the step of these
pub some_received : (h mid new : HubState) (k : Conn) (piece held : List ℕ) (limits : Bounds) (most taken : ℕ) (said says : List Act) (r : HubReply)
    → knows k h.connections ≡ true → mid ≡ with_held k [] h → said ≡ [] → held ≡ held_on k h.connections → limits ≡ h.config.limits
    → taken ≤ length piece → RefinesBytes limits k most (held ++ take taken piece) mid said new says
    → (taken ≡ length piece) ⊎ (most ≤ length says)
    → r ≡ record { acts = says; output = []; alive = is_open (stage_of k new.connections) } → HubStepSome h k piece most r taken new
some_received h mid new k piece held limits most taken said says r known mid_is said_is bytes same within comes enough reply =
    let w : Work = holding k [] (begin h) in
    let front = take taken piece in
    let came : HandlesBytes h.config.limits k most (held_on k h.connections ++ front) w new says =
    subst (λ (l : Bounds). HandlesBytes l k most (held_on k h.connections ++ front) w new says) same
    (subst (λ (x : List ℕ). HandlesBytes limits k most (x ++ front) w new says) bytes (comes w (sym mid_is) (sym said_is))) in
    record {
      within = within;
      step = record {
        right = cond-true (knows k h.connections) None (Some refusals.UnknownConn) known;
        work = came.after;
        does = (
          came.comes,
          reply ∙ λ i. record { acts = sym came.did i; output = []; alive = is_open (stage_of k (sym came.hub i).connections) },
        );
        after = sym came.hub;
      };
      sparing = came.sparing;
      enough = subst (λ (acts : List Act). (taken ≡ length piece) ⊎ (most ≤ length acts)) (sym (ap (λ (x : HubReply). x.acts) reply)) enough;
    }

-- a step of all bytes
pub all_received : (h new : HubState) (k : Conn) (piece : List ℕ) (most taken : ℕ) (r : HubReply) → HubStepSome h k piece most r taken new
    → length r.acts < most → HubStep h (Bytes k piece) r new
all_received h new k piece most taken r some few = go some.enough
  where
    go : (taken ≡ length piece) ⊎ (most ≤ length r.acts) → HubStep h (Bytes k piece) r new
    go (inl all) = subst (λ (b : List ℕ). HubStep h (Bytes k b) r new) (ap (λ (n : ℕ). take n piece) all ∙ take-length piece) some.step
    go (inr many) = absurd (omega (arith, few, many))
