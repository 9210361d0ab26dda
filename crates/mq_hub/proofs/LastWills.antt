-- The last will of a client is published, or reported as dropped.
use Rattle.std.proofs.Common.{◌≡◌, ℕ, Bool, true, false, ◌&&◌, List, [], ◌∷◌, ◌++◌, Option, Some, None, sym, ap, subst, ◌∙◌}
use Rattle.std.proofs.lemmas.Bool.{cond-true, cond-false}
use Rattle.mq_packet.specs.declared.connect.Will.{Will}
use Rattle.mq_route.specs.declared.act.Act.{Act}
use Rattle.mq_route.specs.declared.act.Act.TheVariants as acts
use Rattle.mq_route.specs.Copies.{will_message}
use Rattle.mq_route.specs.Hub.{HubState, copies_of}
use Rattle.mq_route.specs.Work.{Work, have_room, last_will, said, deliver}
use Rattle.mq_hub.specs.Inside.Refinement.{Refines}
use Rattle.mq_hub.proofs.Refinements.{goes_on}

module _ (key : ℕ) (will : Will) where
  abbrev shares : Work → Work
  shares = deliver (acts.Will key (will_message will)) (will_message will)

  abbrev fit : Bool → HubState → Bool
  fit fits h = fits && have_room (copies_of (will_message will) h) h

  -- there is room for all its copies
  pub goes_published : (h g : HubState) (x y : List Act) → true ≡ have_room (copies_of (will_message will) h) h → Refines shares h x g y
      → Refines (last_will key (Some will) true) h x g y
  unfolding last_will
  goes_published h g x y enough p = record {
    hub = λ w e f.
        ap (λ (v : Work). v.hub) (cond-true (fit true w.hub) (shares w) (said (acts.WillDropped key) w) (ap (fit true) e ∙ sym enough)) ∙ p.hub w e f;
    did = λ w e f.
        ap (λ (v : Work). v.did) (cond-true (fit true w.hub) (shares w) (said (acts.WillDropped key) w) (ap (fit true) e ∙ sym enough)) ∙ p.did w e f;
  }

  -- there is no room for one, or an allocation failed
  pub goes_dropped : (h g : HubState) (x y z : List Act) → (fits : Bool) × (fit fits h ≡ false) → (g ≡ h) × (y ≡ x) → z ≡ y ++ acts.WillDropped key ∷ []
      → (fits : Bool) × Refines (last_will key (Some will) fits) h x g z
  unfolding last_will
  goes_dropped h g x y z none same says = (
    none.0,
    record {
      hub = λ w e f.
          ap (λ (v : Work). v.hub) (cond-false (fit none.0 w.hub) (shares w) (said (acts.WillDropped key) w) (ap (fit none.0) e ∙ none.1)) ∙ e ∙ sym same.0;
      did = λ w e f.
          ap (λ (v : Work). v.did) (cond-false (fit none.0 w.hub) (shares w) (said (acts.WillDropped key) w) (ap (fit none.0) e ∙ none.1))
          ∙ ap (λ (a : List Act). a ++ acts.WillDropped key ∷ []) (f ∙ sym same.1) ∙ sym says;
    },
  )

-- a client that has none
pub goes_without : (key : ℕ) (will : Option Will) (h : HubState) (x : List Act) → will ≡ None → (fits : Bool) × Refines (last_will key will fits) h x h x
unfolding last_will
goes_without key will h x none =
    (true, subst (λ (o : Option Will). Refines (last_will key o true) h x h x) (sym none) (goes_on h x))
