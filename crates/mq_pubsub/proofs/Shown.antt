-- Messages that are printed one after another.
use Rattle.std.proofs.Common.{◌≡◌, if◌then◌else◌, ℕ, ◌+◌, ◌<◌, Bool, List, [], ◌∷◌, ◌++◌, length, get_or, take, Option, Some, None, refl, sym, ◌∙◌, ap, subst, append_assoc, add-one, arith, append-nil, map, true, false}
use Rattle.std.proofs.Math.Seq.{take-suc}
use Rattle.std.proofs.lemmas.Grind.{common_steps}
use Rattle.std.proofs.lemmas.List.{map-append}
use Rattle.mq_packet.specs.declared.message.Message.{Message}
use Rattle.mq_end.specs.declared.happening.Happening.{Happening}
use Rattle.mq_end.specs.declared.happening.Happening.TheVariants as happens
use Rattle.mq_pubsub.specs.declared.choice.Choice.{Choice}
use Rattle.mq_pubsub.specs.declared.choice.Verdict.{Verdict}
use Rattle.mq_pubsub.specs.declared.choice.Verdict.TheVariants as verdicts
use Rattle.mq_pubsub.specs.declared.inbox.Inbox.{Inbox}
use Rattle.mq_pubsub.specs.Printing.{Shows, identifier_at, identifier_of}
use Rattle.mq_pubsub.specs.Subscribing.{Prints, printed, prints_at, state_after, verdict_of}

-- no value
pub Shows-none : {A : Type 0} (old : Option (List A)) → Shows old old []
Shows-none None = tt
Shows-none (Some old) = sym (append-nil old)

-- some values, and then others
pub Shows-append : {A : Type 0} (old middle new : Option (List A)) (first second : List A) → Shows old middle first → Shows middle new second → Shows old new (first ++ second)
Shows-append None middle new first second p q = tt
Shows-append (Some old) None new first second p q = absurd p
Shows-append (Some old) (Some middle) None first second p q = absurd q
Shows-append (Some old) (Some middle) (Some new) first second p q =
    q ∙ ap (λ xs. xs ++ second) p ∙ append_assoc old first second

-- the identifiers that are printed with the messages of a happening
identifiers_printed : (f : Message → Option ℕ) (message : Message) (id : Option ℕ) (over : Bool) (v : Verdict) → id ≡ f message
    → map (λ (m : Message). id) (if over then [] else printed v message) ≡ map f (if over then [] else printed v message)
identifiers_printed f message id true v is = refl
identifiers_printed f message id false verdicts.Print is = ap (λ (x : Option ℕ). x ∷ []) is
identifiers_printed f message id false verdicts.Skip is = refl
identifiers_printed f message id false verdicts.End is = refl

identifiers_at : (output : List ℕ) (h : Happening) (choice : Choice) (i : Inbox) (id : Option ℕ) → id ≡ identifier_at output h
    → map (λ (m : Message). id) (prints_at choice i h) ≡ map (identifier_of output) (prints_at choice i h)
identifiers_at output (happens.Handed message) choice i id is =
    identifiers_printed (identifier_of output) message id i.is_ended (verdict_of choice message) is
identifiers_at output (happens.Up present) choice i id is = refl
identifiers_at output (happens.SubAck n codes) choice i id is = refl
identifiers_at output (happens.UnsubAck n) choice i id is = refl
identifiers_at output (happens.Subscribe n requests) choice i id is = refl
identifiers_at output (happens.Unsubscribe n filters) choice i id is = refl
identifiers_at output happens.Pong choice i id is = refl

-- those of some messages are shown, and then those of one more happening
pub Shows-identifiers : (output : List ℕ) (choice : Choice) (i : Inbox) (h : Happening) (id : Option ℕ) (old middle new : Option (List (Option ℕ))) (messages : List Message)
    → id ≡ identifier_at output h → Shows old middle (map (identifier_of output) messages) → Shows middle new (map (λ (m : Message). id) (prints_at choice i h))
    → Shows old new (map (identifier_of output) (messages ++ prints_at choice i h))
Shows-identifiers output choice i h id old middle new messages is first second =
    subst (λ (ids : List (Option ℕ)). Shows old new ids) (sym (map-append (identifier_of output) messages (prints_at choice i h)))
    (Shows-append old middle new (map (identifier_of output) messages) (map (identifier_of output) (prints_at choice i h)) first
    (subst (λ (ids : List (Option ℕ)). Shows middle new ids) (identifiers_at output h choice i id is) second))

-- one more happening
pub Prints-append : (choice : Choice) (ends : Bool) (i : Inbox) (happenings : List Happening) (j : Inbox) (messages : List Message) (h : Happening) → Prints choice ends i happenings j messages → Prints choice ends i (happenings ++ h ∷ []) (state_after choice ends j h) (messages ++ prints_at choice j h)
Prints-append choice ends i [] j messages h prints =
    subst (λ (k : Inbox). Prints choice ends i (h ∷ []) (state_after choice ends k h) (messages ++ prints_at choice k h)) (sym prints.0)
    (subst (λ (ms : List Message). Prints choice ends i (h ∷ []) (state_after choice ends i h) (ms ++ prints_at choice i h)) (sym prints.1)
    ([], grind (arith, common_steps), (refl, refl)))
Prints-append choice ends i (first ∷ happenings) j messages h prints =
    let more = Prints-append choice ends (state_after choice ends i first) happenings j prints.0 h prints.2 in (
      prints.0 ++ prints_at choice j h,
      ap (λ ms. ms ++ prints_at choice j h) prints.1 ∙ append_assoc (prints_at choice i first) prints.0 (prints_at choice j h),
      more,
    )

-- The happenings up to one, and that one.
pub Prints-next : (choice : Choice) (ends : Bool) (i : Inbox) (happenings : List Happening) (index : ℕ) (j k : Inbox) (messages others : List Message) (h : Happening) → index < length happenings → h ≡ get_or happenings index h → k ≡ state_after choice ends j h → others ≡ prints_at choice j h → Prints choice ends i (take index happenings) j messages → Prints choice ends i (take (index + 1) happenings) k (messages ++ others)
Prints-next choice ends i happenings index j k messages others h within is state shown prints =
    let front : take (index + 1) happenings ≡ take index happenings ++ h ∷ [] =
    rw add-one (take-suc happenings index h within ∙ ap (λ x. take index happenings ++ x ∷ []) (sym is)) in
    subst (λ (hs : List Happening). Prints choice ends i hs k (messages ++ others)) (sym front)
    (subst (λ (s : Inbox). Prints choice ends i (take index happenings ++ h ∷ []) s (messages ++ others)) (sym state)
    (subst (λ (ms : List Message). Prints choice ends i (take index happenings ++ h ∷ []) (state_after choice ends j h) (messages ++ ms)) (sym shown)
    (Prints-append choice ends i (take index happenings) j messages h prints)))
