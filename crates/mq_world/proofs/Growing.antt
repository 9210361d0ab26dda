-- The lists of accepted and delivered messages, and of freed places, grow.
use Rattle.std.proofs.Common.{◌≡◌, ℕ, Bool, true, false, if◌then◌else◌, List, [], ◌∷◌, ◌++◌, Option, refl, sym, ap, subst, ◌∙◌, append_assoc}
use Rattle.std.proofs.lemmas.List.{append-nil}
use Rattle.mq_topic.specs.declared.qos.Qos.{Qos}
use Rattle.mq_topic.specs.declared.qos.Qos.TheVariants.{Q0, Q1, Q2}
use Rattle.mq_packet.specs.declared.message.Message.{Message}
use Rattle.mq_end.specs.declared.happening.Happening.{Happening}
use Rattle.mq_end.specs.declared.happening.Happening.TheVariants as happens
use Rattle.mq_end.specs.Both.{answered_identifier}
use Rattle.mq_end.specs.Publishing.{Accepts}
use Rattle.mq_end.specs.State.{EndState}
use Rattle.mq_flow.specs.Sender.{same_qos}
use Rattle.mq_world.specs.declared.account.Account.{Account}
use Rattle.mq_world.specs.Half.{Accepted, HandedOn, accepted_with}
use Rattle.mq_world.specs.Listed.{AcceptedGrows, HandedGrows, FreedGrows, handed_in}
use Rattle.mq_world.specs.Inside.Listed.{TellsMore}
use Rattle.mq_world.specs.OverBytes.{handed_with}

pub grows_none : (a b : Accepted) → b ≡ a → AcceptedGrows a b
grows_none a b same = record {
  at_most_once = ([], ap (λ (x : Accepted). x.at_most_once) same ∙ sym (append-nil a.at_most_once));
  at_least_once = ([], ap (λ (x : Accepted). x.at_least_once) same ∙ sym (append-nil a.at_least_once));
  exactly_once = ([], ap (λ (x : Accepted). x.exactly_once) same ∙ sym (append-nil a.exactly_once));
}

grows_one : (q : Qos) (i : ℕ) (m : Message) (a : Accepted) → AcceptedGrows a (accepted_with q i m a)
grows_one Q0 i m a = record { at_most_once = (m ∷ [], refl); at_least_once = ([], sym (append-nil a.at_least_once)); exactly_once = ([], sym (append-nil a.exactly_once)) }
grows_one Q1 i m a = record { at_most_once = ([], sym (append-nil a.at_most_once)); at_least_once = ((i, m) ∷ [], refl); exactly_once = ([], sym (append-nil a.exactly_once)) }
grows_one Q2 i m a = record { at_most_once = ([], sym (append-nil a.at_most_once)); at_least_once = ([], sym (append-nil a.at_least_once)); exactly_once = (m ∷ [], refl) }

-- A message is accepted of which the end took one copy, and the list another.
pub grows_accepted : (answer : Option ℕ) (m copy twin : Message) (old new : EndState) (a b : Accepted) → copy ≡ m → twin ≡ m → Accepts answer copy old new
    → ((i : ℕ) → answer ≡ answered_identifier twin.qos i → b ≡ accepted_with twin.qos i twin a) → AcceptedGrows a b
grows_accepted answer m copy twin old new a b one two accepts is =
    let answered : answer ≡ answered_identifier twin.qos accepts.id = accepts.answered ∙ ap (λ (x : Message). answered_identifier x.qos accepts.id) (one ∙ sym two) in
    subst (AcceptedGrows a) (sym (is accepts.id answered)) (grows_one twin.qos accepts.id twin a)

-- ---- lists that grow

-- A list with more behind it.
abbrev Longer : {A : Type 0} → List A → List A → Type 0
Longer {A} old new = (more : List A) × (new ≡ old ++ more)

longer_none : {A : Type 0} (a b : List A) → b ≡ a → Longer a b
longer_none a b same = ([], same ∙ sym (append-nil a))

longer_then : {A : Type 0} (a b c : List A) → Longer a b → Longer b c → Longer a c
longer_then {A} a b c x y = (x.0 ++ y.0, y.1 ∙ ap (λ (z : List A). z ++ y.0) x.1 ∙ append_assoc a x.0 y.0)

told_one : (m : Message) (ms : List Message) (same : Bool) → Longer ms (if same then ms ++ m ∷ [] else ms)
told_one m ms true = (m ∷ [], refl)
told_one m ms false = ([], sym (append-nil ms))

pub handed_none : (a b : HandedOn) → b ≡ a → HandedGrows a b
handed_none a b same = record {
  at_most_once = longer_none a.at_most_once b.at_most_once (ap (λ (x : HandedOn). x.at_most_once) same);
  at_least_once = longer_none a.at_least_once b.at_least_once (ap (λ (x : HandedOn). x.at_least_once) same);
  exactly_once = longer_none a.exactly_once b.exactly_once (ap (λ (x : HandedOn). x.exactly_once) same);
}

handed_one : (m : Message) (a : HandedOn) → HandedGrows a (handed_with (happens.Handed m ∷ []) a)
handed_one m a = record {
  at_most_once = told_one m a.at_most_once (same_qos Q0 m.qos);
  at_least_once = told_one m a.at_least_once (same_qos Q1 m.qos);
  exactly_once = told_one m a.exactly_once (same_qos Q2 m.qos);
}

pub handed_then : (a b c : HandedOn) → HandedGrows a b → HandedGrows b c → HandedGrows a c
handed_then a b c x y = record {
  at_most_once = longer_then a.at_most_once b.at_most_once c.at_most_once x.at_most_once y.at_most_once;
  at_least_once = longer_then a.at_least_once b.at_least_once c.at_least_once x.at_least_once y.at_least_once;
  exactly_once = longer_then a.exactly_once b.exactly_once c.exactly_once x.exactly_once y.exactly_once;
}

-- one more message is delivered
pub handed_more_grows : (m : Message) (a b c : HandedOn) → HandedGrows a b → c ≡ handed_with (happens.Handed m ∷ []) b → HandedGrows a c
handed_more_grows m a b c x is = handed_then a b c x (subst (HandedGrows b) (sym is) (handed_one m b))

-- nothing more
pub handed_still_grows : (a b c : HandedOn) → HandedGrows a b → c ≡ b → HandedGrows a c
handed_still_grows a b c x same = subst (HandedGrows a) (sym same) x

pub freed_none : (a b : List ℕ) → b ≡ a → FreedGrows a b
freed_none a b same = longer_none a b same

pub freed_then : (a b c : List ℕ) → FreedGrows a b → FreedGrows b c → FreedGrows a c
freed_then a b c x y = longer_then a b c x y

-- one more place is freed
pub freed_more_grows : (n : ℕ) (a b c : List ℕ) → FreedGrows a b → c ≡ b ++ n ∷ [] → FreedGrows a c
freed_more_grows n a b c x is = freed_then a b c x (n ∷ [], is)

-- ---- the lists of a side

pub tells_none : (a b : Account) → handed_in b ≡ handed_in a → b.freed.items ≡ a.freed.items → TellsMore a b
tells_none a b handed freed = record {
  handed = handed_none (handed_in a) (handed_in b) handed;
  freed = freed_none a.freed.items b.freed.items freed;
}

pub tells_then : (a b c : Account) → TellsMore a b → TellsMore b c → TellsMore a c
tells_then a b c x y = record {
  handed = handed_then (handed_in a) (handed_in b) (handed_in c) x.handed y.handed;
  freed = freed_then a.freed.items b.freed.items c.freed.items x.freed y.freed;
}

-- messages were delivered, and no place was freed
pub tells_handed : (a b : Account) → HandedGrows (handed_in a) (handed_in b) → b.freed.items ≡ a.freed.items → TellsMore a b
tells_handed a b grows freed = record { handed = grows; freed = freed_none a.freed.items b.freed.items freed }

-- then places were freed
pub tells_freed : (a b c : Account) → HandedGrows (handed_in a) (handed_in b) → b.freed.items ≡ a.freed.items → handed_in c ≡ handed_in b
    → FreedGrows b.freed.items c.freed.items → TellsMore a c
tells_freed a b c grows freed handed more = record {
  handed = handed_still_grows (handed_in a) (handed_in b) (handed_in c) grows handed;
  freed = freed_then a.freed.items b.freed.items c.freed.items (freed_none a.freed.items b.freed.items freed) more;
}
