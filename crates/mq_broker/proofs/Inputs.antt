-- The requirements of a durable broker, from those of a broker of a loop.
use Rattle.std.proofs.Common.{◌≡◌, true, List, [], ◌∷◌, ◌==◌, length, refl, arith}
use Rattle.std.proofs.lemmas.Bool.Decides.{nat_tests}
use Rattle.mq_record.specs.Encoding.{is_recorded}
use Rattle.mq_route.specs.declared.event.HubEvent.{HubEvent}
use Rattle.mq_route.specs.declared.event.HubEvent.TheVariants.{Opened, Bytes, Ended, Tick, Collect}
use Rattle.mq_loop.specs.Brokers.{is_input}

pub recorded : (event : HubEvent) → is_input event ≡ true → is_recorded event ≡ true
recorded (Opened conn) e = refl
recorded (Bytes conn piece) e = refl
recorded (Ended conn) e = refl
recorded (Tick now) e = refl
recorded (Collect conn) e = e

pub none_pending : (events : List HubEvent) → (length events == 0) ≡ true → events ≡ []
none_pending [] e = refl
none_pending (event ∷ events) e = absurd (grind (arith, nat_tests))
