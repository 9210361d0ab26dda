-- Acts that report nothing.
use Rattle.std.proofs.Common.{◌≡◌, ℕ, false, refl}
use Rattle.mq_end.specs.declared.reason.CloseReason.{CloseReason}
use Rattle.mq_end.specs.declared.reason.CloseReason.TheVariants.{Memory}
use Rattle.mq_route.specs.declared.act.Act.{Act}
use Rattle.mq_route.specs.declared.act.Act.TheVariants.{Closed, WillDropped}
use Rattle.mq_route.specs.declared.close.HubClose.{HubClose}
use Rattle.mq_route.specs.declared.close.HubClose.TheVariants.{Own}
use Rattle.mq_route.specs.declared.conn.Conn.{Conn}
use Rattle.mq_durable.specs.Memory.{is_memory, is_for_memory, lacks_memory}

pub other_reason : (reason : CloseReason) → (reason ≡ Memory → ⊥) → is_memory reason ≡ false
other_reason Memory not = absurd (not refl)
other_reason reason not = refl

pub other_close : (why : HubClose) → ((reason : CloseReason) → why ≡ Own reason → ⊥) → is_for_memory why ≡ false
other_close (Own reason) not = absurd (not reason refl)
other_close why not = refl

pub other_act : (act : Act) → ((conn : Conn) (why : HubClose) → act ≡ Closed conn why → ⊥) → ((client : ℕ) → act ≡ WillDropped client → ⊥) → lacks_memory act ≡ false
unfolding lacks_memory
other_act (Closed conn why) not_closed not_will = absurd (not_closed conn why refl)
other_act (WillDropped client) not_closed not_will = absurd (not_will client refl)
other_act act not_closed not_will = refl
