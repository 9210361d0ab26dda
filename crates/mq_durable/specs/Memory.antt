-- Replies that report that an allocation failed.
use Rattle.std.specs.Prelude.{Bool, true, false}
use Rattle.std.specs.List.{list_any}
use Rattle.mq_end.specs.declared.reason.CloseReason.{CloseReason}
use Rattle.mq_end.specs.declared.reason.CloseReason.TheVariants.{Memory}
use Rattle.mq_route.specs.declared.act.Act.{Act}
use Rattle.mq_route.specs.declared.act.Act.TheVariants.{Closed, WillDropped}
use Rattle.mq_route.specs.declared.close.HubClose.{HubClose}
use Rattle.mq_route.specs.declared.close.HubClose.TheVariants.{Own}
use Rattle.mq_route.specs.declared.reply.HubReply.{HubReply}

abbrev pub is_memory : CloseReason → Bool
is_memory Memory = true
is_memory reason = false

abbrev pub is_for_memory : HubClose → Bool
is_for_memory (Own reason) = is_memory reason
is_for_memory why = false

-- A connection is closed because an allocation failed, or a will is dropped. A dropped will counts
-- with any cause, because the act doesn't name it.
unfoldable pub lacks_memory : Act → Bool
lacks_memory (Closed conn why) = is_for_memory why
lacks_memory (WillDropped client) = true
lacks_memory act = false

-- an act of the reply reports that an allocation failed
abbrev pub reports_memory : HubReply → Bool
reports_memory reply = list_any lacks_memory reply.acts
