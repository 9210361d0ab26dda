-- The printed codes of a broker's closes and refusals.
use Rattle.std.specs.Prelude.{ℕ, List, codes}
use Rattle.mq_end.specs.Codes.{close_code}
use Rattle.mq_route.specs.declared.close.HubClose.{HubClose}
use Rattle.mq_route.specs.declared.close.HubClose.TheVariants.{Own, TargetFull, TakenOver, PeerEnded, NoConnect, TooManyMatches}
use Rattle.mq_route.specs.declared.refusal.HubRefusal.{HubRefusal}
use Rattle.mq_route.specs.declared.refusal.HubRefusal.TheVariants as refusals

-- a close by a session's end has the end's code
abbrev pub hub_close_code : HubClose → List ℕ
hub_close_code (Own reason) = close_code reason
hub_close_code TargetFull = codes "C8"
hub_close_code TakenOver = codes "C9"
hub_close_code PeerEnded = codes "C10"
hub_close_code NoConnect = codes "C12"
hub_close_code TooManyMatches = codes "C13"

abbrev pub hub_refusal_code : HubRefusal → List ℕ
hub_refusal_code refusals.UnknownConn = codes "U1"
hub_refusal_code refusals.ConnInUse = codes "U2"
hub_refusal_code refusals.Memory = codes "U3"
