-- The log, and its lines about connections on which no client is connected.
use Rattle.std.specs.Prelude.{ℕ, List, ◌++◌, Option, codes}
use Rattle.mq_packet.specs.declared.connack.RefusalCode.{RefusalCode}
use Rattle.mq_route.specs.declared.close.HubClose.{HubClose}
use Rattle.mq_packet.specs.Lines.{escaped}
use Rattle.mq_status.specs.Log.{close_text, refusal_text}
use Rattle.mq_broker.specs.declared.log.LogLevel.{LogLevel}

-- A log: the bytes that were written, if they are known, and its lines.
pub record LogState : Type 0 where
  pub written : Option (List ℕ)
  pub level : LogLevel

-- a CONNECT is refused (3.2.2.3)
abbrev pub refused_text : List ℕ → RefusalCode → List ℕ
refused_text address code = codes "refused address=" ++ (escaped address ++ refusal_text code)

-- a connection is closed
abbrev pub closed_text : List ℕ → HubClose → List ℕ
closed_text address reason = codes "closed address=" ++ (escaped address ++ close_text reason)
