-- Packets that come at once.
use Rattle.std.specs.Prelude.{◌≡◌, List, ◌++◌, length}
use Rattle.mq_packet.specs.declared.packet.Packet.{Packet}
use Rattle.mq_end.specs.Client.{client_gets_all}
use Rattle.mq_end.specs.Server.{server_gets_all}
use Rattle.mq_world.specs.declared.side.Side.TheVariants.{Client, Server}
use Rattle.mq_world.specs.Half.{took, put, kept}
use Rattle.mq_world.specs.Machine.{Machine}
use Rattle.mq_world.specs.Settling.{arrivals}

-- If the queue toward a side begins with some packets, their arrivals one after another have the
-- same effect as processing them at once, also if the end closes at one of them.
pub record AtOnceLaw : Type 0 where
  pub client : (packets rest : List Packet) (machine : Machine) → machine.client.coming ≡ kept machine.client.end.state (packets ++ rest)
      → arrivals (length packets) Client machine ≡ record {
        client = (took machine.client rest (client_gets_all packets machine.client.end)).half;
        server = put (took machine.client rest (client_gets_all packets machine.client.end)).out machine.server;
      }
  pub server : (packets rest : List Packet) (machine : Machine) → machine.server.coming ≡ kept machine.server.end.state (packets ++ rest)
      → arrivals (length packets) Server machine ≡ record {
        client = put (took machine.server rest (server_gets_all packets machine.server.end)).out machine.client;
        server = (took machine.server rest (server_gets_all packets machine.server.end)).half;
      }
