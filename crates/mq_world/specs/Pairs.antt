-- Two ends that are joined by two wires, as contracts see them.
use Rattle.mq_world.specs.declared.pair.Pair.{Pair}
use Rattle.mq_world.specs.Carries.{Wired}
use Rattle.mq_world.specs.Listed.{accepted_in, handed_in}

-- the sides, each with its end, the bytes in flight to it, and its lists
abbrev pub wired_of : Pair → Wired
wired_of pair = record {
  client = record {
    state = pair.client.link;
    clock = pair.client_clock;
    wire = pair.to_client;
    accepted = accepted_in pair.trace.client;
    handed = handed_in pair.trace.client;
    freed = pair.trace.client.freed.items;
  };
  server = record {
    state = pair.server;
    clock = pair.server_clock;
    wire = pair.to_server;
    accepted = accepted_in pair.trace.server;
    handed = handed_in pair.trace.server;
    freed = pair.trace.server.freed.items;
  };
}
