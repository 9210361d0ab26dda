use Rattle.std.proofs.Common.{[], refl}
use Rattle.mq_end.specs.End.{blank_end}
use Rattle.mq_end.specs.State.{EndState, no_room}
use Rattle.mq_world.specs.OverBytes.{blank_side}
use Rattle.mq_replay.proofs.run.begins.Goals as goal

-- two blank sides
pub returns : goal.returns
returns c =
    let l = c.args.limits in
    let n = c.args.capacity in
    let e : EndState = record { end = blank_end c.args.window; capacity = n; limit = l; held = []; output = []; last_activity = 0; room = no_room } in (
      record { client = blank_side e; server = blank_side e },
      record { stands = c.over_bytes.ensures.blank l n c.args.window e e c.max_packet-least.ensures.least refl refl refl refl refl refl; client_clock = refl; server_clock = refl; to_client = refl; to_server = refl },
    )
