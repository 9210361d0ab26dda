use Rattle.std.proofs.Common.{ℕ, false, Option, refl, sym, ap, ◌∙◌}
use Rattle.mq_end.specs.End.{End, blank_end}
use Rattle.mq_end.specs.State.{EndState, Room}
use Rattle.mq_world.specs.Carries.{Wired}
use Rattle.mq_world.specs.Machine.{blank_machine}
use Rattle.mq_world.specs.OverBytes.{blank_side}
use Rattle.mq_world.specs.Pairs.{wired_of}
use Rattle.mq_end.specs.Publishing.{connect_of}
use Rattle.mq_world.proofs.Worlds.{new_at, same_side, same_wired, written_same}
use Rattle.mq_end.specs.declared.config.ClientConfig.{ClientConfig}
use Rattle.mq_world.proofs.world.World.begin.Goals as goal

pub invariant_of-result : goal.invariant_of-result
invariant_of-result c =
    let at : (e : End) → Option ℕ = λ e. e.window in
    let a : EndState = c.new-4.result.link in
    let b : EndState = c.new-5.result in
    let w : Wired =
    wired_of (record {
      alloc = c.args.alloc;
      client = c.new-4.result;
      server = c.new-5.result;
      client_clock = 0;
      server_clock = 0;
      to_client = c.new-6.result;
      to_server = c.new-7.result;
      trace = record { answers = c.new.result; client = c.new-2.result; server = c.new-3.result };
    }) in
    let x = same_side w.client (blank_side a)
    (sym (written_same a c.new-4.ensures.output (ap (λ (r : Room). r.bytes) c.new-4.ensures.room))) refl c.new-6.ensures c.new-2.ensures.accepted
    c.new-2.ensures.handed c.new-2.ensures.freed in
    let y = same_side w.server (blank_side b)
    (sym (written_same b c.new-5.ensures.output (ap (λ (r : Room). r.bytes) c.new-5.ensures.room))) refl c.new-7.ensures c.new-3.ensures.accepted
    c.new-3.ensures.handed c.new-3.ensures.freed in (
      ap (λ (z : ClientConfig). connect_of z false) c.new-4.ensures.config ∙ c.in_ok-config.ensures.connect,
      c.requires.window,
      λ _. (
        blank_machine c.args.window,
        new_at c.over_bytes.ensures c.args.limits c.args.capacity c.args.window w a b c.max_packet-least.ensures.least
            (c.new-4.ensures.end ∙ ap blank_end c.in_ok-config.ensures.window)
            (c.new-4.ensures.limit ∙ c.in_ok-config.ensures.limits) (c.new-4.ensures.capacity ∙ c.in_ok-config.ensures.capacity) c.new-5.ensures.end c.new-5.ensures.limit c.new-5.ensures.capacity
            (same_wired w (record { client = blank_side a; server = blank_side b }) x y),
        (ap at c.new-4.ensures.end ∙ c.in_ok-config.ensures.window, ap at c.new-5.ensures.end),
      ),
    )

pub returns-clause-new : goal.returns-clause-new
returns-clause-new c =
    let a : EndState = c.new-4.result.link in
    let b : EndState = c.new-5.result in
    let w : Wired =
    wired_of (record {
      alloc = c.args.alloc;
      client = c.new-4.result;
      server = c.new-5.result;
      client_clock = 0;
      server_clock = 0;
      to_client = c.new-6.result;
      to_server = c.new-7.result;
      trace = record { answers = c.new.result; client = c.new-2.result; server = c.new-3.result };
    }) in
    let x = same_side w.client (blank_side a)
    (sym (written_same a c.new-4.ensures.output (ap (λ (r : Room). r.bytes) c.new-4.ensures.room))) refl c.new-6.ensures c.new-2.ensures.accepted
    c.new-2.ensures.handed c.new-2.ensures.freed in
    let y = same_side w.server (blank_side b)
    (sym (written_same b c.new-5.ensures.output (ap (λ (r : Room). r.bytes) c.new-5.ensures.room))) refl c.new-7.ensures c.new-3.ensures.accepted
    c.new-3.ensures.handed c.new-3.ensures.freed in
    record {
      stands = new_at c.over_bytes.ensures c.args.limits c.args.capacity c.args.window w a b c.max_packet-least.ensures.least
          (c.new-4.ensures.end ∙ ap blank_end c.in_ok-config.ensures.window)
          (c.new-4.ensures.limit ∙ c.in_ok-config.ensures.limits) (c.new-4.ensures.capacity ∙ c.in_ok-config.ensures.capacity) c.new-5.ensures.end c.new-5.ensures.limit c.new-5.ensures.capacity
          (same_wired w (record { client = blank_side a; server = blank_side b }) x y);
      client_clock = refl;
      server_clock = refl;
      to_client = c.new-6.ensures;
      to_server = c.new-7.ensures;
    }
