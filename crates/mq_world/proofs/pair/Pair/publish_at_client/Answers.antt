use Rattle.std.proofs.Common.{refl, ap}
use Rattle.mq_end.specs.Publishing.{ClientState}
use Rattle.mq_world.specs.declared.side.Side.TheVariants.{Client}
use Rattle.mq_world.specs.Carries.{Wired}
use Rattle.mq_world.specs.Pairs.{wired_of}
use Rattle.mq_world.specs.Listed.{accepted_in, handed_in}
use Rattle.mq_world.proofs.Worlds.{published_at}
use Rattle.mq_world.proofs.Growing.{grows_accepted, grows_none, tells_none}
use Rattle.mq_world.proofs.pair.Pair.publish_at_client.Goals as goal

pub returns-in_ok-carry-in-Ok-clause-does : goal.returns-in_ok-carry-in-Ok-clause-does
returns-in_ok-carry-in-Ok-clause-does c = λ limit capacity m s.
    let w : Wired = wired_of c.args.self.now in
    let a = c.accept.new.self in
    let v : Wired = record {
      client = record {
        state = c.take_all_output-output.new.self.link;
        clock = w.client.clock;
        wire = w.client.wire;
        accepted = accepted_in a;
        handed = handed_in a;
        freed = a.freed.items;
      };
      server = record w.server { wire = c.carry.new.wire };
    } in (
      refl,
      published_at c.over_bytes.ensures limit capacity Client w v m c.args.message.now c.in_ok-clone.field-0 c.in_ok-clone-in-Ok.field-0 c.in-Ok.id
          c.publish.new.self.link c.take_all_output-output.result s
          c.in_ok-clone.ensures.cases c.in_ok-clone-in-Ok.ensures.cases c.in-Ok.ensures.refused c.in-Ok.ensures.ok
          (ap (λ (z : ClientState). z.link) c.take_all_output-output.ensures.left) refl refl c.in_ok-accept-in-Ok.ensures.accepted
          c.accept.ensures.handed c.accept.ensures.freed
          c.take_all_output-output.ensures.bytes c.in_ok-carry-in-Ok.ensures.ok refl,
    )

pub returns-in_err-carry-in-Ok-clause-at_client : goal.returns-in_err-carry-in-Ok-clause-at_client
returns-in_err-carry-in-Ok-clause-at_client c =
    grows_accepted c.in-Ok.id c.args.message.now c.in_ok-clone.field-0 c.in_ok-clone-in-Ok.field-0 c.args.self.now.client.link c.publish.new.self.link (accepted_in c.args.self.now.trace.client) (accepted_in c.accept.new.self)
    c.in_ok-clone.ensures.cases c.in_ok-clone-in-Ok.ensures.cases c.in-Ok.ensures.ok c.in_ok-accept-in-Ok.ensures.accepted

pub returns-in_ok-carry-in-Ok-clause-at_client : goal.returns-in_ok-carry-in-Ok-clause-at_client
returns-in_ok-carry-in-Ok-clause-at_client c =
    grows_accepted c.in-Ok.id c.args.message.now c.in_ok-clone.field-0 c.in_ok-clone-in-Ok.field-0 c.args.self.now.client.link c.publish.new.self.link (accepted_in c.args.self.now.trace.client) (accepted_in c.accept.new.self)
    c.in_ok-clone.ensures.cases c.in_ok-clone-in-Ok.ensures.cases c.in-Ok.ensures.ok c.in_ok-accept-in-Ok.ensures.accepted

pub returns-in_err-accept-in-Ok-clause-at_client : goal.returns-in_err-accept-in-Ok-clause-at_client
returns-in_err-accept-in-Ok-clause-at_client c = grows_none (accepted_in c.args.self.now.trace.client) (accepted_in c.accept.new.self) c.in_err-accept-in-Ok.ensures.err

pub returns-in_err-accept-in-Ok-clause-told_client : goal.returns-in_err-accept-in-Ok-clause-told_client
returns-in_err-accept-in-Ok-clause-told_client c = tells_none c.args.self.now.trace.client c.accept.new.self c.accept.ensures.handed c.accept.ensures.freed

pub returns-in_err-carry-in-Ok-clause-told_client : goal.returns-in_err-carry-in-Ok-clause-told_client
returns-in_err-carry-in-Ok-clause-told_client c = tells_none c.args.self.now.trace.client c.accept.new.self c.accept.ensures.handed c.accept.ensures.freed

pub returns-in_ok-carry-in-Ok-clause-told_client : goal.returns-in_ok-carry-in-Ok-clause-told_client
returns-in_ok-carry-in-Ok-clause-told_client c = tells_none c.args.self.now.trace.client c.accept.new.self c.accept.ensures.handed c.accept.ensures.freed
