use Rattle.std.proofs.Common.{refl}
use Rattle.std.specs.Prelude.{codes, decimal}
use Rattle.std.proofs.Common.{◌∷◌, []}
use Rattle.mq_schedule.specs.Writing.{line_with}
use Rattle.mq_cli.proofs.MadeUp.{parts_written, random_text}
use Rattle.mq_cli.proofs.random.write_random.Goals as goal

pub returns : goal.returns
returns g c = (
  _,
  parts_written c.args.start c.args.count (g.W.Write.contents c.args.output.now) (g.W.Write.contents c.write_world.new.output) (g.W.Write.contents c.write_events.new.output) (g.W.Write.contents c.writeln.new.self) (line_with (codes "world" ∷ decimal 65536 ∷ decimal 4 ∷ []))
      c.in_ok-write_world.ensures c.in_ok-write_events.ensures c.in_ok-writeln.ensures.bytes,
  (refl, random_text c.schedule_laws.ensures c.args.start c.args.count _ refl),
)
