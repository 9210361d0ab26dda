use Rattle.std.proofs.Common.{None, take, true}
use Rattle.std.proofs.KnownBytes.{Appends-nil, Keeps-refl}
use Rattle.mq_book.proofs.Connections.{ends_over, on_err, stops_bytes, stops_tick, turn_err, turn_off, turn_on}
use Rattle.mq_book.specs.Connection.{outside}
use Rattle.mq_book.proofs.connection.turn.Goals as goal

pub slice_bounds-take_in-end : goal.slice_bounds-take_in-end
slice_bounds-take_in-end g c = (c.in-Some.ensures.read _ _ _ c.read.ensures.comes).0

pub returns-in_default-clause-off : goal.returns-in_default-clause-off
returns-in_default-clause-off g c =
    λ _. ends_over g.S.Stepper.steps_to _ _ _ (outside _ _ _ _) (outside _ _ _ _) (c.in_default.ensures.read _ _ _ c.read.ensures.comes) c.read.ensures.written
    (Appends-nil _) (c.read.ensures.over c.in_default.ensures.over)

pub returns-in_err-tick-clause-err : goal.returns-in_err-tick-clause-err
returns-in_err-tick-clause-err g c =
    on_err _ _ (stops_tick g.S.Stepper.steps_to _ _ (take c.in-Some.count c.read.new.buffer) c.now-now.result _ _ (outside _ _ _ _) (outside _ _ true None) (outside _ _ _ _) (record {
      comes = (c.in-Some.ensures.read _ _ _ c.read.ensures.comes).1;
      stays = (Keeps-refl _);
      written = c.read.ensures.written;
      times = c.now-now.ensures;
    }) (Keeps-refl _) c.in_err-tick.ensures.err)

pub returns-in_err-take_in-clause-err : goal.returns-in_err-take_in-clause-err
returns-in_err-take_in-clause-err g c =
    on_err _ _ (stops_bytes g.S.Stepper.steps_to _ _ (take c.in-Some.count c.read.new.buffer) c.now-now.result _ _ _ (outside _ _ _ _) (outside _ _ true None) (outside _ _ _ _) (record {
      comes = (c.in-Some.ensures.read _ _ _ c.read.ensures.comes).1;
      stays = (Keeps-refl _);
      written = c.read.ensures.written;
      times = c.now-now.ensures;
    }) (Keeps-refl _) c.in_ok-tick.ensures.ok c.in_err-take_in.ensures.err)

pub returns-clause-on : goal.returns-clause-on
returns-clause-on g c =
    rw c.tick.ensures.told (turn_on g.S.Stepper.steps_to _ _ (take c.in-Some.count c.read.new.buffer) c.now-now.result _ _ _ _ (outside _ _ _ _) (outside _ _ true None) (outside _ _ _ _) _ (record {
      comes = (c.in-Some.ensures.read _ _ _ c.read.ensures.comes).1;
      stays = c.give_out.ensures.coming;
      written = c.read.ensures.written;
      times = c.now-now.ensures;
    }) c.in_ok-tick.ensures.ok c.in_ok-take_in.ensures.ok c.give_out.ensures.ok)

pub returns-clause-off : goal.returns-clause-off
returns-clause-off g c =
    turn_off g.S.Stepper.steps_to _ _ (take c.in-Some.count c.read.new.buffer) c.now-now.result _ _ _ _ (outside _ _ _ _) (outside _ _ true None) (outside _ _ _ _) _ (record {
      comes = (c.in-Some.ensures.read _ _ _ c.read.ensures.comes).1;
      stays = c.give_out.ensures.coming;
      written = c.read.ensures.written;
      times = c.now-now.ensures;
    }) c.in_ok-tick.ensures.ok c.in_ok-take_in.ensures.ok c.give_out.ensures.ok

pub returns-clause-err : goal.returns-clause-err
returns-clause-err g c =
    turn_err g.S.Stepper.steps_to _ _ (take c.in-Some.count c.read.new.buffer) c.now-now.result _ _ _ _ (outside _ _ _ _) (outside _ _ true None) (outside _ _ _ _) _ (record {
      comes = (c.in-Some.ensures.read _ _ _ c.read.ensures.comes).1;
      stays = c.give_out.ensures.coming;
      written = c.read.ensures.written;
      times = c.now-now.ensures;
    }) c.in_ok-tick.ensures.ok c.in_ok-take_in.ensures.ok c.give_out.ensures.err
