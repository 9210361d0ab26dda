use Rattle.std.proofs.Common.{◌≡◌, ℕ, Some, false, List, inr, refl, subst, sym}
use Rattle.std.specs.Prelude.{IfSome}
use Rattle.mq_packet.specs.Lines.{Prints}
use Rattle.mq_cli.specs.Printed.{file_not_read}
use Rattle.mq_cli.specs.Status.{IsReplayDone}
use Rattle.mq_programs.specs.Inputs.{input_of}
use Rattle.mq_programs.proofs.Drawings.{drawn, flushed, replayed}
use Rattle.mq_programs.proofs.drawing.run_draw.Goals as goal

pub perform_opened-requires : goal.perform_opened-requires
perform_opened-requires g c = (c.args.draw.image, refl)

pub returns-in-Err-2 : goal.returns-in-Err-2
returns-in-Err-2 g c = let e = c.in_ok-perform_opened-in-Err-2.ensures in (file_not_read, e.unread refl, inr (e.status refl, refl))

pub returns-then-status-ne0 : goal.returns-then-status-ne0
returns-then-status-ne0 g c =
    let input = g.I.Read.remaining c.args.input.now in
    let own = subst (λ (bytes : List ℕ). IfSome (input_of c.args.draw.source input) (λ all. bytes ≡ all)) (sym c.as_slice.ensures.value) c.in-Ok.ensures in
    replayed c.args.draw.source input c.as_slice.result.now c.in_ok-status.status (g.W.Write.contents c.args.output.now) (g.W.Write.contents c.replay_bytes.new.output) own c.in_ok-status.ensures

pub returns : goal.returns
returns g c =
    let input = g.I.Read.remaining c.args.input.now in
    let w = g.W.Write.contents in
    let own = subst (λ (bytes : List ℕ). IfSome (input_of c.args.draw.source input) (λ all. bytes ≡ all)) (sym c.as_slice.ensures.value) c.in-Ok.ensures in
    let done = subst (λ (status : ℕ). Prints (w c.args.output.now) (w c.replay_bytes.new.output) (IsReplayDone (Some c.as_slice.result.now) false status)) c.if-status-ne0.false c.in_ok-status.ensures in
    drawn c.draw_bytes.result c.args.draw.source input c.as_slice.result.now (w c.args.output.now) (w c.flush.new.self) (w c.draw_bytes.new.output) own
    (flushed (w c.args.output.now) (w c.replay_bytes.new.output) (w c.flush.new.self) done c.in_ok-flush.ensures.bytes) c.draw_bytes.ensures
