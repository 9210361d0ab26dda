use Rattle.std.proofs.Common.{refl, inl, inr, rules}
use Rattle.mq_cli.specs.Hexadecimal.{IsHexadecimal}
use Rattle.mq_cli.specs.Printed.{bad_hex}
use Rattle.mq_cli.specs.Status.{IsShowDone}
use Rattle.mq_cli.proofs.Printing.{printed_one, shown_done}
use Rattle.mq_cli.proofs.output.show.Goals as goal

pub returns-in-Ok : goal.returns-in-Ok
returns-in-Ok g c =
    shown_done c.args.lenient c.widest.result c.args.hex.now c.in-Ok.shown c.write_shown.result (g.W.Write.contents c.args.output.now) (g.W.Write.contents c.write_shown.new.output) c.widest.ensures c.in-Ok.ensures.shows c.write_shown.ensures.status
    c.write_shown.ensures.printed

pub returns-in-Err-BadHex : goal.returns-in-Err-BadHex
returns-in-Err-BadHex g c =
    let bad : ¬ IsHexadecimal c.args.hex.now = search rules in
    printed_one c.bad_hex.result 2 (g.W.Write.contents c.args.output.now) (g.W.Write.contents c.bad_hex.new.output) bad_hex (IsShowDone c.args.lenient c.args.hex.now) c.bad_hex.ensures.status c.bad_hex.ensures.printed (inr (inl (refl, refl, bad)))
