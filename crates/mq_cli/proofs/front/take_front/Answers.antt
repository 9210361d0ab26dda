use Rattle.std.proofs.Common.{List, ℕ, ◌≤◌, sym, subst}
use Rattle.mq_cli.specs.Show.{Reads}
use Rattle.mq_cli.proofs.front.take_front.Goals as goal

pub take-requires : goal.take-requires
take-requires c =
    let bytes = c.args.bytes.now in
    let reads = subst (λ (b : List ℕ). Reads c.args.limits b c.in_ok-shown.shown.packets.items c.in_ok-shown.shown.end) c.as_slice.ensures c.in_ok-shown.ensures in
    let front = c.front_of-size.ensures c.args.limits bytes c.in_ok-shown.shown.packets.items (sym c.len.ensures) reads in
    subst (λ (n : ℕ). c.front_of-size.result.0 ≤ n) c.len.ensures front.0
