use Rattle.std.proofs.Common.{◌≡◌, ◌∙◌, ap, arith}
use Rattle.mq_flow.specs.Inside.Held.{bytes_found, bytes_under}
use Rattle.mq_flow.proofs.StoredBytes.{bytes_taken}
use Rattle.mq_flow.proofs.table.Table.bytes_of.Goals as goal

pub returns-in-Some-clause-within : goal.returns-in-Some-clause-within
returns-in-Some-clause-within c =
    let all = bytes_taken c.args.id c.args.self.now.pairs in
    let own : c.held_bytes.result ≡ bytes_under c.args.id c.args.self.now.pairs = c.held_bytes.ensures.value ∙ ap bytes_found c.in-Some.ensures in
    omega (arith, all, own)
