use Rattle.std.proofs.Common.{◌++◌, ℕ, List, codes}
use Rattle.mq_status.specs.Page.{by_qos_row}
use Rattle.mq_status.specs.declared.page.TheConstants.{MESSAGES}
use Rattle.mq_status.proofs.Texts.{and_then}
use Rattle.mq_status.proofs.page.write_messages.Goals as goal

pub returns : goal.returns
returns g c =
    let counts = c.args.counts.now in
    let end : List ℕ = codes "</table>\n" in
    let last : List ℕ = by_qos_row (codes "bytes out") counts 9 ++ end in
    let third : List ℕ = by_qos_row (codes "messages out") counts 6 ++ last in
    let second : List ℕ = by_qos_row (codes "bytes in") counts 3 ++ third in
    let first : List ℕ = by_qos_row (codes "messages in") counts 0 ++ second in
    and_then _ _ _ _ (MESSAGES.now ++ codes "\n") first c.in_ok-writeln.ensures.bytes
    (and_then _ _ _ _ (by_qos_row (codes "messages in") counts 0) second c.in_ok-write_by_qos.ensures
    (and_then _ _ _ _ (by_qos_row (codes "bytes in") counts 3) third c.in_ok-write_by_qos-2.ensures
    (and_then _ _ _ _ (by_qos_row (codes "messages out") counts 6) last c.in_ok-write_by_qos-3.ensures
    (and_then _ _ _ _ (by_qos_row (codes "bytes out") counts 9) end c.in_ok-write_by_qos-4.ensures c.writeln-2.ensures.bytes))))
