use Rattle.mq_cli.specs.Printed.{count_end_lines, packets_line}
use Rattle.mq_cli.proofs.Printing.{printed_then}
use Rattle.mq_cli.proofs.output.write_count.Goals as goal

pub returns-clause-printed : goal.returns-clause-printed
returns-clause-printed g c =
    printed_then c.write_count_end.result (g.W.Write.contents c.args.output.now) (g.W.Write.contents c.write_packets.new.output) (g.W.Write.contents c.write_count_end.new.output) (packets_line c.args.count.packets)
    (count_end_lines c.args.count.end) c.in_ok-write_packets.ensures c.write_count_end.ensures.printed
