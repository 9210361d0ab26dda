use Rattle.std.proofs.Common.{take, flat_map}
use Rattle.std.specs.Fmt.{HasWritten, IsPlainFormatter}
use Rattle.mq_packet.specs.Lines.{filter_text}
use Rattle.mq_packet.proofs.text.write_filters.Given as goal

abbrev pub invariant-loop-filter : goal.invariant-loop-filter
invariant-loop-filter g l =
    IsPlainFormatter l.initial.f → HasWritten g.W.Write.write_str_gives l.initial.f (flat_map filter_text (take l.filter-index l.filters)) l.f
