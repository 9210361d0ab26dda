use Rattle.std.proofs.Common.{Some, None, arith, sym, refl}
use Rattle.mq_cli.proofs.Pieces.{same_reading, reads_piece, no_rest}
use Rattle.mq_cli.proofs.show.read_all.Goals as goal
use Rattle.mq_cli.proofs.show.read_all.Goals.{in-Ok-eq0, in-Ok, in-Err-Fault}

pub returns : goal.returns
returns c =
    let bytes = c.args.bytes.now in
    elim c.match-decode_pieces.branch [
      | in-Ok-eq0 w ↦
          let h = rw w.in-Ok-eq0.is at c.decode_pieces.ensures.ok in
          let reads = reads_piece c.args.limits bytes bytes _ c.decode_pieces.new.out.items h.2.0 h.0 None refl c.new-packets.ensures.items h.2.1 h.2.2 in
          rw w.end-is (no_rest c.args.limits bytes c.decode_pieces.new.out.items h.0 None (omega (arith, h.1)) reads)
      | in-Ok w ↦
          let h = rw w.in-Ok.is at c.decode_pieces.ensures.ok in
          let reads = reads_piece c.args.limits bytes bytes _ c.decode_pieces.new.out.items h.2.0 h.0 None refl c.new-packets.ensures.items h.2.1 h.2.2 in
          rw w.end-is (h.0, reads, h.1, omega arith)
      | in-Err-Fault w ↦
          let h = rw (w.in-Err-Fault.is, w.in-Err-Fault.field-0-is) at c.decode_pieces.ensures.err in
          let fault = w.in-Err-Fault.fault in
          let reads = reads_piece c.args.limits bytes bytes _ c.decode_pieces.new.out.items h.0 h.1 (Some fault) refl c.new-packets.ensures.items h.2 h.3 in
          let lent_packets = w.as_slice.ensures.value in
          let lent = same_reading c.args.limits bytes bytes c.decode_pieces.new.out.items w.as_slice.result.now h.1 (Some fault) refl (sym lent_packets) reads in
          let start = w.size_of.ensures h.1 (Some fault) lent in
          rw w.end-is (h.1, reads, start)
    ]
