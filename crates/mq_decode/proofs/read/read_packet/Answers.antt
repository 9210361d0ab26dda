use Rattle.mq_decode.proofs.Readers.{answers, sized_packet, sized_none, sized_err}
use Rattle.mq_decode.proofs.read.read_packet.Goals as goal

pub returns-clause-packet : goal.returns-clause-packet
returns-clause-packet g c =
    rw c.without_size.ensures (sized_packet c.args.limits c.read_sized-read.result (g.R.Read.remaining c.args.reader.now) (g.R.Read.remaining c.read_sized-read.new.reader) c.read_sized-read.ensures.packet)

pub returns-clause-none : goal.returns-clause-none
returns-clause-none g c = rw c.without_size.ensures (sized_none c.read_sized-read.result (g.R.Read.remaining c.args.reader.now) c.read_sized-read.ensures.none)

pub returns-clause-err : goal.returns-clause-err
returns-clause-err g c = rw c.without_size.ensures (sized_err c.args.limits c.read_sized-read.result (g.R.Read.remaining c.args.reader.now) c.read_sized-read.ensures.err)

pub returns-clause-again : goal.returns-clause-again
returns-clause-again g c = λ p s rest h e.
    rw c.without_size.ensures
    (answers c.reads_again.ensures c.args.limits p s rest _ (g.R.Read.remaining c.args.reader.now) (g.R.Read.remaining c.read_sized-read.new.reader) h e
    (sized_packet c.args.limits c.read_sized-read.result (g.R.Read.remaining c.args.reader.now) (g.R.Read.remaining c.read_sized-read.new.reader) c.read_sized-read.ensures.packet)
    (sized_none c.read_sized-read.result (g.R.Read.remaining c.args.reader.now) c.read_sized-read.ensures.none)
    (sized_err c.args.limits c.read_sized-read.result (g.R.Read.remaining c.args.reader.now) c.read_sized-read.ensures.err))
