-- A broker that is restored from a snapshot and the journal that follows it. Only proofs cite these
-- definitions.
use Rattle.std.specs.Prelude.{Bool, true, false}
use Rattle.mq_log.specs.declared.reader.Tail.{Tail}
use Rattle.mq_log.specs.declared.reader.Tail.TheVariants.{Closed, Torn, CutShort, Damaged}

-- whether a crash may leave a file of a journal that ends so
abbrev pub may_end : Tail → Bool
may_end Closed = true
may_end Torn = true
may_end CutShort = false
may_end Damaged = false
