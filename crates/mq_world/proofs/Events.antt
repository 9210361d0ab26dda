-- The events of a world over bytes, all of them.
use Rattle.mq_decode.specs.Laws.{ReadsAgain}
use Rattle.mq_end.specs.Laws.{ClosingLaws}
use Rattle.mq_world.specs.OverBytes.{OverBytes}
use Rattle.mq_world.proofs.Standing.{blank, alike, unheard, seen_headline}
use Rattle.mq_world.proofs.Moving.{publish, drop, drop_both, restart, opened, leave, ping}
use Rattle.mq_world.proofs.Delivering.{deliver}

pub law : ReadsAgain → ClosingLaws → OverBytes
law reads laws = record {
  blank = blank;
  alike = alike;
  unheard = unheard;
  deliver = deliver reads laws;
  publish = publish;
  drop = drop;
  drop_both = drop_both;
  restart = restart;
  opened = opened;
  leave = leave;
  ping = ping;
  headline = seen_headline;
}
