-- The lists of messages of a side. Only proofs cite these definitions.
use Rattle.mq_world.specs.declared.account.Account.{Account}
use Rattle.mq_world.specs.Listed.{FreedGrows, HandedGrows, handed_in}

-- The lists of a side that received bytes only grow: its delivered messages and its freed places.
pub record TellsMore (old new : Account) : Type 0 where
  pub handed : HandedGrows (handed_in old) (handed_in new)
  pub freed : FreedGrows old.freed.items new.freed.items
