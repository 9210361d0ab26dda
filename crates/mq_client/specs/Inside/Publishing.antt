-- What `publish` does. Only proofs cite these definitions.
use Rattle.std.specs.Prelude.{◌≡◌, ℕ, ◌+◌, List, [], ◌++◌, take}
use Rattle.mq_end.specs.declared.happening.Happening.{Happening}
use Rattle.mq_end.specs.declared.reason.CloseReason.{CloseReason}
use Rattle.mq_client.specs.Course.{Ask, Moment, Went}

-- The first `count` of these requests were made, in order, and no other. The end closed for these
-- reasons.
pub record AskedFirst (earlier later : Moment) (all : List Ask) (count : ℕ) (reasons : List CloseReason) : Type 0 where
  pub told : List Happening
  pub went : Went earlier later (take count all) told reasons

-- the requests from one place to another were made
pub record AskedMore (earlier later : Moment) (all : List Ask) (from to : ℕ) : Type 0 where
  pub more : List Ask
  pub went : Went earlier later more [] []
  pub parts : take to all ≡ take from all ++ more
