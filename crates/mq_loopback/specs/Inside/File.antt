-- Loopback files as they are written: a line for each client. Only proofs cite these definitions.
use Rattle.std.specs.Prelude.{ℕ, ◌<◌, List, length}
use Rattle.mq_schedule.specs.Schedule.{words_of}
use Rattle.mq_loopback.specs.declared.client.Client.{Client}
use Rattle.mq_loopback.specs.File.{Says, IsFresh}

-- a line says a client that may come after these: there are fewer than 64, and none of them has its
-- name
pub record Joins (clients : List Client) (client : Client) (line : List ℕ) : Type 0 where
  pub room : length clients < 64
  pub fresh : IsFresh client.name clients
  pub says : Says client (words_of line)
