-- The events that a client reported and its user has not taken yet.
use Rattle.std.specs.Prelude.{List, [], ◌++◌, option_to_list, unwrap_or}
use Rattle.mq_end.specs.declared.happening.Happening.{Happening}
use Rattle.mq_embedded.specs.declared.queue.Queue.{Queue}

abbrev pub queued : Queue → List Happening
queued queue = option_to_list queue.first ++ unwrap_or queue.rest []
