use denote.Param.Send.{sendable}
use Rattle.mq_serve.proofs.Sends.{server_sync}
use Rattle.mq_serve.proofs.program.serve_by.Goals as goal

pub run_all-requires-sync-H : goal.run_all-requires-sync-H
run_all-requires-sync-H g c κs within = search (sendable, server_sync) depth 20
