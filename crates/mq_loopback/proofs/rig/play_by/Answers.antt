use denote.Param.Send.{sendable}
use Rattle.std.proofs.Common.{ap, sym, take, vec_len, ◌∙◌}
use Rattle.mq_serve.proofs.Sends.{server_sync}
use Rattle.mq_loopback.proofs.Runs.{play_done}
use Rattle.mq_loopback.proofs.rig.play_by.Goals as goal

pub run_both-served-requires-sync-H : goal.run_both-served-requires-sync-H
run_both-served-requires-sync-H g c κs within = search (sendable, server_sync) depth 20

pub returns : goal.returns
returns g c =
    let n = vec_len c.args.rig.streams in
    play_done c.ended.result c.collected_by-collected.result c.args.clients.now c.in_ok-starts.starts.items c.run_both-served.result.1 n g.L.Ledger.parts c.ended.ensures
    (sym c.requires.parts ∙ c.requires.each ∙ sym c.requires.streams) (c.requires.clients ∙ sym c.requires.streams) (c.in_ok-starts.ensures ∙ ap (take n) c.new-threads.ensures) c.collected_by-collected.ensures.done c.run_both-served.ensures.other_done
