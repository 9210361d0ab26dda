use Rattle.std.proofs.Common.{◌≡◌, ℕ, List, Option, Result, Ok, Err, IfOk, inl, subst}
use Rattle.mq_packet.specs.Lines.{Prints}
use Rattle.mq_schedule.specs.Schedule.{lines_of}
use Rattle.mq_serve.specs.declared.serve_end.ServeEnd.TheVariants.{Memory}
use Rattle.mq_loopback.specs.declared.client.Client.{Client}
use Rattle.mq_loopback.specs.declared.rig.RunError.TheVariants.{Broker}
use Rattle.mq_loopback.specs.File.{AreClients}
use Rattle.mq_loopback.specs.Program.{IsLoopback, IsRunDone}
use Rattle.mq_loopback.proofs.Telling.{cut_off_before}
use Rattle.mq_loopback.proofs.program.run.Goals as goal

-- the clients of a text ran
text_ran : {E : Type 0} (r : Result ℕ E) (old new : Option (List ℕ)) (file : List ℕ) (clients given : List Client) → given ≡ clients → AreClients clients (lines_of file)
    → IfOk r (λ status. Prints old new (IsRunDone given status)) → IfOk r (λ status. Prints old new (IsLoopback file status))
text_ran (Ok status) old new file clients given same reads told =
    (told.0, told.1, inl (clients, reads, subst (λ (cs : List Client). IsRunDone cs status told.0) same told.2))
text_ran (Err e) old new file clients given same reads told = tt

pub returns-in-Ok : goal.returns-in-Ok
returns-in-Ok g c = text_ran c.run_clients.result _ _ c.args.text.now c.in-Ok.clients.items c.as_slice.result.now c.as_slice.ensures.value c.in-Ok.ensures.reads c.run_clients.ensures

pub returns-in-Err-Memory : goal.returns-in-Err-Memory
returns-in-Err-Memory g c = cut_off_before c.write_end.result (g.W.Write.contents c.args.output.now) (g.W.Write.contents c.write_end.new.output) (Broker Memory) c.args.text.now c.write_end.ensures.status c.write_end.ensures.printed
