use Rattle.std.proofs.Common.{subst}
use Rattle.mq_store.specs.Continued.{MayHaveNext}
use Rattle.mq_store.proofs.data_folder.DataFolder.begin_next.Goals as goal

pub returns-in_err-file-clause-at_any_time : goal.returns-in_err-file-clause-at_any_time
returns-in_err-file-clause-at_any_time g c =
    subst (λ hub. MayHaveNext c.args.self.now hub c.next_file.new.self) c.hub.ensures.hub c.next_file.ensures.at_any_time

pub returns-in_err-_old-clause-at_any_time : goal.returns-in_err-_old-clause-at_any_time
returns-in_err-_old-clause-at_any_time g c =
    subst (λ hub. MayHaveNext c.args.self.now hub c.next_file.new.self) c.hub.ensures.hub c.next_file.ensures.at_any_time

pub returns-clause-at_any_time : goal.returns-clause-at_any_time
returns-clause-at_any_time g c =
    subst (λ hub. MayHaveNext c.args.self.now hub c.next_file.new.self) c.hub.ensures.hub c.next_file.ensures.at_any_time
