use Rattle.std.proofs.Common.{◌≡◌, ◌++◌, List, length, take}
use Rattle.mq_route.specs.declared.act.Act.{Act}
use Rattle.mq_route.specs.Runs.{AreAccounts}
use Rattle.mq_hub.proofs.accounts.note_all.Given as goal

abbrev pub invariant-loop-act : goal.invariant-loop-act
invariant-loop-act l = record {
  accounts : (log : List Act) → AreAccounts 0 log l.initial.accounts → AreAccounts 0 (log ++ take l.act-index l.acts) l.accounts;
  count : length l.accounts ≡ length l.initial.accounts;
}
