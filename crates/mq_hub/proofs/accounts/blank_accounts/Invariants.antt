use Rattle.std.proofs.Common.{◌≡◌, ◌≤◌, length}
use Rattle.std.specs.List.{AllByRecursion}
use Rattle.mq_hub.specs.Inside.Logs.{IsBlank}
use Rattle.mq_hub.proofs.accounts.blank_accounts.Given as goal

abbrev pub invariant-loop : goal.invariant-loop
invariant-loop l = record {
  blank : AllByRecursion IsBlank l.accounts.items;
  count : length l.accounts.items ≡ l.counter;
  within : l.counter ≤ l.count;
}
