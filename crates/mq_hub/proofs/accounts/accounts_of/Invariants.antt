use Rattle.std.proofs.Common.{◌≡◌, length, take}
use Rattle.std.specs.List.{flat_map}
use Rattle.mq_route.specs.Runs.{AreAccounts}
use Rattle.mq_hub.proofs.accounts.accounts_of.Given as goal

abbrev pub invariant-loop-reply : goal.invariant-loop-reply
invariant-loop-reply l = record {
  accounts : AreAccounts 0 (flat_map (λ r. r.acts) (take l.reply-index l.replies)) l.accounts.items;
  count : length l.accounts.items ≡ l.count;
}
