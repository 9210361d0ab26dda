use Rattle.std.proofs.Common.{◌≡◌, ◌++◌, take}
use Rattle.mq_store.specs.Configuration.{users_bytes}
use Rattle.mq_store.proofs.configuration.put_users.Given as goal

abbrev pub invariant-loop-user : goal.invariant-loop-user
invariant-loop-user l =
    l.out.items ≡ l.fn.out.items ++ users_bytes (take l.user-index l.users)
