use Rattle.std.proofs.Common.{ℕ, ◌<◌, List, length, arith}
use Rattle.mq_route.specs.declared.config.HashedUser.{HashedUser}
use Rattle.mq_store.proofs.Configurations.{hashed_more}
use Rattle.mq_store.proofs.configuration.put_hashed_users.Goals as goal

pub loop-user-preserved : goal.loop-user-preserved
loop-user-preserved c =
    let users : List HashedUser = c.args.users.now in
    let i : ℕ = c.loop-user.user-index in
    let within : i < length users = omega (arith, c.loop-user-test.true) in
    hashed_more c.args.out.now.items c.loop-user.out.items c.put_hashed_user.new.out.items users i c.user-item.result within c.user-item.is c.loop-user.invariant c.in_ok-put_hashed_user.ensures
