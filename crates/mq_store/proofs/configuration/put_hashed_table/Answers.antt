use Rattle.std.proofs.Common.{◌≡◌, ◌++◌, List, length, Option, Some, sym, ap, ◌∙◌, subst}
use Rattle.mq_route.specs.declared.config.HashedUser.{HashedUser}
use Rattle.mq_route.specs.Snapshot.{eight}
use Rattle.mq_store.specs.Configuration.{hashed_table, hashed_users_bytes}
use Rattle.mq_store.proofs.Appends.{on_ok, three}
use Rattle.mq_store.proofs.configuration.put_hashed_table.Goals as goal

pub returns-in_ok-put_eight-in-Some-2 : goal.returns-in_ok-put_eight-in-Some-2
returns-in_ok-put_eight-in-Some-2 c =
    let slice : List HashedUser = c.as_slice-users.result.now in
    let is : c.args.users.now ≡ Some slice = c.in-Some.is ∙ ap (λ (l : List HashedUser). Some l) (sym c.as_slice-users.ensures) in
    on_ok c.put_hashed_users.result
    (c.put_hashed_users.new.out.items ≡ c.put_eight-in-Some-2.new.out.items ++ hashed_users_bytes slice)
    (c.put_hashed_users.new.out.items ≡ c.args.out.now.items ++ hashed_table c.args.users.now)
    (λ h. subst (λ (o : Option (List HashedUser)). c.put_hashed_users.new.out.items ≡ c.args.out.now.items ++ hashed_table o) (sym is)
    (three c.args.out.now.items c.put_eight-in-Some.new.out.items c.put_eight-in-Some-2.new.out.items c.put_hashed_users.new.out.items (eight 1) (eight (length slice)) (hashed_users_bytes slice) c.in_ok-put_eight-in-Some.ensures c.in_ok-put_eight-in-Some-2.ensures h))
    c.put_hashed_users.ensures
