use Rattle.std.proofs.Common.{◌≡◌, ◌++◌, List, length, Option, Some, sym, ap, ◌∙◌, subst}
use Rattle.mq_route.specs.declared.config.User.{User}
use Rattle.mq_route.specs.Snapshot.{eight}
use Rattle.mq_store.specs.Configuration.{user_table, users_bytes}
use Rattle.mq_store.proofs.Appends.{on_ok, three}
use Rattle.mq_store.proofs.configuration.put_user_table.Goals as goal

pub returns-in_ok-put_eight-in-Some-2 : goal.returns-in_ok-put_eight-in-Some-2
returns-in_ok-put_eight-in-Some-2 c =
    let slice : List User = c.as_slice-users.result.now in
    let is : c.args.users.now ≡ Some slice = c.in-Some.is ∙ ap (λ (l : List User). Some l) (sym c.as_slice-users.ensures) in
    on_ok c.put_users.result
    (c.put_users.new.out.items ≡ c.put_eight-in-Some-2.new.out.items ++ users_bytes slice)
    (c.put_users.new.out.items ≡ c.args.out.now.items ++ user_table c.args.users.now)
    (λ h. subst (λ (o : Option (List User)). c.put_users.new.out.items ≡ c.args.out.now.items ++ user_table o) (sym is)
    (three c.args.out.now.items c.put_eight-in-Some.new.out.items c.put_eight-in-Some-2.new.out.items c.put_users.new.out.items (eight 1) (eight (length slice)) (users_bytes slice) c.in_ok-put_eight-in-Some.ensures c.in_ok-put_eight-in-Some-2.ensures h))
    c.put_users.ensures
