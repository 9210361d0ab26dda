use Rattle.std.proofs.Common.{◌≡◌, ℕ, ◌++◌, Option, sym, subst}
use Rattle.mq_route.specs.Snapshot.{eight}
use Rattle.mq_store.specs.Configuration.{option_bytes}
use Rattle.mq_store.proofs.Appends.{on_ok, two}
use Rattle.mq_store.proofs.configuration.put_option.Goals as goal

pub returns-in_ok-put_eight-in-Some : goal.returns-in_ok-put_eight-in-Some
returns-in_ok-put_eight-in-Some c =
    on_ok c.put_eight-in-Some-2.result
    (c.put_eight-in-Some-2.new.out.items ≡ c.put_eight-in-Some.new.out.items ++ eight c.in-Some.number)
    (c.put_eight-in-Some-2.new.out.items ≡ c.args.out.now.items ++ option_bytes c.args.number)
    (λ h. subst (λ (o : Option ℕ). c.put_eight-in-Some-2.new.out.items ≡ c.args.out.now.items ++ option_bytes o) (sym c.in-Some.is)
    (two c.args.out.now.items c.put_eight-in-Some.new.out.items c.put_eight-in-Some-2.new.out.items (eight 1) (eight c.in-Some.number) c.in_ok-put_eight-in-Some.ensures h))
    c.put_eight-in-Some-2.ensures
