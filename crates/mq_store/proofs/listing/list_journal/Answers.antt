use Rattle.std.proofs.Common.{ap, subst, sym, ◌&&◌, ◌≡◌, ◌↔◌, ◌∙◌, IsTrue}
use Rattle.mq_durable.specs.Inside.Recorded.{AreReadable}
use Rattle.mq_store.specs.Inside.Restoring.{may_end}
use Rattle.mq_store.proofs.Lasting.{may_be_left}
use Rattle.mq_store.proofs.listing.list_journal.Goals as goal
use Rattle.mq_store.proofs.listing.list_journal.Goals.{then-are_readable, else-are_readable}

pub returns : goal.returns
returns g c =
    let are = c.in_ok-are_readable.are_readable in
    let tail = c.in_ok-contents.contents.tail in
    let is : c.if-are_readable.result ≡ (are && may_end tail) =
    elim c.if-are_readable.branch [
      | then-are_readable w ↦ w.result-is ∙ w.may_end.ensures ∙ sym (ap (λ b. b && may_end tail) w.if-are_readable.true)
      | else-are_readable w ↦ w.result-is ∙ w.if-are_readable.false ∙ sym (ap (λ b. b && may_end tail) w.if-are_readable.false)
    ] in
    let readable = subst (λ l. IsTrue are ↔ AreReadable l) c.as_slice.ensures.value c.in_ok-are_readable.ensures in
    rw is (may_be_left c.in_ok-contents.contents.entries.items c.args.bytes.now are tail c.in_ok-contents.ensures.entries c.in_ok-contents.ensures.tail readable)
