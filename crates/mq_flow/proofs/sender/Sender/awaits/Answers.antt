use Rattle.std.proofs.Common.{◌∙◌, Some, sym, ap}
use Rattle.std.specs.Option.{option_copied}
use Rattle.mq_flow.specs.Sender.{is_awaited}
use Rattle.mq_flow.specs.Sending.{Sending}
use Rattle.mq_flow.proofs.Holding.{awaited_in, awaited_found}
use Rattle.mq_flow.proofs.Kept.{once_keys}
use Rattle.mq_flow.proofs.sender.Sender.awaits.Goals as goal

pub returns-in-Some-Waiting : goal.returns-in-Some-Waiting
returns-in-Some-Waiting c =
    let ps = c.self.inside.table.pairs in
    let once = once_keys c.self.inside.capacity ps c.self.inside.claimed.items c.self.invariant.1 c.self.invariant.0.sound in
    let found = sym c.get.ensures ∙ ap option_copied c.in-Some-Waiting.is ∙ ap Some c.in-Some-Waiting.field-0-is in
    c.is_sent.ensures ∙ sym (awaited_found c.args.qos c.args.id ps c.self.invariant.1 once ∙ ap (awaited_in c.args.qos) found) ∙ ap (λ (v : Sending). is_awaited c.args.qos c.args.id v.book.entries) c.self.view_is

pub returns-in-Some-Released : goal.returns-in-Some-Released
returns-in-Some-Released c =
    let ps = c.self.inside.table.pairs in
    let once = once_keys c.self.inside.capacity ps c.self.inside.claimed.items c.self.invariant.1 c.self.invariant.0.sound in
    let found = sym c.get.ensures ∙ ap option_copied c.in-Some-Released.is ∙ ap Some c.in-Some-Released.field-0-is in
    sym (awaited_found c.args.qos c.args.id ps c.self.invariant.1 once ∙ ap (awaited_in c.args.qos) found) ∙ ap (λ (v : Sending). is_awaited c.args.qos c.args.id v.book.entries) c.self.view_is

pub returns-in-None : goal.returns-in-None
returns-in-None c =
    let ps = c.self.inside.table.pairs in
    let once = once_keys c.self.inside.capacity ps c.self.inside.claimed.items c.self.invariant.1 c.self.invariant.0.sound in
    let found = sym c.get.ensures ∙ ap option_copied c.in-None.is in
    sym (awaited_found c.args.qos c.args.id ps c.self.invariant.1 once ∙ ap (awaited_in c.args.qos) found) ∙ ap (λ (v : Sending). is_awaited c.args.qos c.args.id v.book.entries) c.self.view_is
