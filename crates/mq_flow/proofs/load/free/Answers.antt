use Rattle.std.proofs.Common.{rules, refl, sym, ◌∙◌, arith}
use Rattle.mq_packet.specs.Identifier.{IsIdentifier}
use Rattle.mq_flow.proofs.Restoring.{unused, free_read}
use Rattle.mq_flow.proofs.load.free.Goals as goal

pub returns-in-Some-clause-read : goal.returns-in-Some-clause-read
returns-in-Some-clause-read c =
    let none = unused c.in-Some.id c.args.sender.now.book (sym c.is_in_use.ensures ∙ c.if-not-is_in_use.true) in
    free_read c.args.sender.now.book c.args.bytes.now c.in-Some.id c.in_ok-number.rest.now (rw c.in-Some.ensures.value c.in_ok-number.ensures) (omega (arith, c.in-Some.ensures.some.0 refl)) none

pub returns-in-Some-clause-free : goal.returns-in-Some-clause-free
returns-in-Some-clause-free c =
    let none = unused c.in-Some.id c.args.sender.now.book (sym c.is_in_use.ensures ∙ c.if-not-is_in_use.true) in
    let identifier : IsIdentifier c.in-Some.id = search rules in
    (identifier, none)
