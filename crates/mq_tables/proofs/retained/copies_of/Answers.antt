use Rattle.std.proofs.Common.{◌∙◌, List, [], ◌∷◌, ◌++◌, sym, ap}
use Rattle.mq_packet.specs.declared.message.Message.{Message}
use Rattle.mq_route.specs.Copies.{retained_for}
use Rattle.mq_tables.proofs.RetainedEntries.{copied, passed, none_left}
use Rattle.mq_tables.proofs.retained.copies_of.Goals as goal

pub loop-message-preserved-in_ok-push : goal.loop-message-preserved-in_ok-push
loop-message-preserved-in_ok-push c =
    let f = c.args.filter.now in
    let q = c.args.qos in
    let done = c.loop-message.copies.items in
    ap (λ (ms : List Message). ms ++ retained_for f q c.next.new.self) (c.in_ok-push.ensures.items ∙ ap (λ (x : Message). done ++ x ∷ []) c.in_ok-copy.ensures)
    ∙ copied f q c.in-Some.message.now done c.next.new.self (sym c.matches.ensures.value ∙ c.if-matches.true)
    ∙ ap (λ (ms : List Message). done ++ retained_for f q ms) (sym c.in-Some.ensures.steps)
    ∙ c.loop-message.invariant

pub loop-message-preserved : goal.loop-message-preserved
loop-message-preserved c =
    let f = c.args.filter.now in
    let q = c.args.qos in
    let done = c.loop-message.copies.items in
    ap (λ (ms : List Message). done ++ ms) (passed f q c.in-Some.message.now c.next.new.self (sym c.matches.ensures.value ∙ c.if-matches.false))
    ∙ ap (λ (ms : List Message). done ++ retained_for f q ms) (sym c.in-Some.ensures.steps)
    ∙ c.loop-message.invariant

pub returns : goal.returns
returns c =
    let f = c.args.filter.now in
    let q = c.args.qos in
    let done = c.loop-message.copies.items in
    sym (none_left f q done) ∙ ap (λ (ms : List Message). done ++ retained_for f q ms) (sym c.in-None.ensures.steps.0) ∙ c.loop-message.invariant
