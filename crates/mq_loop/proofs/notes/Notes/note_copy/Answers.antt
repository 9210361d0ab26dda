use Rattle.std.proofs.Common.{◌∙◌, nat_eq, sym}
use Rattle.std.specs.HashMap.{get}
use Rattle.mq_loop.proofs.Noting.{copy_noted, copy_none_noted}
use Rattle.mq_loop.proofs.notes.Notes.note_copy.Goals as goal

pub returns-in_default-clause-noted : goal.returns-in_default-clause-noted
returns-in_default-clause-noted c message =
    let s = c.args.self.now in
    copy_none_noted c.args.key message (get nat_eq s.clients) s.marked s.over (sym (c.copied.ensures ∙ c.get.ensures.value) ∙ c.in_default.is)

pub returns-clause-noted : goal.returns-clause-noted
returns-clause-noted c message =
    let s = c.args.self.now in
    rw c.put.ensures (copy_noted c.args.key c.in-Some.place message (get nat_eq s.clients) s.marked s.over (sym (c.copied.ensures ∙ c.get.ensures.value) ∙ c.in-Some.is))
