use Rattle.std.proofs.Common.{◌∷◌, List, sym, ap, ap₂, max, ◌∙◌}
use Rattle.mq_file.specs.History.{FileCall, Wrote, file_size}
use Rattle.mq_file.proofs.Contents.{wrote_leaves, wrote_size}
use Rattle.mq_file.proofs.journal_file.JournalFileDisk.write_at.Goals as goal

pub invariant_of-self : goal.invariant_of-self
invariant_of-self c =
    c.max-self-inside.ensures
    ∙ (ap₂ max (c.self.invariant ∙ ap file_size c.self.view_is) c.in-Some.ensures
    ∙ sym (wrote_size c.args.at c.args.bytes.now c.args.self.now c.note.new.self.calls c.requires (c.note.ensures ∙ ap (λ (l : List FileCall). Wrote c.args.at c.args.bytes.now ∷ l) c.self.view_is)))

pub returns-in-Some-clause-size : goal.returns-in-Some-clause-size
returns-in-Some-clause-size c =
    wrote_size c.args.at c.args.bytes.now c.args.self.now c.note.new.self.calls c.requires (c.note.ensures ∙ ap (λ (l : List FileCall). Wrote c.args.at c.args.bytes.now ∷ l) c.self.view_is)

pub returns-in-Some-clause-crash : goal.returns-in-Some-clause-crash
returns-in-Some-clause-crash c =
    wrote_leaves c.args.at c.args.bytes.now c.args.self.now c.note.new.self.calls c.requires (c.note.ensures ∙ ap (λ (l : List FileCall). Wrote c.args.at c.args.bytes.now ∷ l) c.self.view_is)
