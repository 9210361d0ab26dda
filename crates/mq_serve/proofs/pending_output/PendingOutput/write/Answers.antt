use Rattle.std.proofs.Common.{◌≡◌, ◌≤◌, ◌++◌, [], drop, length, rules, take}
use Rattle.std.specs.Io.KnownBytes.{Appends}
use Rattle.mq_serve.proofs.Pendings.{moved_up}
use Rattle.mq_serve.proofs.pending_output.PendingOutput.write.Goals as goal

pub returns-then-is_empty-clause-front : goal.returns-then-is_empty-clause-front
returns-then-is_empty-clause-front g c =
    let front = c.self.inside.front.items in
    let later = c.self.inside.later.items in
    let count = c.write_part-count.result.0 in
    let bound : count ≤ length front = search rules in
    let part : Appends (g.W.Write.contents c.args.writer.now) (g.W.Write.contents c.write_part-count.new.writer) (take count front) = search rules in
    let left : c.advance.new.self.items ≡ drop count front = search rules in
    let next : c.replace.result.items ++ c.replace.new.dest.items ≡ later ++ [] = search rules in
    rw (← c.self.view_is) (moved_up front later c.advance.new.self.items _ count _ _ bound part left c.if-is_empty.ensures next)
