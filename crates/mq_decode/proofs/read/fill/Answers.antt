use Rattle.std.proofs.Common.{◌≡◌, ℕ, ◌+◌, true, length, take, ◌∙◌, arith}
use Rattle.std.specs.Result.{is_ok}
use Rattle.std.proofs.lemmas.List.{length-take, length-drop}
use Rattle.mq_decode.proofs.Filling.{resized_front, filled_is}
use Rattle.mq_decode.proofs.read.fill.Goals as goal

pub returns-clause-bytes : goal.returns-clause-bytes
returns-clause-bytes g c =
    let room = c.read_some.new.room in
    let ok : is_ok c.resize.result ≡ true = rw c.if-is_err.false at c.is_err.ensures.negation in
    let start_is : c.len-start.result ≡ length c.args.buffer.now.items = omega (arith, c.len-start.ensures, c.args.buffer.now.ok.0) in
    let front : take c.len-start.result c.deref_mut.result.now ≡ c.args.buffer.now.items =
    resized_front c.args.buffer.now.items c.deref_mut.result.now _ c.len-start.result c.args.most (is_ok c.resize.result) start_is ok (c.deref_mut.ensures.value ∙ c.resize.ensures.items) in
    let longer : c.resize.new.self.len ≡ c.len-start.result + c.args.most = rw ok at c.resize.ensures.len in
    let fits = c.in_ok-count.ensures.within in (
      take c.in_ok-count.count room,
      omega (arith, length-take c.in_ok-count.count room, c.in_ok-count.ensures.count),
      filled_is c.args.buffer.now.items c.deref_mut.result.now room _ _ c.truncate.new.self.items c.len-start.result c.in_ok-count.count c.resize.new.self.len front start_is c.in_ok-count.ensures.count (omega (arith, longer, fits, c.deref_mut.ensures.len, length-take {A = ℕ}, length-drop {A = ℕ})) c.truncate.ensures.items,
      c.in_ok-count.ensures.bytes.0,
    )
