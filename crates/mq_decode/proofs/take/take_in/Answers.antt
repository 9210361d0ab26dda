use Rattle.std.proofs.Common.{◌≡◌, ◌<◌, ◌++◌, length}
use Rattle.std.proofs.lemmas.Result.{on_ok_weaker, IfErr-weaker}
use Rattle.mq_decode.specs.declared.fault.DecodeError.TheVariants as errors
use Rattle.mq_decode.specs.Grammar.{Stops}
use Rattle.mq_decode.proofs.Streams.{on_ok_both, wants_less}
use Rattle.mq_decode.proofs.Waiting.{short_copied, short_goes, short_stops}
use Rattle.mq_decode.proofs.take.take_in.Goals as goal

pub returns-then-wants_over-clause-ok : goal.returns-then-wants_over-clause-ok
returns-then-wants_over-clause-ok c =
    let few : length c.args.piece.now < c.args.held.now.wants = c.wants_over.ensures.over c.if-wants_over.true in
    on_ok_weaker c.hold.result
    (λ held. short_goes c.args.limits c.args.held.now.bytes c.args.piece.now c.args.held.now.wants c.args.out.now.items c.hold.new.self.bytes c.requires.pending c.requires.wants few held)
    c.hold.ensures.ok

pub returns-then-wants_over-clause-copied : goal.returns-then-wants_over-clause-copied
returns-then-wants_over-clause-copied c =
    let few : length c.args.piece.now < c.args.held.now.wants = c.wants_over.ensures.over c.if-wants_over.true in
    on_ok_weaker c.hold.result
    (λ grown.
    short_copied c.args.limits c.args.held.now.bytes c.args.piece.now c.args.held.now.wants c.args.held.now.copied c.hold.new.self.copied c.requires.pending c.requires.wants few grown)
    c.hold.ensures.copied

pub returns-then-wants_over-clause-wants : goal.returns-then-wants_over-clause-wants
returns-then-wants_over-clause-wants c =
    on_ok_both c.hold.result
    (λ held less. wants_less c.args.limits c.args.held.now.bytes c.args.piece.now c.hold.new.self.bytes c.args.held.now.wants c.hold.new.self.wants held less c.requires.wants)
    c.hold.ensures.ok c.hold.ensures.wants

pub returns-then-wants_over-clause-err : goal.returns-then-wants_over-clause-err
returns-then-wants_over-clause-err c =
    let some : 0 < length c.args.piece.now = c.wants_over.ensures.some c.if-wants_over.true in
    IfErr-weaker c.hold.result (λ e. e ≡ errors.Memory) (Stops c.args.limits (c.args.held.now.bytes ++ c.args.piece.now) c.args.out.now.items c.args.out.now.items)
    (λ e memory. short_stops c.args.limits c.args.held.now.bytes c.args.piece.now c.args.out.now.items e memory some)
    c.hold.ensures.err
