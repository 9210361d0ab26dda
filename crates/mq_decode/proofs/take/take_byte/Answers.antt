use Rattle.std.proofs.Common.{◌≡◌, ℕ, List, ◌<◌, ◌++◌, [], ◌∷◌, length, sym, subst, ◌∙◌, arith}
use Rattle.mq_decode.specs.Copied.{counted_more}
use Rattle.mq_decode.specs.Grammar.{Takes}
use Rattle.mq_decode.specs.Inside.Grammar.{IsAlone}
use Rattle.mq_decode.proofs.Alone.{byte_alone, takes_copies, takes_goes}
use Rattle.mq_decode.proofs.Waiting.{short_copied}
use Rattle.mq_decode.proofs.take.take_byte.Goals as goal

pub returns-then-waits-clause-copied : goal.returns-then-waits-clause-copied
returns-then-waits-clause-copied c =
    let few : length (c.args.byte ∷ []) < c.args.held.now.wants = omega (arith, c.waits.ensures.more c.if-waits.true, c.hold_byte.ensures.wants) in
    short_copied c.args.limits c.args.held.now.bytes (c.args.byte ∷ []) c.args.held.now.wants c.args.held.now.copied c.waits.new.self.copied c.requires.pending c.requires.wants few (c.waits.ensures.copied ∙ c.in_ok-hold_byte.ensures.copied)

pub take_whole-requires : goal.take_whole-requires
take_whole-requires c =
    let held : c.waits.new.self.bytes ≡ c.args.held.now.bytes ++ c.args.byte ∷ [] = c.waits.ensures.bytes ∙ c.in_ok-hold_byte.ensures.ok in
    subst (IsAlone c.args.limits) (sym held) (byte_alone c.args.limits c.args.held.now.bytes c.args.byte c.requires.pending)

pub returns-in-Ok-clause-ok : goal.returns-in-Ok-clause-ok
returns-in-Ok-clause-ok c =
    let bytes = c.args.held.now.bytes ++ c.args.byte ∷ [] in
    let held : c.waits.new.self.bytes ≡ bytes = c.waits.ensures.bytes ∙ c.in_ok-hold_byte.ensures.ok in
    takes_goes c.args.limits bytes c.args.out.now.items c.take_whole.new.out.items c.take_whole.new.held.bytes
    (subst (λ (b : List ℕ). Takes c.args.limits b c.args.out.now.items c.take_whole.new.out.items c.take_whole.new.held.bytes) held c.in-Ok.ensures.ok)

pub returns-in-Ok-clause-copied : goal.returns-in-Ok-clause-copied
returns-in-Ok-clause-copied c =
    let bytes = c.args.held.now.bytes ++ c.args.byte ∷ [] in
    let held : c.waits.new.self.bytes ≡ bytes = c.waits.ensures.bytes ∙ c.in_ok-hold_byte.ensures.ok in
    let count : c.take_whole.new.held.copied ≡ counted_more c.args.held.now.copied 1 = c.take_whole.ensures.copied ∙ (c.waits.ensures.copied ∙ c.in_ok-hold_byte.ensures.copied) in
    takes_copies c.args.limits c.args.held.now.bytes c.args.byte c.args.out.now.items c.take_whole.new.out.items c.take_whole.new.held.bytes c.args.held.now.copied c.take_whole.new.held.copied
    (subst (λ (b : List ℕ). Takes c.args.limits b c.args.out.now.items c.take_whole.new.out.items c.take_whole.new.held.bytes) held c.in-Ok.ensures.ok) count
