use Rattle.std.proofs.Common.{◌≡◌, ℕ, ◌<◌, ◌++◌, true, List, [], length, take, drop, None, Some, sym, ap, subst, ◌∙◌, arith}
use Rattle.std.proofs.lemmas.List.{drop-drop, length-append, length-drop, length-take, nil_from_length}
use Rattle.mq_decode.specs.Grammar.{Faulty, Pending}
use Rattle.mq_end.specs.declared.reason.CloseReason.{CloseReason}
use Rattle.mq_end.specs.declared.reason.CloseReason.TheVariants as reasons
use Rattle.mq_end.specs.declared.progress_builder.ProgressBuilder.{ProgressBuilder}
use Rattle.mq_end.specs.State.{EndState}
use Rattle.mq_end.specs.Receiving.{Hears}
use Rattle.mq_end.specs.Inside.Receiving.{TakesNext}
use Rattle.mq_end.proofs.Along.{closes_made}
use Rattle.mq_end.proofs.Walking.{Walked, came_of, next_held, next_taken, walked_none, walked_more, walked_shut, walked_all, walked_starved, walked_broken, walked_whole}
use Rattle.mq_end.proofs.endpoint.Endpoint.take_bytes.Goals as goal

pub loop-size-init : goal.loop-size-init
loop-size-init c = record { within = omega arith; walked = walked_none c.args.role c.args.piece.now c.args.self.now c.args.told.now }

pub returns-in-Ok-Some-default-Some : goal.returns-in-Ok-Some-default-Some
returns-in-Ok-Some-default-Some c =
    let at = c.loop-size in
    let role = c.args.role in
    let old = c.args.self.now in
    let piece = c.args.piece.now in
    let rest = drop at.used piece in
    let new = c.take_next.new.self in
    let told = c.take_next.new.told in
    let n = c.in-Ok-Some-default-Some.field-0-0-0 in
    let why = Some c.in-Ok-Some-default-Some.reason in
    let taken : TakesNext role c.split_at.result.1.now n why at.self new at.told told = rw (c.in-Ok-Some-default-Some.field-0-is, c.in-Ok-Some-default-Some.field-0-0-1-is) at c.in-Ok-Some-default-Some.ensures.packet in
    let x = subst (λ (b : List ℕ). TakesNext role b n why at.self new at.told told) c.split_at.ensures.back taken in
    let next = next_taken role piece old at.self new c.args.told.now at.told told at.came n rest why at.invariant.walked x in
    walked_shut role c.args.now piece old _ new c.args.told.now at.told told x.packet (drop n rest) c.in-Ok-Some-default-Some.reason c.reads_again.ensures next (came_of role rest n why at.self new at.told told x)

pub loop-size-smaller : goal.loop-size-smaller
loop-size-smaller c =
    let at = c.loop-size in
    let role = c.args.role in
    let rest = c.split_at.result.1.now in
    let new = c.take_next.new.self in
    let told = c.take_next.new.told in
    let n = c.in-Ok-Some-default-None.size in
    let x : TakesNext role rest n None at.self new at.told told = rw (c.in-Ok-Some-default-None.field-0-is, c.in-Ok-Some-default-None.field-0-0-1-is) at c.in-Ok-Some-default-None.ensures.packet in
    let some = c.reads_again.ensures.some at.self.limit x.packet (at.self.held ++ take n rest) x.reads in
    omega (arith, some, x.within, at.invariant.within, ap length (next_held role rest n at.self new at.told told x), length-append at.self.held (take n rest), length-take n rest, c.split_at.ensures.back_len)

pub loop-size-preserved : goal.loop-size-preserved
loop-size-preserved c =
    let at = c.loop-size in
    let role = c.args.role in
    let old = c.args.self.now in
    let piece = c.args.piece.now in
    let rest = drop at.used piece in
    let new = c.take_next.new.self in
    let told = c.take_next.new.told in
    let n = c.in-Ok-Some-default-None.size in
    let taken : TakesNext role c.split_at.result.1.now n None at.self new at.told told = rw (c.in-Ok-Some-default-None.field-0-is, c.in-Ok-Some-default-None.field-0-0-1-is) at c.in-Ok-Some-default-None.ensures.packet in
    let x = subst (λ (b : List ℕ). TakesNext role b n None at.self new at.told told) c.split_at.ensures.back taken in
    let next = next_taken role piece old at.self new c.args.told.now at.told told at.came n rest None at.invariant.walked x in
    record {
      within = omega (arith, taken.within, at.invariant.within, c.split_at.ensures.back_len);
      walked = subst (λ (b : List ℕ). Walked role piece old new c.args.told.now told true b) (drop-drop n at.used piece)
          (walked_more role piece old _ new c.args.told.now at.told told x.packet (drop n rest) next (came_of role rest n None at.self new at.told told x));
    }

pub returns-in-Ok-None : goal.returns-in-Ok-None
returns-in-Ok-None c =
    let at = c.loop-size in
    let old = c.args.self.now in
    let piece = c.args.piece.now in
    let rest = drop at.used piece in
    let mid = c.take_next.new.self in
    let less : Pending at.self.limit (at.self.held ++ c.split_at.result.1.now) = rw c.in-Ok-None.field-0-is at c.in-Ok-None.ensures.less in
    let pending = subst (λ (b : List ℕ). Pending at.self.limit (at.self.held ++ b)) c.split_at.ensures.back less in
    let all : mid ≡ record at.self { held = at.self.held ++ c.split_at.result.1.now } = rw c.in-Ok-None.field-0-is at c.in-Ok-None.ensures.holds in
    let kept : c.take_next.new.told ≡ at.told = rw c.in-Ok-None.field-0-is at c.in-Ok-None.ensures.told in
    let holds = ap (λ (s : EndState). s.held) all ∙ ap (λ (b : List ℕ). at.self.held ++ b) c.split_at.ensures.back in
    let state = all ∙ ap (λ (h : List ℕ). record at.self { held = h }) (sym (ap (λ (s : EndState). s.held) all)) in
    subst (λ (t : ProgressBuilder). Hears c.args.role c.args.now piece old c.hear.new.self c.args.told.now t None) (sym kept)
    (walked_all c.args.role c.args.now piece old at.self mid c.hear.new.self c.args.told.now at.told at.came rest at.invariant.walked pending holds state c.hear.ensures)

pub returns-in-Err-Memory : goal.returns-in-Err-Memory
returns-in-Err-Memory c =
    let at = c.loop-size in
    let old = c.args.self.now in
    let piece = c.args.piece.now in
    let rest = drop at.used piece in
    let mid = c.take_next.new.self in
    let some : 0 < length (at.self.held ++ c.split_at.result.1.now) = rw c.in-Err-Memory.field-0-is at c.in-Err-Memory.ensures.err in
    let left = subst (λ (b : List ℕ). 0 < length (at.self.held ++ b)) c.split_at.ensures.back some in
    subst (λ (t : ProgressBuilder). Hears c.args.role c.args.now piece old c.close.new.self c.args.told.now t (Some c.close.result)) (sym c.in-Err-Memory.ensures.err_told)
    (subst (λ (reason : CloseReason). Hears c.args.role c.args.now piece old c.close.new.self c.args.told.now at.told (Some reason)) (sym c.close.ensures.reason)
    (walked_starved c.args.role c.args.now piece old at.self mid c.close.new.self c.args.told.now at.told at.came rest at.invariant.walked left c.in-Err-Memory.ensures.err_state
    (closes_made reasons.Memory mid c.close.new.self at.told c.close.ensures.state)))

pub returns-in-Err-Fault : goal.returns-in-Err-Fault
returns-in-Err-Fault c =
    let at = c.loop-size in
    let old = c.args.self.now in
    let piece = c.args.piece.now in
    let rest = drop at.used piece in
    let mid = c.take_next.new.self in
    let fault = c.in-Err-Fault.fault in
    let x = c.break_off.ensures in
    let broken : Faulty at.self.limit (at.self.held ++ c.split_at.result.1.now) fault.kind fault.place = rw c.in-Err-Fault.field-0-is at c.in-Err-Fault.ensures.err in
    let faulty = subst (λ (b : List ℕ). Faulty at.self.limit (at.self.held ++ b) fault.kind fault.place) c.split_at.ensures.back broken in
    subst (λ (t : ProgressBuilder). Hears c.args.role c.args.now piece old c.break_off.new.self c.args.told.now t (Some c.break_off.result)) (sym c.in-Err-Fault.ensures.err_told)
    (walked_broken c.args.role c.args.now piece old at.self mid c.break_off.new.self c.args.told.now at.told at.came rest fault c.break_off.result x.0 at.invariant.walked faulty c.in-Err-Fault.ensures.err_state x.1 x.2 x.3)

pub returns-then-used-piece : goal.returns-then-used-piece
returns-then-used-piece c =
    let at = c.loop-size in
    let role = c.args.role in
    let old = c.args.self.now in
    let piece = c.args.piece.now in
    let rest = drop at.used piece in
    let new = c.take_next.new.self in
    let told = c.take_next.new.told in
    let n = c.in-Ok-Some-default-None.size in
    let taken : TakesNext role c.split_at.result.1.now n None at.self new at.told told = rw (c.in-Ok-Some-default-None.field-0-is, c.in-Ok-Some-default-None.field-0-0-1-is) at c.in-Ok-Some-default-None.ensures.packet in
    let x = subst (λ (b : List ℕ). TakesNext role b n None at.self new at.told told) c.split_at.ensures.back taken in
    let next = next_taken role piece old at.self new c.args.told.now at.told told at.came n rest None at.invariant.walked x in
    let walked = walked_more role piece old _ new c.args.told.now at.told told x.packet (drop n rest) next (came_of role rest n None at.self new at.told told x) in
    let none : drop n rest ≡ [] = nil_from_length (drop n rest) (omega (arith, length-drop n rest, length-drop at.used piece, c.if-used-piece.true)) in
    walked_whole role c.args.now piece old new _ c.args.told.now told true (drop n rest) c.reads_again.ensures walked (next_held role rest n at.self new at.told told x) none c.hear-then-used-piece.ensures
