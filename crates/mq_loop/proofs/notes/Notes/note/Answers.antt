use Rattle.std.proofs.Common.{◌≡◌, ◌<◌, ◌+◌, ◌∷◌, [], ◌++◌, ◌∙◌, ℕ, List, nat_eq, length, take, add-one, sym, ap, subst, arith}
use Rattle.std.proofs.Math.Seq.{take-suc}
use Rattle.std.specs.HashMap.{get}
use Rattle.mq_route.specs.declared.act.Act.{Act}
use Rattle.mq_loop.specs.Rounds.{IsNoted}
use Rattle.mq_loop.proofs.Noting.{one_more}
use Rattle.mq_loop.proofs.notes.Notes.note.Goals as goal

pub loop-act-preserved : goal.loop-act-preserved
loop-act-preserved c =
    let old = c.args.self.now in
    let mid = c.loop-act.self in
    let new = c.note_act.new.self in
    let log = c.args.acts.now in
    let i = c.loop-act.act-index in
    let act = c.act-item.result in
    let within : i < length log = omega arith in
    let parts : take (i + 1) log ≡ take i log ++ act ∷ [] =
    ap (λ (n : ℕ). take n log) (add-one i) ∙ take-suc log i act within ∙ ap (λ (a : Act). take i log ++ a ∷ []) (sym c.act-item.is) in
    record {
      failed = c.note_act.ensures.failed ∙ c.loop-act.invariant.failed;
      noted = subst (λ (l : List Act). IsNoted l (get nat_eq old.clients) old.marked old.over (get nat_eq new.clients) new.marked new.over) (sym parts)
          (one_more (take i log) act (get nat_eq old.clients) (get nat_eq mid.clients) (get nat_eq new.clients) old.marked mid.marked new.marked old.over mid.over new.over
          c.loop-act.invariant.noted c.note_act.ensures.noted);
    }
