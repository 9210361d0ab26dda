-- Runs that consist of runs, and their effect on sessions.
use Rattle.std.proofs.Common.{◌≡◌, ℕ, zero, suc, Bool, true, false, List, [], ◌∷◌, ◌++◌, replicate, length, refl, sym, subst, ◌∙◌}
use Rattle.mq_world.specs.declared.side.Side.{Side}
use Rattle.mq_world.specs.declared.side.Side.TheVariants.{Client, Server}
use Rattle.mq_world.specs.Half.{Half, Arrives}
use Rattle.mq_world.specs.Machine.{Machine, Move, By, Opens, Run, after}
use Rattle.mq_world.specs.Settling.{queue, arrivals, delivered, exchange, settled}
use Rattle.mq_world.specs.Runs.{RunsLaw}
use Rattle.mq_world.specs.Sessions.{SessionsLaw}
use Rattle.mq_world.proofs.Lists.{Each}
use Rattle.mq_world.proofs.Marks.{Marks, IsNoConnack, reached_well}

pub joins : (limit capacity : ℕ) (u v w : Machine) (xs ys : List Move) → Run limit capacity u xs v → Run limit capacity v ys w
    → Run limit capacity u (xs ++ ys) w
joins limit capacity u v w [] ys r s = subst (λ (z : Machine). Run limit capacity z ys w) r s
joins limit capacity u v w (x ∷ xs) ys r s = (r.0, joins limit capacity (after u x) v w xs ys r.1 s)

arrive : (limit capacity n : ℕ) (side : Side) (w : Machine) → Run limit capacity w (replicate n (By side Arrives)) (arrivals n side w)
arrive limit capacity zero side w = refl
arrive limit capacity (suc n) Client w = (tt, arrive limit capacity n Client (after w (By Client Arrives)))
arrive limit capacity (suc n) Server w = (tt, arrive limit capacity n Server (after w (By Server Arrives)))

exchanges : (limit capacity : ℕ) (w : Machine) → (moves : List Move) × Run limit capacity w moves (exchange w)
exchanges limit capacity w =
    let v : Machine = delivered Server w in (
      replicate (length (queue Server w)) (By Server Arrives) ++ replicate (length (queue Client v)) (By Client Arrives),
      joins limit capacity w v (exchange w) (replicate (length (queue Server w)) (By Server Arrives)) (replicate (length (queue Client v)) (By Client Arrives))
          (arrive limit capacity (length (queue Server w)) Server w) (arrive limit capacity (length (queue Client v)) Client v),
    )

settles : (limit capacity : ℕ) (w : Machine) → (moves : List Move) × Run limit capacity w moves (settled w)
settles limit capacity w =
    let one = exchanges limit capacity (after w Opens) in
    let two = exchanges limit capacity (exchange (after w Opens)) in
    let three = exchanges limit capacity (exchange (exchange (after w Opens))) in (
      Opens ∷ (one.0 ++ (two.0 ++ three.0)),
      (tt, joins limit capacity _ _ _ one.0 (two.0 ++ three.0) one.1 (joins limit capacity _ _ _ two.0 three.0 two.1 three.1)),
    )

pub chains : RunsLaw
chains = record { joins = joins; arrive = arrive; settle = settles }

known_both : (c s : Half) → Marks c s → c.end.known ≡ true → s.end.known ≡ true
known_both c s m k = by_server s.end.known m
  where
    by_server : (t : Bool) → (t ≡ false → (c.end.known ≡ false) × Each IsNoConnack c.coming) → t ≡ true
    by_server true m = refl
    by_server false m = absurd (true_not (sym k ∙ (m refl).0))
      where
        true_not : true ≡ false → ⊥
        true_not e = cc

pub kept_sessions : SessionsLaw
kept_sessions limit capacity window moves w run =
    let h = reached_well limit capacity window moves w run in
    record { client = h.0.kept_x; server = h.0.kept_y; known = known_both w.client w.server h.1 }
