-- Output that is moved to a buffer.
use Rattle.std.proofs.Common.{◌≡◌, ℕ, ◌≤◌, min, List, ◌++◌, length, take, drop, ap, subst, arith}
use Rattle.mq_end.specs.Publishing.{ClientState}
use Rattle.mq_end.specs.State.{bytes_less}
use Rattle.mq_embedded.specs.Calls.{WithEvents, TakesOutput}
use Rattle.mq_embedded.proofs.Fronts.{Puts, first_put}

pub moved : (old : WithEvents) (output room filled : List ℕ) (count : ℕ) (new : ClientState)
    → output ≡ old.end.link.output → count ≡ min (length output) (length room) → Puts 0 (take count output) room filled
    → new ≡ record old.end { link = record old.end.link { output = drop count old.end.link.output; room = bytes_less count old.end.link.room } }
    → TakesOutput count old (record { end = new; events = old.events }) room filled
moved old output room filled count new same least put is =
    let within : count ≤ length output = omega arith in
    let front : filled ≡ take count output ++ drop count room = first_put output room filled count within put in
    (subst (λ (o : List ℕ). count ≡ min (length o) (length room)) same least, subst (λ (o : List ℕ). filled ≡ take count o ++ drop count room) same front, ap (λ (s : ClientState). record { end = s; events = old.events }) is)
