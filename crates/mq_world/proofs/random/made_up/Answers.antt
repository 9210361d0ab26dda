use Rattle.std.proofs.Common.{◌≡◌, ℕ, suc, ◌+◌, ◌-◌, ◌<◌, ◌≤◌, List, [], ◌∷◌, ◌++◌, ap, sym, arith, add-one, append_assoc, ◌∙◌}
use Rattle.std.proofs.lemmas.List.{append-nil}
use Rattle.rand_pcg.specs.Lcg.{Lcg}
use Rattle.rand_pcg.specs.Pcg.{pcg32}
use Rattle.mq_world.specs.declared.event.Event.{Event}
use Rattle.mq_world.specs.MadeUp.{made_event, made_from}
use Rattle.mq_world.proofs.random.made_up.Goals as goal

-- one more event, and those after it
one_more : (made : List Event) (event : Event) (old new : Lcg) (word n steps : ℕ)
    → n < steps
    → (word, new) ≡ pcg32 old
    → event ≡ made_event word n
    → (made ++ event ∷ []) ++ made_from new (n + 1) (steps - (n + 1)) ≡ made ++ made_from old n (steps - n)
unfolding made_from
one_more made event old new word n steps lt drawn is =
    let left : steps - n ≡ suc (steps - (n + 1)) = omega arith in
    let first : word ≡ (pcg32 old).0 = ap (λ (p : ℕ × Lcg). p.0) drawn in
    let second : new ≡ (pcg32 old).1 = ap (λ (p : ℕ × Lcg). p.1) drawn in
    rw (left, append_assoc, is, first, second, add-one)

-- No further events.
none_left : (made : List Event) (g : Lcg) (n steps : ℕ) → steps ≤ n → made ++ made_from g n (steps - n) ≡ made
unfolding made_from
none_left made g n steps le =
    let left : steps - n ≡ 0 = omega arith in
    rw (left, append-nil)

pub loop-number-preserved : goal.loop-number-preserved
loop-number-preserved c =
    rw c.in_ok-push.ensures.items
    (one_more _ _ _ _ _ _ _ c.loop-number-test.true c.next_word-word.ensures c.in_ok-made_event.ensures ∙ c.loop-number.invariant)

pub returns : goal.returns
returns c = sym (none_left _ _ _ _ c.loop-number-test.false) ∙ c.loop-number.invariant
