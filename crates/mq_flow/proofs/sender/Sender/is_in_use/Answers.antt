use Rattle.std.proofs.Common.{◌≡◌, ℕ, ◌+◌, ◌∙◌, true, false, eqb, ltb, sym, ap, arith}
use Rattle.std.specs.Option.{is_some}
use Rattle.std.specs.List.{list_any}
use Rattle.std.specs.Map.{keys_of}
use Rattle.std.proofs.lemmas.Bool.Decides.{nat_tests}
use Rattle.mq_flow.specs.Sender.{uses, times}
use Rattle.mq_flow.specs.Held.{book_of}
use Rattle.mq_flow.specs.Sending.{Sending}
use Rattle.mq_flow.proofs.Holding.{copied_some, found_keys}
use Rattle.mq_flow.proofs.Kept.{uses_keys}
use Rattle.mq_flow.proofs.sender.Sender.is_in_use.Goals as goal

pub returns-then-is_some : goal.returns-then-is_some
returns-then-is_some c =
    let ps = c.self.inside.table.pairs in
    let cs = c.self.inside.claimed.items in
    let there : ltb 0 (times c.args.id (keys_of ps)) ≡ true = sym (found_keys c.args.id ps) ∙ ap is_some (sym c.get.ensures) ∙ copied_some c.get.result ∙ sym c.is_some.ensures ∙ c.if-is_some.true in
    let used : ltb 0 (times c.args.id (uses (book_of ps cs))) ≡ true = more_times _ _ _ (uses_keys ps cs c.self.invariant.1 c.args.id) there in
    c.if-is_some.true ∙ sym used ∙ ap (λ (v : Sending). ltb 0 (times c.args.id (uses v.book))) c.self.view_is
  where
    more_times : (a b d : ℕ) → a ≡ b + d → ltb 0 b ≡ true → ltb 0 a ≡ true
    more_times a b d e h = grind (arith, nat_tests)

pub returns-else-is_some : goal.returns-else-is_some
returns-else-is_some c =
    let ps = c.self.inside.table.pairs in
    let cs = c.self.inside.claimed.items in
    let absent : ltb 0 (times c.args.id (keys_of ps)) ≡ false = sym (found_keys c.args.id ps) ∙ ap is_some (sym c.get.ensures) ∙ copied_some c.get.result ∙ sym c.is_some.ensures ∙ c.if-is_some.false in
    let claimed = c.contains.ensures ∙ ap (λ (i : ℕ). list_any (eqb i) c.self.inside.claimed_ids.keys) c.get-else-is_some.ensures.value ∙ c.self.invariant.2 c.args.id in
    claimed ∙ sym (fewer_times _ _ _ (uses_keys ps cs c.self.invariant.1 c.args.id) absent) ∙ ap (λ (v : Sending). ltb 0 (times c.args.id (uses v.book))) c.self.view_is
  where
    fewer_times : (a b d : ℕ) → a ≡ b + d → ltb 0 b ≡ false → ltb 0 a ≡ ltb 0 d
    fewer_times a b d e h = let z : b ≡ 0 = grind (arith, nat_tests) in ap (ltb 0) (omega arith)
