use Rattle.std.proofs.Common.{◌≡◌, ℕ, ◌∙◌, true, eqb, List, [], ◌∷◌, length, refl, sym, ap, arith}
use Rattle.std.proofs.lemmas.Bool.Decides.{nat_tests}
use Rattle.std.proofs.lemmas.Bool.{eq-eqb}
use Rattle.mq_flow.specs.Held.{messages, releases}
use Rattle.mq_flow.specs.Sending.{Sending}
use Rattle.mq_flow.proofs.Tables.{both_kinds}
use Rattle.mq_flow.proofs.sender.Sender.is_idle.Goals as goal

pub returns : goal.returns
returns c =
    let ps = c.self.inside.table.pairs in
    let parts = both_kinds ps in
    let view = c.self.view_is in (
      λ t. let z : length ps ≡ 0 = sym c.len.ensures ∙ zero_is c.len.result t in
          (sym (ap (λ (v : Sending). v.book.entries) view) ∙ empty_is (messages ps) (omega arith), sym (ap (λ (v : Sending). v.book.released) view) ∙ empty_is (releases ps) (omega arith)),
      λ e. let m = ap length (ap (λ (v : Sending). v.book.entries) view ∙ e.0) in
          let r = ap length (ap (λ (v : Sending). v.book.released) view ∙ e.1) in
          let z : c.len.result ≡ 0 = omega (arith, c.len.ensures) in
          eq-eqb c.len.result 0 z,
    )
  where
    zero_is : (n : ℕ) → eqb n 0 ≡ true → n ≡ 0
    zero_is n h = grind (arith, nat_tests)

    empty_is : {A : Type 0} (xs : List A) → length xs ≡ 0 → xs ≡ []
    empty_is [] z = refl
    empty_is (x ∷ xs) z = absurd (omega arith)
