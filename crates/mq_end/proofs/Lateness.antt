-- Keep-alive: the test, and when a server closes.
use Rattle.std.proofs.Common.{◌≡◌, ℕ, ◌+◌, ◌*◌, Bool, true, false, cond, ◌&&◌, ltb, Some, refl, sym, ap, subst, ◌∙◌, arith}
use Rattle.std.proofs.lemmas.Bool.{lt-ltb}
use Rattle.std.proofs.lemmas.Bool.Decides.{nat_tests}
use Rattle.mq_end.specs.declared.reason.CloseReason.TheVariants as reasons
use Rattle.mq_end.specs.End.{End, silent, closes, is_up}
use Rattle.mq_end.specs.KeepAlive.{Late, is_late, KeepAliveLaws}

late_is : (last k now : ℕ) → is_late last k now ≡ true → Late last k now
late_is last k now h = grind (arith, nat_tests)

is_late_from : (last k now : ℕ) → Late last k now → is_late last k now ≡ true
is_late_from last k now h =
    let a = lt-ltb 0 k h.0 in
    let b = lt-ltb (last + 1500 * k) now h.1 in
    ap (λ (t : Bool). t && ltb (last + 1500 * k) now) a ∙ b

closed_at : (last now : ℕ) (e : End) (t : Bool) → (cond t (closes reasons.KeepAlive e) (silent e)).close ≡ Some reasons.KeepAlive → t ≡ true
closed_at last now e true h = refl
closed_at last now e false h = cc

both_of : (a b : Bool) → a && b ≡ true → (a ≡ true) × (b ≡ true)
both_of true b h = (refl, h)
both_of false b h = cc

pub laws : KeepAliveLaws
laws = record {
  late = λ last k now. (late_is last k now, is_late_from last k now);
  closes_late = λ last now e. (
    λ h. let t = both_of (is_up e.state) (is_late last e.keep_alive now) (closed_at last now e (is_up e.state && is_late last e.keep_alive now) h) in (t.0, late_is last e.keep_alive now t.1),
    λ h.
        let P : Bool → Type 0 = λ t. (cond t (closes reasons.KeepAlive e) (silent e)).close ≡ Some reasons.KeepAlive in
        let t : is_up e.state && is_late last e.keep_alive now ≡ true = ap (λ (t : Bool). t && is_late last e.keep_alive now) h.0 ∙ is_late_from last e.keep_alive now h.1 in
        subst P (sym t) refl,
  );
}
