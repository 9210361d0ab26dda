use Rattle.std.proofs.Common.{◌≡◌, ◌++◌, ◌∙◌, [], ℕ, List, ap, refl, string_bytes, subst, sym, arith, append-nil}
use Rattle.std.specs.Prelude.{filter}
use Rattle.std.proofs.lemmas.List.{take_all}
use Rattle.clap.specs.declared.builder.arg.Arg.{Arg}
use Rattle.mq_manual.specs.Manual.{AreEntries, IsEntry, is_listed}
use Rattle.mq_manual.proofs.Pages.{next_entry, next_other}
use Rattle.mq_manual.proofs.manual.push_args.Goals as goal
use Rattle.mq_manual.proofs.manual.push_args.Goals.{then-is_listed+in_ok-push_entry, else-is_listed}

pub loop-arg-init : goal.loop-arg-init
loop-arg-init c = ([], refl, sym (append-nil (string_bytes c.args.page.now)))

pub loop-arg-preserved : goal.loop-arg-preserved
loop-arg-preserved c =
    let args = c.get_arguments-arg-items.result.now in
    let p = is_listed c.args.without_names in
    let k = c.loop-arg.arg-index in
    let x = c.arg-item.result in
    let start = string_bytes c.args.page.now in
    let old = string_bytes c.loop-arg.page in
    let new = string_bytes c.if-is_listed.page in
    elim c.if-is_listed.branch [
      | then-is_listed+in_ok-push_entry w ↦ let entry : (entry : List ℕ) × IsEntry x entry × (new ≡ old ++ entry) = (w.in_ok-push_entry.ensures.0, w.in_ok-push_entry.ensures.1, ap string_bytes w.page-is ∙ w.in_ok-push_entry.ensures.2) in
          next_entry p args k x start old new (omega arith) c.arg-item.is (sym c.is_listed.ensures ∙ w.if-is_listed.true) c.loop-arg.invariant entry
      | else-is_listed w ↦ let h = next_other p args k x start old (omega arith) c.arg-item.is (sym c.is_listed.ensures ∙ w.if-is_listed.false) c.loop-arg.invariant in (h.0, h.1, ap string_bytes w.page-is ∙ h.2)
    ]

pub returns : goal.returns
returns c =
    let args = c.get_arguments-arg-items.result.now in
    let p = is_listed c.args.without_names in
    subst (λ (listed : List Arg). (text : List ℕ) × AreEntries (filter p listed) text × (string_bytes c.loop-arg.page ≡ string_bytes c.args.page.now ++ text)) (take_all c.loop-arg.arg-index args (omega arith) ∙ c.get_arguments-arg-items.ensures)
    c.loop-arg.invariant
