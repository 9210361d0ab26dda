use Rattle.std.proofs.Common.{◌≡◌, true, sym, ◌∙◌, rules, subst, List, ℕ, Vec, Global, map, ◌++◌, arith}
use Rattle.mq_log.specs.Blocks.{is_block, first_entry, behind, entries}
use Rattle.mq_log.proofs.BlockLemmas.{read_step, rest_step, suffix_step}
use Rattle.mq_log.proofs.reader.read_journal.Goals as goal

pub loop-entry-preserved : goal.loop-entry-preserved
loop-entry-preserved c =
    let kept = c.loop-entry.invariant in
    let left = c.loop-entry.left.now in
    let is : is_block left ≡ true = search rules in
    let entry_is : c.in-Some.entry.now ≡ first_entry left = search rules in
    let behind_is : c.in-Some.behind.now ≡ behind left = search rules in
    let copied : c.in_ok-to_vec.field-0.items ≡ c.in-Some.entry.now = search rules in
    let pushed = c.in_ok-push.ensures.items in
    record {
      read = subst (λ (l : List (Vec ℕ Global)). map (λ (v : Vec ℕ Global). v.items) l ++ entries c.in-Some.behind.now ≡ entries c.args.bytes.now) (sym {A = List (Vec ℕ Global)} pushed)
          (read_step _ _ left _ c.args.bytes.now is (copied ∙ entry_is) behind_is kept.read);
      same_rest = rest_step left _ c.args.bytes.now is behind_is kept.same_rest;
      suffix = suffix_step _ left _ is behind_is kept.within kept.suffix;
      within = search (rules, arith);
    }
