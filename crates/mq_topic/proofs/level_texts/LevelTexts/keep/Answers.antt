use Rattle.std.proofs.Common.{◌≡◌, ◌+◌, ◌<◌, ◌≤◌, All, IfOk, OnErr, Bool, Option, Some, None, Result, Ok, Err, cond, is_some, length, nat_eq, arith, ap, sym, subst}
use Rattle.std.specs.Arc.{arc_str_bytes}
use Rattle.std.specs.HashMap.{HashMap, IsUnchanged, PutsEntry, hash_map_len, values}
use Rattle.std.specs.Map.{values_of}
use Rattle.std.proofs.lemmas.Map.Views.{All-values-PutsEntry}
use Rattle.mq_topic.proofs.level_texts.LevelTexts.keep.Goals as goal

module _ {K X S E : Type 0} (eq : K → K → Bool) (old new : HashMap K X S) where
  one_more : (r : Result (Option X) E) → hash_map_len old < 4096
      → IfOk r (λ was. hash_map_len new ≡ hash_map_len old + cond (is_some was) 0 1) → OnErr r (IsUnchanged old new) → hash_map_len new ≤ 4096
  one_more (Ok None) less len err = omega arith
  one_more (Ok (Some was)) less len err = omega arith
  one_more (Err e) less len err = omega (arith, ap length err)

  all_put : (P : X → Type 0) (k : K) (v : X) (r : Result (Option X) E) → All P (values old) → P v
      → IfOk r (λ was. PutsEntry eq old new k v was) → OnErr r (IsUnchanged old new) → All P (values new)
  all_put P k v (Ok was) all here puts err = All-values-PutsEntry eq P old new k v was puts all here
  all_put P k v (Err e) all here puts err = subst (λ es. All P (values_of es)) (sym err) all

pub invariant_of-self : goal.invariant_of-self
invariant_of-self c =
    let old = c.make_room.new.self in
    let h = c.insert.ensures in
    record {
      few = one_more nat_eq old.texts c.insert.new.self c.insert.result c.make_room.ensures h.len h.err;
      short = all_put nat_eq old.texts c.insert.new.self (λ text. length (arc_str_bytes text) ≤ 64) c.args.number c.args.text c.insert.result old.short c.requires h.entries h.err;
    }
