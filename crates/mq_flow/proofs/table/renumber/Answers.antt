use Rattle.std.proofs.Common.{◌≡◌, ℕ, ◌+◌, ◌≤◌, ◌<◌, ◌∙◌, Option, Some, None, cond, length, take, nat_eq, sym, ap, arith}
use Rattle.std.specs.HashMap.{get, hash_map_len}
use Rattle.mq_flow.specs.Held.{id_in, pairs_in}
use Rattle.mq_flow.proofs.Slots.{no_place, fresh, fewer, numbered, passed_by}
use Rattle.mq_flow.proofs.table.renumber.Goals as goal
use Rattle.mq_flow.proofs.table.renumber.Goals.{in-Some, in_default}

pub write_place-requires-clause-other : goal.write_place-requires-clause-other
write_place-requires-clause-other c =
    let xs = c.args.slots.now in
    let n = c.loop-at.at in
    let h = c.in-Some.held in
    let place : ℕ → Option ℕ = get nat_eq c.loop-at.places in
    ap place c.id.ensures ∙ no_place (take n xs) place (hash_map_len c.loop-at.places) (id_in h) c.loop-at.invariant.placed (fresh xs n c.index-slots-at.result c.loop-at-test.true c.index-slots-at.is h c.in-Some.is c.requires.once)

pub write_place-requires-clause-spare : goal.write_place-requires-clause-spare
write_place-requires-clause-spare c =
    let xs = c.args.slots.now in
    let n = c.loop-at.at in
    let less = fewer xs n c.index-slots-at.result c.loop-at-test.true c.index-slots-at.is c.in-Some.held c.in-Some.is in
    let many = c.loop-at.invariant.placed.many in
    let room = c.loop-at.invariant.room in
    omega arith

pub loop-at-preserved : goal.loop-at-preserved
loop-at-preserved c =
    let xs = c.args.slots.now in
    let n = c.loop-at.at in
    let place : ℕ → Option ℕ = get nat_eq c.loop-at.places in
    let count = hash_map_len c.loop-at.places in
    let room = c.loop-at.invariant.room in
    elim c.match-slot.branch [
      | in-Some w ↦
          let less = w.write_place.ensures.spare in
          let more = w.write_place.ensures.len in
          rw w.places-is (record {
            placed = numbered xs n c.index-slots-at.result c.loop-at-test.true c.index-slots-at.is w.in-Some.held place (get nat_eq w.write_place.new.places) count (hash_map_len w.write_place.new.places) w.in-Some.is c.requires.once c.loop-at.invariant.placed
                (λ i. w.write_place.ensures.placed i ∙ ap (λ (j : ℕ). cond (nat_eq j i) (Some n) (place i)) w.id.ensures) w.write_place.ensures.len;
            room = omega arith;
          })
      | in_default w ↦
          rw w.places-is (record {
            placed = passed_by xs n c.index-slots-at.result c.loop-at-test.true c.index-slots-at.is place count w.in_default.is c.loop-at.invariant.placed;
            room = room;
          })
    ]
