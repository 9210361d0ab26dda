use Rattle.std.proofs.Common.{◌≡◌, ◌+◌, ◌≤◌, length, take, nat_eq}
use Rattle.std.specs.HashMap.{get, hash_map_len, spare}
use Rattle.mq_flow.specs.Held.{IsPlaced, pairs_in}
use Rattle.mq_flow.proofs.table.renumber.Given as goal

abbrev pub invariant-loop-at : goal.invariant-loop-at
invariant-loop-at l = record {
  placed : IsPlaced (take l.at l.slots) (get nat_eq l.places) (hash_map_len l.places);
  room : length (pairs_in l.slots) + spare l.fn.places ≤ hash_map_len l.places + spare l.places;
}
