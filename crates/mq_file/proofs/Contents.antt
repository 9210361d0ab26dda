-- The contents that a crash may leave after calls.
use Rattle.std.proofs.Common.{◌≡◌, inl, inr, ℕ, ◌+◌, ◌-◌, ◌≤◌, List, [], ◌∷◌, ◌++◌, length, take, drop, min, max, refl, sym, ap, ◌∙◌, subst, append_assoc, length-take, length-append, arith}
use Rattle.std.proofs.lemmas.List.{length-drop, take_all, take-append-le}
use Rattle.std.proofs.lemmas.Slice.{drop-append-drop}
use Rattle.mq_log.specs.Disk.{Follows, Torn}
use Rattle.mq_file.specs.History.{FileCall, Wrote, Stumbled, Synced, Failed, MayLeave, file_size, seen_after}

as_before : (at n : ℕ) (d : List ℕ) → Torn at n d d
as_before at n d = record { before = refl; after = refl; no_shorter = omega arith; no_longer = grind arith }

-- the content after calls is one that a crash may leave
pub seen_may_stay : (calls : List FileCall) → MayLeave calls (seen_after calls)
seen_may_stay [] = refl
seen_may_stay (Wrote at bytes ∷ before) = inl refl
seen_may_stay (Stumbled at bytes ∷ before) =
    (seen_after before, seen_may_stay before, as_before at (length bytes) (seen_after before))
seen_may_stay (Synced ∷ before) = refl
seen_may_stay (Failed ∷ before) = seen_may_stay before

pub sync_leaves : (calls : List FileCall) (c : List ℕ) → c ≡ seen_after calls → MayLeave calls c
sync_leaves calls c same = subst (λ (x : List ℕ). MayLeave calls x) (sym same) (seen_may_stay calls)

module _ (at : ℕ) (bytes d : List ℕ) (within : at ≤ length d) where
  abbrev pub front : List ℕ
  front = take at d

  abbrev pub behind : List ℕ
  behind = drop (at + length bytes) d

  front_len : length front ≡ at
  front_len = let e : length (take at d) ≡ min at (length d) = length-take at d in omega (arith, e)

  keeps_front : take at ((front ++ bytes) ++ behind) ≡ take at d
  keeps_front =
      ap (λ (x : List ℕ). take at x) (append_assoc front bytes behind)
      ∙ (take-append-le at front (bytes ++ behind) (omega (arith, front_len)) ∙ take_all at front (omega (arith, front_len)))

  keeps_behind : drop (at + length bytes) ((front ++ bytes) ++ behind) ≡ drop (at + length bytes) d
  keeps_behind =
      drop-append-drop (at + length bytes) d (front ++ bytes) (at + length bytes) (omega arith) (length-append front bytes ∙ ap (λ (n : ℕ). n + length bytes) front_len)

  new_len : length ((front ++ bytes) ++ behind) ≡ (at + length bytes) + length behind
  new_len =
      length-append (front ++ bytes) behind ∙ ap (λ (n : ℕ). n + length behind) (length-append front bytes ∙ ap (λ (n : ℕ). n + length bytes) front_len)

  behind_len : length behind ≡ length d - (at + length bytes)
  behind_len = length-drop (at + length bytes) d

  -- a write tears nothing outside its range
  pub torn_write : Torn at (length bytes) d ((front ++ bytes) ++ behind)
  torn_write = record {
    before = keeps_front;
    after = keeps_behind;
    no_shorter = omega (arith, new_len, behind_len);
    no_longer = grind (arith, new_len, behind_len);
  }

-- a write extends the file if it ends behind the old end
size_after_write : (at : ℕ) (bytes : List ℕ) (calls : List FileCall) → at ≤ file_size calls
    → file_size (Wrote at bytes ∷ calls) ≡ max (file_size calls) (at + length bytes)
size_after_write at bytes calls within =
    let content : List ℕ = seen_after calls in
    grind (arith, new_len at bytes content within, behind_len at bytes content within)

write_leaves : (at : ℕ) (bytes : List ℕ) (calls : List FileCall) → at ≤ length (seen_after calls)
    → Follows (Torn at (length bytes)) (MayLeave calls) (MayLeave (Wrote at bytes ∷ calls))
write_leaves at bytes calls within c (inl same) =
    (seen_after calls, seen_may_stay calls, subst (λ (x : List ℕ). Torn at (length bytes) (seen_after calls) x) (sym same) (torn_write at bytes (seen_after calls) within))
write_leaves at bytes calls within c (inr torn) = torn

-- The same of the record from after the write.
pub wrote_size : (at : ℕ) (bytes : List ℕ) (calls new : List FileCall) → at ≤ file_size calls → new ≡ Wrote at bytes ∷ calls
    → file_size new ≡ max (file_size calls) (at + length bytes)
wrote_size at bytes calls new within is = ap file_size is ∙ size_after_write at bytes calls within

pub wrote_leaves : (at : ℕ) (bytes : List ℕ) (calls new : List FileCall) → at ≤ file_size calls → new ≡ Wrote at bytes ∷ calls
    → Follows (Torn at (length bytes)) (MayLeave calls) (MayLeave new)
wrote_leaves at bytes calls new within is =
    subst (λ (after : List FileCall). Follows (Torn at (length bytes)) (MayLeave calls) (MayLeave after)) (sym is) (write_leaves at bytes calls within)
