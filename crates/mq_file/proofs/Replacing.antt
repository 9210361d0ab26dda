-- A file that is replaced by another.
use Rattle.std.proofs.Common.{◌≡◌, inl, ℕ, List, [], ◌∷◌, ◌++◌, Option, Some, None, sym, ap, ap₂, subst, ◌∙◌}
use Rattle.mq_file.specs.Named.{Content, Files, IsOldOrNew, IsReplaced, Leads, MayBe, OthersStay, Outcomes, Related, Removed, Renamed, Synced, Throughout, Unchanged, Wrote, Writes, present}
use Rattle.mq_file.specs.Inside.Named.{OthersAreKept}
use Rattle.mq_file.proofs.Times.{after, by_call, by_write, call_leads, end_of, leads_both, may_be_last, may_be_present, present_last, write_leads}

-- an outcome of equal lists
pub along : (left : Content) (new old : List Content) → new ≡ old → MayBe left new → MayBe left old
along left new old same may = subst (λ (l : List Content). MayBe left l) same may

-- an outcome after a sync is one from before it
pub synced_may : (left : Content) (new old : List Content) → new ≡ present old ∷ [] → MayBe left new → MayBe left old
synced_may left new old synced may =
    subst (λ (c : Content). MayBe c old) (sym (along left new (present old ∷ []) synced may)) (may_be_present old)

module _ (next name bytes : List ℕ) (apart : name ≡ next → ⊥) where
  abbrev Good : Outcomes → Outcomes → Type 0
  Good = IsOldOrNew next name bytes

  same : (o : Outcomes) → Good o o
  same o = record { file = λ left may. inl may; others = λ other a b left may. may }

  stays : (o n : Outcomes) → OthersStay next o n → Good o n
  stays o n still = record {
    file = λ left may. inl (along left (n name) (o name) (still name apart) may);
    others = λ other a b left may. along left (n other) (o other) (still other b) may;
  }

  unchanged : (o m n : Outcomes) → Good o m → Unchanged m n → Good o n
  unchanged o m n good still = record {
    file = λ left may. good.file left (along left (n name) (m name) (still name) may);
    others = λ other a b left may. good.others other a b left (along left (n other) (m other) (still other) may);
  }

  synced : (o m n : Outcomes) → Good o m → Synced m n → Good o n
  synced o m n good sync = record {
    file = λ left may. good.file left (synced_may left (n name) (m name) (sync name) may);
    others = λ other a b left may. good.others other a b left (synced_may left (n other) (m other) (sync other) may);
  }

  -- a rename after a write
  grown : (o m n : Outcomes) → Wrote next bytes o m → Renamed next name m n → n name ≡ o name ++ Some bytes ∷ []
  grown o m n wrote renamed =
      renamed.0 ∙ ap₂ (λ (xs : List Content) (x : Content). xs ++ x ∷ []) (wrote.0 name apart) wrote.1

  renames : (o m n : Outcomes) → Wrote next bytes o m → Renamed next name m n → Good o n
  renames o m n wrote renamed = record {
    file = λ left may. may_be_last left (o name) (Some bytes) (along left (n name) (o name ++ Some bytes ∷ []) (grown o m n wrote renamed) may);
    others = λ other a b left may. along left (n other) (o other) (renamed.1 other b a ∙ wrote.0 other b) may;
  }

  -- one more call
  more : (S So : Outcomes → Outcomes → Type 0) → ((o m n : Outcomes) → S o m → Good o m → So m n → Good o n)
      → (a b c : Option Files) → Throughout Good a b → Leads S a b → Related So b c → Throughout Good a c
  more S So f None None c first led called = called
  more S So f None (Some b) c first led called = absurd cc
  more S So f (Some a) None c first led called = absurd led
  more S So f (Some a) (Some b) None first led called = absurd called
  more S So f (Some a) (Some b) (Some c) first led called =
      (first.0, f a.now b.now c.now led first.1 called.0, (b.now ∷ first.2.0, called.1 ∙ ap (λ (l : List Outcomes). b.now ∷ l) first.2.1, (first.1, first.2.2)))

  abbrev Any : Outcomes → Outcomes → Type 0
  Any o n = Unit {0}

  any : (a b : Option Files) → Throughout Good a b → Leads Any a b
  any None b all = all
  any (Some a) None all = absurd all
  any (Some a) (Some b) all = tt

  -- the write failed
  pub unwritten : (a b : Option Files) → Related (OthersStay next) a b → Throughout (IsOldOrNew next name bytes) a b
  unwritten a b failed = by_call Good same (OthersStay next) stays a b failed

  written : (a b : Option Files) → Writes next bytes a b → Throughout Good a b
  written a b wrote = by_write Good same next bytes stays a b wrote

  -- the rename failed
  pub unnamed : (a b c : Option Files) → Writes next bytes a b → Related Unchanged b c → Throughout (IsOldOrNew next name bytes) a c
  unnamed a b c wrote failed =
      more Any Unchanged (λ o m n any good still. unchanged o m n good still) a b c (written a b wrote) (any a b (written a b wrote)) failed

  renamed_to : (a b c : Option Files) → Writes next bytes a b → Related (Renamed next name) b c → Throughout Good a c
  renamed_to a b c wrote renamed =
      more (Wrote next bytes) (Renamed next name) (λ o m n wrote good renamed. renames o m n wrote renamed) a b c (written a b wrote) (write_leads next bytes a b wrote) renamed

  -- the sync failed
  pub unsynced : (a b c d : Option Files) → Writes next bytes a b → Related (Renamed next name) b c → Related Unchanged c d → Throughout (IsOldOrNew next name bytes) a d
  unsynced a b c d wrote renamed failed =
      more Any Unchanged (λ o m n any good still. unchanged o m n good still) a c d (renamed_to a b c wrote renamed) (any a c (renamed_to a b c wrote renamed)) failed

  -- all three calls succeeded
  pub replaced_always : (a b c d : Option Files) → Writes next bytes a b → Related (Renamed next name) b c → Related Synced c d → Throughout (IsOldOrNew next name bytes) a d
  replaced_always a b c d wrote renamed sync =
      more Any Synced (λ o m n any good sync. synced o m n good sync) a c d (renamed_to a b c wrote renamed) (any a c (renamed_to a b c wrote renamed)) sync

  abbrev Grown : Outcomes → Outcomes → Type 0
  Grown o n = n name ≡ o name ++ Some bytes ∷ []

  pub replaced : (a b c d : Option Files) → Writes next bytes a b → Related (Renamed next name) b c → Related Synced c d → Leads (IsReplaced name bytes) a d
  replaced a b c d wrote renamed sync =
      leads_both Grown Synced (IsReplaced name bytes) (λ o m n grown sync. sync name ∙ ap (λ (x : Content). x ∷ []) (ap present grown ∙ present_last (o name) (Some bytes))) a c d
      (leads_both (Wrote next bytes) (Renamed next name) Grown grown a b c (write_leads next bytes a b wrote) (call_leads (Renamed next name) b c renamed))
      (call_leads Synced c d sync)

-- ---- an empty file

module _ (name : List ℕ) where
  abbrev Kept : Outcomes → Outcomes → Type 0
  Kept = OthersAreKept name

  kept : (o : Outcomes) → Kept o o
  kept o other apart left may = may

  others : (o n : Outcomes) → OthersStay name o n → Kept o n
  others o n still other apart left may = along left (n other) (o other) (still other apart) may

  one_more : (So : Outcomes → Outcomes → Type 0) → ((m n : Outcomes) → So m n → Kept m n) → (a b c : Option Files) → Writes name [] a b → Related So b c → Throughout Kept a c
  one_more So f a b c wrote called =
      after Kept Kept Kept (λ o m n first second other apart left may. first other apart left (second other apart left may)) a b c
      (by_write Kept kept name [] others a b wrote)
      (end_of Kept a b (by_write Kept kept name [] others a b wrote))
      (by_call Kept kept So f b c called)

  pub removed_kept : (a b : Option Files) → Related (Removed name) a b → Throughout (OthersAreKept name) a b
  removed_kept a b removed = by_call Kept kept (Removed name) (λ o n gone. others o n gone.0) a b removed

  pub unchanged_kept : (a b : Option Files) → Related Unchanged a b → Throughout (OthersAreKept name) a b
  unchanged_kept a b failed = by_call Kept kept Unchanged (λ o n still other apart left may. along left (n other) (o other) (still other) may) a b failed

  pub not_made : (a b : Option Files) → Related (OthersStay name) a b → Throughout (OthersAreKept name) a b
  not_made a b failed = by_call Kept kept (OthersStay name) others a b failed

  pub not_synced : (a b c : Option Files) → Writes name [] a b → Related Unchanged b c → Throughout (OthersAreKept name) a c
  not_synced = one_more Unchanged (λ m n still other apart left may. along left (n other) (m other) (still other) may)

  pub made_always : (a b c : Option Files) → Writes name [] a b → Related Synced b c → Throughout (OthersAreKept name) a c
  made_always = one_more Synced (λ m n sync other apart left may. synced_may left (n other) (m other) (sync other) may)

  pub made : (a b c : Option Files) → Writes name [] a b → Related Synced b c → Leads (IsReplaced name []) a c
  made a b c wrote sync =
      leads_both (Wrote name []) Synced (IsReplaced name []) (λ o m n wrote sync. sync name ∙ ap (λ (x : Content). x ∷ []) wrote.1) a b c
      (write_leads name [] a b wrote) (call_leads Synced b c sync)
