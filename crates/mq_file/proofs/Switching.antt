-- A folder that continues in another journal.
use Rattle.std.proofs.Common.{◌≡◌, inl, inr, ℕ, List, [], ◌∷◌, Option, Some, None, sym, ap, ◌∙◌}
use Rattle.mq_file.specs.Named.{AreApart, Content, Files, IsEitherPair, IsOldOrNew, IsReplaced, IsSwitched, Leads, MayBe, Outcomes, Related, Removed, Throughout, present}
use Rattle.mq_file.specs.Inside.Named.{OthersAreKept}
use Rattle.mq_file.proofs.Times.{after, both_lead, call_leads, end_of, leads_both, present_last, weaker}
use Rattle.mq_file.proofs.Replacing.{along}

module _ (next name bytes first second : List ℕ) (apart : AreApart next name first second) where
  abbrev Either : Outcomes → Outcomes → Type 0
  Either = IsEitherPair name bytes first second

  -- the empty journal is made, and all else is as before
  abbrev Ready : Outcomes → Outcomes → Type 0
  Ready o n = IsReplaced second [] o n × OthersAreKept second o n

  -- the file is replaced, and all else is as before
  abbrev Done : Outcomes → Outcomes → Type 0
  Done o n = IsReplaced name bytes o n × IsOldOrNew next name bytes o n

  other_name : name ≡ second → ⊥
  other_name is = apart.name_second (sym is)

  kept : (o n : Outcomes) → OthersAreKept second o n → Either o n
  kept o n still file journal other f j k =
      inl (still name other_name file f, still first apart.first_second journal j)

  begins : (o m n : Outcomes) → Ready o m → IsOldOrNew next name bytes m n → Either o n
  begins o m n ready replaced file journal other f j k =
      elim (replaced.file file f) [
        | inl old ↦
            inl (ready.1 name other_name file old, ready.1 first apart.first_second journal (replaced.others first apart.name_first apart.next_first journal j))
        | inr new ↦
            inr (new, along other (m second) (Some [] ∷ []) ready.0 (replaced.others second apart.name_second apart.next_second other k))
      ]

  -- the journal could not be made
  pub not_begun : (a b : Option Files) → Throughout (OthersAreKept second) a b → Throughout (IsEitherPair name bytes first second) a b
  not_begun a b all = weaker (OthersAreKept second) Either kept a b all

  -- the journal was made
  pub not_replaced : (a b c : Option Files) → Leads (IsReplaced second []) a b → Throughout (OthersAreKept second) a b → Throughout (IsOldOrNew next name bytes) b c
      → Throughout (IsEitherPair name bytes first second) a c
  not_replaced a b c made all more =
      after Either Ready (IsOldOrNew next name bytes) begins a b c (not_begun a b all)
      (both_lead (IsReplaced second []) (OthersAreKept second) a b made (end_of (OthersAreKept second) a b all)) more

  -- the new file and the new journal
  abbrev Have : Outcomes → Outcomes → Type 0
  Have o n = ((left : Content) → MayBe left (n name) → left ≡ Some bytes) × ((left : Content) → MayBe left (n second) → left ≡ Some [])

  have : (o m n : Outcomes) → IsReplaced second [] o m → Done m n → Have o n
  have o m n made done = (
    (λ left may. along left (n name) (Some bytes ∷ []) done.0 may),
    (λ left may. along left (m second) (Some [] ∷ []) made (done.1.others second apart.name_second apart.next_second left may)),
  )

  have_both : (a b c : Option Files) → Leads (IsReplaced second []) a b → Leads (IsReplaced name bytes) b c → Throughout (IsOldOrNew next name bytes) b c → Leads Have a c
  have_both a b c made replaced all =
      leads_both (IsReplaced second []) Done Have have a b c made
      (both_lead (IsReplaced name bytes) (IsOldOrNew next name bytes) b c replaced (end_of (IsOldOrNew next name bytes) b c all))

  keeps : (o m n : Outcomes) → Have o m → OthersAreKept first m n → Have o n
  keeps o m n had still = (
    (λ left may. had.0 left (still name (λ is. apart.name_first (sym is)) left may)),
    (λ left may. had.1 left (still second (λ is. apart.first_second (sym is)) left may)),
  )

  ends : (o m n : Outcomes) → Have o m → OthersAreKept first m n → Either o n
  ends o m n had still file journal other f j k =
      let now = keeps o m n had still in inr (now.0 file f, now.1 other k)

  -- the first journal was removed, or could not be removed
  pub switched_always : (a b c d : Option Files) → Leads (IsReplaced second []) a b → Throughout (OthersAreKept second) a b
      → Leads (IsReplaced name bytes) b c → Throughout (IsOldOrNew next name bytes) b c → Throughout (OthersAreKept first) c d
      → Throughout (IsEitherPair name bytes first second) a d
  switched_always a b c d made others replaced all still =
      after Either Have (OthersAreKept first) ends a c d (not_replaced a b c made others all) (have_both a b c made replaced all) still

  -- the first journal was removed
  pub switched : (a b c d : Option Files) → Leads (IsReplaced second []) a b
      → Leads (IsReplaced name bytes) b c → Throughout (IsOldOrNew next name bytes) b c → Related (Removed first) c d
      → Leads (IsSwitched name bytes first second) a d
  switched a b c d made replaced all removed =
      leads_both Have (Removed first) (IsSwitched name bytes first second)
      (λ o m n had gone. let now = keeps o m n had (λ other apart left may. along left (n other) (m other) (gone.0 other apart) may) in
      record { file = now.0; journal = now.1; removed = ap present gone.1 ∙ present_last (m first) None })
      a c d (have_both a b c made replaced all) (call_leads (Removed first) c d removed)
