-- A folder that continues in another journal.
use Rattle.std.proofs.Common.{◌≡◌, ◌<◌, ◌^◌, inl, ℕ, List, [], ◌++◌, refl, ap, codes, decimal, slice_index, subst, ◌+◌, ◌∙◌, arith}
use Rattle.std.proofs.lemmas.Fmt.{decimal_injective}
use Rattle.std.proofs.lemmas.List.{append_cancel_left}
use Rattle.mq_file.specs.FolderHistory.{FolderCall, files_after}
use Rattle.mq_file.specs.Named.{AreApart, IsEitherPair}
use Rattle.mq_store.specs.Continued.{IsContinued, MayContinue, journal_path, snapshot_path}
use Rattle.mq_store.specs.Inside.Continued.{next_path}

-- names that differ in a byte behind the folder's name
differ : (path first second : List ℕ) (at : ℕ) → (slice_index first at ≡ slice_index second at → ⊥) → path ++ first ≡ path ++ second → ⊥
differ path first second at apart same = apart (ap (λ (l : List ℕ). slice_index l at) (append_cancel_left path first second same))

journals_differ : (path : List ℕ) (first second : ℕ) → first < second → second < 2 ^ 64 → journal_path path first ≡ journal_path path second → ⊥
journals_differ path first second less fits same =
    let equal : first ≡ second = decimal_injective first second (omega (arith, less, fits)) fits (append_cancel_left (codes "/journal.") (decimal first) (decimal second) (append_cancel_left path (codes "/journal." ++ decimal first) (codes "/journal." ++ decimal second) same)) in
    omega (arith, less, equal)

-- the four names of a switch
pub names_apart : (path : List ℕ) (first second : ℕ) → first < second → second < 2 ^ 64
    → AreApart (next_path path) (snapshot_path path) (journal_path path first) (journal_path path second)
names_apart path first second less fits = record {
  next_name = differ path (codes "/snapshot") (codes "/snapshot.next") 9 (λ same. grind (arith, same));
  next_first = differ path (codes "/journal." ++ decimal first) (codes "/snapshot.next") 1 (λ same. grind (arith, same));
  next_second = differ path (codes "/journal." ++ decimal second) (codes "/snapshot.next") 1 (λ same. grind (arith, same));
  name_first = differ path (codes "/journal." ++ decimal first) (codes "/snapshot") 1 (λ same. grind (arith, same));
  name_second = differ path (codes "/journal." ++ decimal second) (codes "/snapshot") 1 (λ same. grind (arith, same));
  first_second = λ same. journals_differ path first second less fits same;
}

-- nothing happened in the folder
pub not_continued : (path bytes : List ℕ) (first second : ℕ) (calls : List FolderCall) → MayContinue path bytes first second calls calls
not_continued path bytes first second calls =
    let same : IsEitherPair (snapshot_path path) bytes (journal_path path first) (journal_path path second) (files_after calls).now (files_after calls).now
    = λ file journal other f j k. inl (f, j) in
    (same, same, ([], refl, tt))

-- a fact of the names of a switch
module _ (path : List ℕ) (first second : ℕ) (next name from to : List ℕ) (P : List ℕ → List ℕ → List ℕ → Type 0) where
  abbrev Apart : List ℕ → List ℕ → List ℕ → List ℕ → Type 0
  Apart n s f t = AreApart n s f t → P s f t

  pub at_names : next ≡ next_path path → name ≡ snapshot_path path → from ≡ journal_path path first → to ≡ journal_path path second
      → second < 2 ^ 64 → (AreApart next name from to → P name from to) → first < second
      → P (snapshot_path path) (journal_path path first) (journal_path path second)
  at_names next_is name_is from_is to_is fits fact less =
      let a : List ℕ = next_path path in
      let b : List ℕ = snapshot_path path in
      let c : List ℕ = journal_path path first in
      subst (λ (t : List ℕ). Apart a b c t) to_is (subst (λ (f : List ℕ). Apart a b f to) from_is (subst (λ (s : List ℕ). Apart a s from to) name_is (subst (λ (n : List ℕ). Apart n name from to) next_is fact)))
      (names_apart path first second less fits)

-- what a switch leaves depends on the new folder alone
pub continued_from : (path bytes : List ℕ) (first second : ℕ) (old between new : List FolderCall)
    → IsContinued path bytes first second between new → IsContinued path bytes first second old new
continued_from path bytes first second old between new is = record { file = is.file; journal = is.journal; removed = is.removed }

-- the next journal of a folder, from the names and the bytes that the code has
pub next_may : (path : List ℕ) (saved : ℕ → List ℕ → List ℕ) (first second : ℕ) (config given bytes shown : List ℕ) (old new : List FolderCall)
    → second ≡ first + 1 → given ≡ config → bytes ≡ saved second given → shown ≡ bytes
    → (first < second → MayContinue path shown first second old new)
    → MayContinue path (saved (first + 1) config) first (first + 1) old new
next_may path saved first second config given bytes shown old new second_is given_is bytes_is shown_is fact =
    subst (λ (n : ℕ). MayContinue path (saved n config) first n old new) second_is
    (subst (λ (b : List ℕ). MayContinue path b first second old new) (shown_is ∙ bytes_is ∙ ap (saved second) given_is) (fact (omega (arith, second_is))))
