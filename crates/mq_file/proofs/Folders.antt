-- The files of a folder after a call.
use Rattle.std.proofs.Common.{◌≡◌, ℕ, Bool, true, false, List, [], ◌∷◌, ◌++◌, Option, Some, None, refl, sym, ap, subst, ◌∙◌, bytes_eq, if◌then◌else◌}
use Rattle.std.proofs.lemmas.Slice.Eq.{bytes_eq-Decides}
use Rattle.mq_file.specs.Named.{Content, Files, OthersStay, Outcomes, Related, Removed, Renamed, Synced, Unchanged, Writes, present}
use Rattle.mq_file.specs.FolderHistory.{FolderCall, IsNoted, files_after, with_name}
use Rattle.mq_file.proofs.Times.{present_last}

at_name : (name : List ℕ) (contents : List Content) (old : Outcomes) → with_name name contents old name ≡ contents
at_name name contents old =
    ap (λ (b : Bool). if b then contents else old name) ((bytes_eq-Decides name name).1 refl)

elsewhere : (b : Bool) (name other : List ℕ) (contents before : List Content) → (b ≡ true → name ≡ other) → (other ≡ name → ⊥)
    → (if b then contents else before) ≡ before
elsewhere true name other contents before same apart = absurd (apart (sym (same refl)))
elsewhere false name other contents before same apart = refl

at_other : (name : List ℕ) (contents : List Content) (old : Outcomes) → OthersStay name old (with_name name contents old)
at_other name contents old other apart =
    elsewhere (bytes_eq name other) name other contents (old other) (bytes_eq-Decides name other).0 apart

-- the files, if they are known
abbrev pub known_after : List FolderCall → Option Files
known_after calls = Some (files_after calls)

abbrev now_after : List FolderCall → Outcomes
now_after calls = (files_after calls).now

pub file_written : (name bytes : List ℕ) (calls new : List FolderCall) → IsNoted (0 ∷ []) name bytes calls new → Writes name bytes (known_after calls) (known_after new)
file_written name bytes calls new (left, is) =
    let old : Outcomes = now_after calls in
    subst (λ (n : List FolderCall). Writes name bytes (known_after calls) (known_after n)) (sym is) (
      (at_other name (old name ++ Some bytes ∷ []) old, ap present (at_name name (old name ++ Some bytes ∷ []) old) ∙ present_last (old name) (Some bytes)),
      (with_name name left old, at_other name left old, refl),
    )

pub file_not_written : (name bytes : List ℕ) (calls new : List FolderCall) → IsNoted (1 ∷ []) name bytes calls new
    → Related (OthersStay name) (known_after calls) (known_after new)
file_not_written name bytes calls new (left, is) =
    subst (λ (n : List FolderCall). Related (OthersStay name) (known_after calls) (known_after n)) (sym is) (at_other name left (now_after calls), refl)

pub file_moved : (from to : List ℕ) (calls new : List FolderCall) → IsNoted (2 ∷ []) from to calls new
    → Related (Renamed from to) (known_after calls) (known_after new)
file_moved from to calls new (left, is) =
    let old : Outcomes = now_after calls in
    let gone : Outcomes = with_name from (old from ++ None ∷ []) old in
    subst (λ (n : List FolderCall). Related (Renamed from to) (known_after calls) (known_after n)) (sym is) (
      (
        at_name to (old to ++ present (old from) ∷ []) gone,
        λ other a b. at_other to (old to ++ present (old from) ∷ []) gone other b ∙ at_other from (old from ++ None ∷ []) old other a,
      ),
      refl,
    )

pub file_gone : (name bytes : List ℕ) (calls new : List FolderCall) → IsNoted (3 ∷ []) name bytes calls new
    → Related (Removed name) (known_after calls) (known_after new)
file_gone name bytes calls new (left, is) =
    let old : Outcomes = now_after calls in
    subst (λ (n : List FolderCall). Related (Removed name) (known_after calls) (known_after n)) (sym is)
    ((at_other name (old name ++ None ∷ []) old, at_name name (old name ++ None ∷ []) old), refl)

pub names_synced : (name bytes : List ℕ) (calls new : List FolderCall) → IsNoted (4 ∷ []) name bytes calls new
    → Related Synced (known_after calls) (known_after new)
names_synced name bytes calls new (left, is) =
    subst (λ (n : List FolderCall). Related Synced (known_after calls) (known_after n)) (sym is) ((λ other. refl), refl)

pub nothing_done : (name bytes : List ℕ) (calls new : List FolderCall) → IsNoted (5 ∷ []) name bytes calls new
    → Related Unchanged (known_after calls) (known_after new)
nothing_done name bytes calls new (left, is) =
    subst (λ (n : List FolderCall). Related Unchanged (known_after calls) (known_after n)) (sym is) ((λ other. refl), refl)
