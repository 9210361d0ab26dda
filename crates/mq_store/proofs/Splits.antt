-- The parts of the file `snapshot`.
use Rattle.std.proofs.Common.{◌≡◌, ℕ, List, [], ◌++◌, sym, ap, ◌∙◌}
use Rattle.std.proofs.lemmas.List.{append-nil}
use Rattle.sha2.specs.Sha256.{sha256}
use Rattle.mq_route.specs.Snapshot.{eight}
use Rattle.mq_store.specs.Configuration.{text_bytes}
use Rattle.mq_store.specs.SnapshotFile.{file_signature, parts_of, with_digest}

-- a digest behind its bytes
pub in_front : (bytes front digest : List ℕ) → bytes ≡ front ++ digest → sha256 front ≡ digest → bytes ≡ with_digest front
in_front bytes front digest split is = split ∙ ap (λ (l : List ℕ). front ++ l) (sym is)

-- nothing is behind the second text
pub last_text : (bytes behind config hub rest : List ℕ) → bytes ≡ text_bytes config ++ behind → behind ≡ text_bytes hub ++ rest → rest ≡ []
    → bytes ≡ text_bytes config ++ text_bytes hub
last_text bytes behind config hub rest first second none =
    first ∙ ap (λ (l : List ℕ). text_bytes config ++ l) (second ∙ ap (λ (l : List ℕ). text_bytes hub ++ l) none ∙ append-nil (text_bytes hub))

pub whole_file : (bytes front behind rest config hub : List ℕ) (nth : ℕ) → bytes ≡ with_digest front → front ≡ file_signature ++ behind
    → behind ≡ eight nth ++ rest → rest ≡ text_bytes config ++ text_bytes hub → bytes ≡ with_digest (parts_of nth config hub)
whole_file bytes front behind rest config hub nth checked signed numbered texts =
    checked ∙ ap with_digest (signed ∙ ap (λ (l : List ℕ). file_signature ++ l) (numbered ∙ ap (λ (l : List ℕ). eight nth ++ l) texts))
