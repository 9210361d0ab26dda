-- Laws of journals that a user may rely on.
use Rattle.std.specs.Prelude.{◌≡◌, ◌≢◌, ℕ, ◌<◌, List, [], ◌∷◌, ◌++◌, slice_index}
use Rattle.mq_log.specs.Blocks.{AreShort, at_rest, blocks, entries, rest}
use Rattle.mq_log.specs.Checksum.{checksum}

-- each is a byte
abbrev pub AreBytes : List ℕ → Type 0
AreBytes bytes = (index : ℕ) → slice_index bytes index < 256

pub record JournalLaws : Type 0 where
  -- the file of these entries holds these entries, and nothing but the closed gate follows them
  pub read_back : (all : List (List ℕ)) → AreShort all → entries (at_rest all) ≡ all
  pub closed : (all : List (List ℕ)) → AreShort all → rest (at_rest all) ≡ 0 ∷ []
  -- a file is the blocks of its entries, and then the rest
  pub parts : (bytes : List ℕ) → AreBytes bytes → bytes ≡ blocks (entries bytes) ++ rest bytes
  -- an entry with one changed byte has another checksum
  pub one_byte : (front back : List ℕ) (byte other : ℕ) → byte < 256 → other < 256 → byte ≢ other
      → checksum (front ++ byte ∷ back) ≢ checksum (front ++ other ∷ back)
