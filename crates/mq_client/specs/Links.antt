-- Names of files that symbolic links lead to.
use Rattle.std.specs.Prelude.{◌≡◌, ◌≢◌, ◌⊎◌, ℕ, zero, suc, ◌<◌, Bool, true, false, List, [], ◌∷◌, ◌++◌, ◌==◌, codes, length, take, slice_index}

-- the name begins at the root, with `/`
abbrev pub is_absolute : List ℕ → Bool
is_absolute [] = false
is_absolute (byte ∷ bytes) = byte == 47

-- the name has no `/` from this place on
abbrev pub IsWithoutFrom : ℕ → List ℕ → Type 0
IsWithoutFrom place name = (index : ℕ) → place < index → index < length name → slice_index name index ≢ 47

-- the last `/` of the name is at this place
pub record IsLastSlash (place : ℕ) (name : List ℕ) : Type 0 where
  pub within : place < length name
  pub here : slice_index name place ≡ 47
  pub last : IsWithoutFrom place name

-- A link with this target leads to a name: the target in the folder of the link, unless the target
-- begins at the root or the link is in no folder.
pub data IsNamedBy (link target : List ℕ) : List ℕ → Type 0 where
  Absolute : is_absolute target ≡ true → IsNamedBy link target target
  Bare : is_absolute target ≡ false → ((index : ℕ) → index < length link → slice_index link index ≢ 47) → IsNamedBy link target target
  InFolder : (place : ℕ) → is_absolute target ≡ false → IsLastSlash place link
      → IsNamedBy link target (take place link ++ (codes "/" ++ target))

-- this number of links, one after another, lead from a name to another
pub data Reaches : ℕ → List ℕ → List ℕ → Type 0 where
  Here : (name : List ℕ) → Reaches zero name name
  More : (links : ℕ) (name link target found : List ℕ) → Reaches links name link → IsNamedBy link target found
      → Reaches (suc links) name found
