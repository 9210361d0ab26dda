-- The command `password`.
use Rattle.std.specs.Prelude.{◌≡◌, ◌⊎◌, ℕ, ◌-◌, Bool, false, ◌&&◌, ◌==◌, nat_le, if◌then◌else◌, List, [], ◌++◌, length, take, slice_index, Option, IfSome, codes}
use Rattle.hex.specs.Hex.{encode_lower}
use Rattle.mq_status.specs.Passwords.{fits, is_field, is_name, password_line}

-- the byte at this place, counted from the end from 1, is this one
abbrev pub has_at_end : ℕ → ℕ → List ℕ → Bool
has_at_end place byte bytes =
    nat_le place (length bytes) && (slice_index bytes (length bytes - place) == byte)

-- the bytes without LF or CR LF at their end
abbrev pub without_line_end : List ℕ → List ℕ
without_line_end bytes =
    if has_at_end 1 10 bytes then
    if has_at_end 2 13 bytes then take (length bytes - 2) bytes
    else take (length bytes - 1) bytes
    else bytes

-- a file of passwords can't have this name, salt and password
abbrev pub HasNoLine : List ℕ → List ℕ → List ℕ → Type 0
HasNoLine name salt password =
    (is_name name ≡ false) ⊎ ((is_field salt ≡ false) ⊎ (fits password ≡ false))

-- The line of the password is printed, or there is none.
abbrev pub IsPasswordDone : List ℕ → List ℕ → List ℕ → ℕ → List ℕ → Type 0
IsPasswordDone name salt password status text =
    ((status ≡ 0) × (text ≡ password_line name salt password ++ codes "\n"))
    ⊎ ((status ≡ 2) × (text ≡ []) × HasNoLine name salt password)

-- The same with 16 bytes as the salt, and the password of the input, whose bytes may be known; or
-- status 1 and no line.
abbrev pub IsPasswordRun : List ℕ → Option (List ℕ) → ℕ → List ℕ → Type 0
IsPasswordRun name input status text =
    ((seed : List ℕ) × (length seed ≡ 16) × (bytes : List ℕ) × IfSome input (λ all. bytes ≡ all)
    × IsPasswordDone name (encode_lower seed) (without_line_end bytes) status text)
    ⊎ ((status ≡ 1) × (text ≡ []))
