-- A file of passwords.
use Rattle.std.specs.Prelude.{◌≡◌, ℕ, ◌+◌, Bool, true, false, ◌&&◌, ◌||◌, not, ◌==◌, nat_le, nat_lt, List, [], ◌∷◌, ◌++◌, length, slice_index, codes, Option, Some, None, Result, Ok, Err, if◌then◌else◌, IsUtf8, ⊤}
use Rattle.std.specs.List.{before_first, after_first, position_or_len, list_all, list_any, flat_map}
use Rattle.std.specs.Result.{result_ok}
use Rattle.std.specs.Str.{bytes_eq}
use Rattle.std.specs.Str.Lines.{lines}
use Rattle.hex.specs.Hex.{decode_sized, encode_lower}
use Rattle.sha2.specs.Sha256.{sha256}
use Rattle.mq_wire.specs.Text.{has_nul}
use Rattle.mq_packet.specs.declared.connack.RefusalCode.{RefusalCode}
use Rattle.mq_packet.specs.declared.connack.RefusalCode.TheVariants.{BadUserNameOrPassword, NotAuthorized}
use Rattle.mq_packet.specs.declared.connect.Login.{Login}
use Rattle.mq_route.specs.declared.config.HashedUser.{HashedUser}
use Rattle.mq_route.specs.declared.config.User.{User}
use Rattle.mq_route.specs.Welcome.{refusal_by_tables}
use Rattle.mq_status.specs.declared.passwords.PasswordEntry.{PasswordEntry}
use Rattle.mq_status.specs.declared.passwords.LineError.{LineError}
use Rattle.mq_status.specs.declared.passwords.LineError.TheVariants as private
use Rattle.mq_status.specs.declared.passwords.PasswordFault.{PasswordFault}
use Rattle.mq_status.specs.declared.passwords.PasswordFault.TheVariants.{NoColon, NoName, NotText, TooLong, NotHash}
use Rattle.mq_status.specs.declared.passwords.PasswordsError.{PasswordsError}
use Rattle.mq_status.specs.declared.passwords.PasswordsError.TheVariants as errors
use Rattle.mq_status.specs.declared.passwords.Stored.{Stored}
use Rattle.mq_status.specs.declared.passwords.Stored.TheVariants.{Plain, Sha256}

-- ---- a stored password

-- whether this is the stored password
abbrev pub accepts : Stored → List ℕ → Bool
accepts (Plain stored) password = bytes_eq stored password
accepts (Sha256 salt digest) password = bytes_eq digest (sha256 (salt ++ password))

-- ---- a line

abbrev pub is_colon : ℕ → Bool
is_colon byte = byte == 58

abbrev pub has_colon : List ℕ → Bool
has_colon text = nat_lt (position_or_len is_colon text) (length text)

-- empty, or a comment
abbrev pub is_skipped : List ℕ → Bool
is_skipped line = length line == 0 || slice_index line 0 == 35

-- at most as long as a field of CONNECT (3.1.3.5)
abbrev pub fits : List ℕ → Bool
fits field = nat_le (length field) 65535

abbrev pub field_in : List ℕ → Result (List ℕ) PasswordFault
field_in text = if fits text then Ok text else Err TooLong

abbrev pub plain_of : Result (List ℕ) PasswordFault → Result Stored PasswordFault
plain_of (Ok password) = Ok (Plain password)
plain_of (Err fault) = Err fault

-- `SALT` and the bytes of `HEX`
abbrev pub hash_of : Result (List ℕ) PasswordFault → Option (List ℕ) → Result Stored PasswordFault
hash_of salt None = Err NotHash
hash_of (Ok salt) (Some digest) = Ok (Sha256 salt digest)
hash_of (Err fault) (Some digest) = Err fault

-- `SALT:HEX`
abbrev pub hash_in : List ℕ → Result Stored PasswordFault
hash_in text =
    if has_colon text then hash_of (field_in (before_first is_colon text)) (result_ok (decode_sized (after_first is_colon text) 32)) else Err NotHash

-- what follows the name and its colon
abbrev pub stored_in : List ℕ → Result Stored PasswordFault
stored_in text =
    if has_colon text && bytes_eq (before_first is_colon text) (codes "sha256")
    then hash_in (after_first is_colon text)
    else plain_of (field_in text)

-- a name is a text of MQTT (1.5.3)
abbrev pub name_in : List ℕ → Result (List ℕ) PasswordFault
name_in text =
    if length text == 0 then Err NoName
    else if fits text && not (has_nul text) then Ok text
    else Err NotText

abbrev pub entry_of : ℕ → Result (List ℕ) PasswordFault → Result Stored PasswordFault → Result PasswordEntry PasswordFault
entry_of number (Err fault) stored = Err fault
entry_of number (Ok name) (Err fault) = Err fault
entry_of number (Ok name) (Ok stored) = Ok (record { line = number; name = name; stored = stored })

-- `NAME:`, and a stored password
abbrev pub entry_in : ℕ → List ℕ → Result PasswordEntry PasswordFault
entry_in number line = entry_of number (name_in (before_first is_colon line)) (stored_in (after_first is_colon line))

abbrev pub some_of : Result PasswordEntry PasswordFault → Result (Option PasswordEntry) PasswordFault
some_of (Ok entry) = Ok (Some entry)
some_of (Err fault) = Err fault

-- the entry of a line, or why it has none
abbrev pub line_gives : ℕ → List ℕ → Result (Option PasswordEntry) PasswordFault
line_gives number line =
    if is_skipped line then Ok None
    else if has_colon line then some_of (entry_in number line)
    else Err NoColon

-- ---- a file

-- the entries of a line come before those of the lines behind it
abbrev pub before : Result (Option PasswordEntry) PasswordFault → ℕ → Result (List PasswordEntry) (ℕ × PasswordFault) → Result (List PasswordEntry) (ℕ × PasswordFault)
before (Err fault) number rest = Err (number, fault)
before (Ok None) number rest = rest
before (Ok (Some entry)) number (Ok entries) = Ok (entry ∷ entries)
before (Ok (Some entry)) number (Err fault) = Err fault

-- the entries of lines that are numbered from `number` on, or the first fault with its line
abbrev pub lines_give : ℕ → List (List ℕ) → Result (List PasswordEntry) (ℕ × PasswordFault)
lines_give number [] = Ok []
lines_give number (line ∷ more) = before (line_gives number line) number (lines_give (number + 1) more)

-- the entries of a file, or its first fault
abbrev pub file_gives : List ℕ → Result (List PasswordEntry) (ℕ × PasswordFault)
file_gives file = lines_give 1 (lines file)

-- The result is the expected one, unless an allocation fails.
abbrev pub Gives : {A : Type 0} → Result A PasswordFault → Result A LineError → Type 0
Gives expected (Ok value) = expected ≡ Ok value
Gives expected (Err (private.Fault fault)) = expected ≡ Err fault
Gives expected (Err private.Memory) = ⊤

-- The entry of a line, if it has one, is added at the end.
abbrev pub Adds : Result (Option PasswordEntry) PasswordFault → List PasswordEntry → List PasswordEntry → Type 0
Adds (Ok None) old new = new ≡ old
Adds (Ok (Some entry)) old new = new ≡ old ++ entry ∷ []
Adds (Err fault) old new = ⊥

-- The error is that of the file, or an allocation fails.
abbrev pub Refuses : List ℕ → PasswordsError → Type 0
Refuses file (errors.Line number fault) = file_gives file ≡ Err (number, fault)
Refuses file errors.NotUtf8 = ¬ (IsUtf8 file)
Refuses file errors.Memory = ⊤

-- ---- logins

-- an entry has this name and accepts this password
abbrev pub accepts_login : List ℕ → List ℕ → PasswordEntry → Bool
accepts_login name password entry = bytes_eq entry.name name && accepts entry.stored password

-- a login without a password is that of no entry
abbrev pub is_accepted : List PasswordEntry → List ℕ → Option (List ℕ) → Bool
is_accepted entries name None = false
is_accepted entries name (Some password) = list_any (accepts_login name password) entries

-- why entries refuse a login: it must be there, and one of them must accept it (3.1.3.4)
abbrev pub refusal_by_entries : List PasswordEntry → Option Login → Option RefusalCode
refusal_by_entries entries None = Some NotAuthorized
refusal_by_entries entries (Some login) =
    if is_accepted entries login.name login.password then None else Some BadUserNameOrPassword

-- ---- the tables of a broker

abbrev pub plain_with : List ℕ → Stored → List User
plain_with name (Plain password) = record { name = name; password = password } ∷ []
plain_with name (Sha256 salt digest) = []

abbrev pub hashed_with : List ℕ → Stored → List HashedUser
hashed_with name (Plain password) = []
hashed_with name (Sha256 salt digest) = record { name = name; salt = salt; digest = digest } ∷ []

-- the users with plain passwords, in order
abbrev pub plain_users : List PasswordEntry → List User
plain_users entries = flat_map (λ entry. plain_with entry.name entry.stored) entries

-- the users with digests, in order
abbrev pub hashed_users : List PasswordEntry → List HashedUser
hashed_users entries = flat_map (λ entry. hashed_with entry.name entry.stored) entries

-- The tables are those of a file: a broker with them refuses the logins that no entry accepts.
pub record ReadsTables (file : List ℕ) (users : List User) (hashed : List HashedUser) : Type 0 where
  pub entries : List PasswordEntry
  pub read : file_gives file ≡ Ok entries
  pub refusal : (login : Option Login) → refusal_by_tables (Some users) (Some hashed) login ≡ refusal_by_entries entries login

-- ---- a line that is written

-- the line of a name, a salt and a password
abbrev pub password_line : List ℕ → List ℕ → List ℕ → List ℕ
password_line name salt password =
    name ++ (codes ":sha256:" ++ (salt ++ (codes ":" ++ encode_lower (sha256 (salt ++ password)))))

-- neither a control character nor a colon
abbrev pub is_field_byte : ℕ → Bool
is_field_byte byte = nat_le 32 byte && not (is_colon byte)

-- a text can be a field of a line
abbrev pub is_field : List ℕ → Bool
is_field text = fits text && list_all is_field_byte text

abbrev pub is_name : List ℕ → Bool
is_name text = not (is_skipped text) && is_field text

-- the stored password of a line that is written
abbrev pub written : List ℕ → List ℕ → Stored
written salt password = Sha256 salt (sha256 (salt ++ password))

pub record PasswordLaws : Type 0 where
  -- A broker with the tables of entries refuses the logins that no entry accepts.
  pub exact : (entries : List PasswordEntry) (login : Option Login)
      → refusal_by_tables (Some (plain_users entries)) (Some (hashed_users entries)) login ≡ refusal_by_entries entries login
  -- A line that is written reads as its name, and the digest of its salt and password.
  pub reads : (number : ℕ) (name salt password : List ℕ) → is_name name ≡ true → is_field salt ≡ true
      → line_gives number (password_line name salt password)
      ≡ Ok (Some (record { line = number; name = name; stored = written salt password }))
