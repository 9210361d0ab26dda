-- The tables of entries accept the logins that an entry accepts.
use Rattle.std.proofs.Common.{◌≡◌, ℕ, Bool, true, false, ◌||◌, ◌&&◌, List, [], ◌∷◌, ◌++◌, Option, Some, None, Ok, refl, ap, ◌∙◌}
use Rattle.std.specs.Prelude.{if◌then◌else◌}
use Rattle.std.specs.List.{list_any}
use Rattle.std.proofs.lemmas.List.{flat_map_more}
use Rattle.std.specs.Str.{bytes_eq}
use Rattle.mq_packet.specs.declared.connack.RefusalCode.{RefusalCode}
use Rattle.mq_packet.specs.declared.connack.RefusalCode.TheVariants.{BadUserNameOrPassword}
use Rattle.mq_packet.specs.declared.connect.Login.{Login}
use Rattle.mq_route.specs.declared.config.HashedUser.{HashedUser}
use Rattle.mq_route.specs.declared.config.User.{User}
use Rattle.mq_route.specs.Welcome.{has_digest, has_password, is_hashed_one, is_one_of, refusal_by_tables}
use Rattle.mq_status.specs.Passwords.{ReadsTables, accepts, accepts_login, file_gives, hashed_users, hashed_with, is_accepted, plain_users, plain_with, refusal_by_entries}
use Rattle.mq_status.specs.Inside.Passwords.{AreTablesOf}
use Rattle.mq_status.specs.declared.passwords.PasswordEntry.{PasswordEntry}
use Rattle.mq_status.specs.declared.passwords.Stored.{Stored}
use Rattle.mq_status.specs.declared.passwords.Stored.TheVariants.{Plain, Sha256}

in_second : (a b c d : Bool) → (a || c) ≡ d → (a || (b || c)) ≡ (b || d)
in_second true true c d h = refl
in_second true false c d h = h
in_second false b c d h = ap (λ (x : Bool). b || x) h

in_first : (a b c d : Bool) → (b || c) ≡ d → ((a || b) || c) ≡ (a || d)
in_first true b c d h = refl
in_first false b c d h = h

step : (owner name password : List ℕ) (stored : Stored) (plain : List User) (hashed : List HashedUser) (more : Bool)
    → (list_any (has_digest name password) hashed || list_any (has_password name password) plain) ≡ more
    → (list_any (has_digest name password) (hashed_with owner stored ++ hashed) || list_any (has_password name password) (plain_with owner stored ++ plain))
    ≡ ((bytes_eq owner name && accepts stored password) || more)
step owner name password (Plain kept) plain hashed more h =
    in_second (list_any (has_digest name password) hashed) (bytes_eq owner name && bytes_eq kept password) (list_any (has_password name password) plain) more h
step owner name password (Sha256 salt digest) plain hashed more h =
    in_first _ (list_any (has_digest name password) hashed) (list_any (has_password name password) plain) more h

any_accepts : (name password : List ℕ) (entries : List PasswordEntry)
    → (list_any (has_digest name password) (hashed_users entries) || list_any (has_password name password) (plain_users entries))
    ≡ list_any (accepts_login name password) entries
any_accepts name password [] = refl
any_accepts name password (entry ∷ rest) =
    step entry.name name password entry.stored (plain_users rest) (hashed_users rest) (list_any (accepts_login name password) rest) (any_accepts name password rest)

joined : (a b c : Bool) (x y : Option RefusalCode) → (a || b) ≡ c
    → (if a then x else if b then x else y) ≡ (if c then x else y)
joined true b c x y h = ap (λ (t : Bool). if t then x else y) h
joined false b c x y h = ap (λ (t : Bool). if t then x else y) h

with_password : (entries : List PasswordEntry) (name : List ℕ) (password : Option (List ℕ))
    → (if is_hashed_one (hashed_users entries) name password then None
    else if is_one_of (plain_users entries) name password then None else Some BadUserNameOrPassword)
    ≡ (if is_accepted entries name password then None else Some BadUserNameOrPassword)
with_password entries name None = refl
with_password entries name (Some password) =
    joined (list_any (has_digest name password) (hashed_users entries)) (list_any (has_password name password) (plain_users entries))
    (list_any (accepts_login name password) entries) None (Some BadUserNameOrPassword) (any_accepts name password entries)

pub exact : (entries : List PasswordEntry) (login : Option Login)
    → refusal_by_tables (Some (plain_users entries)) (Some (hashed_users entries)) login ≡ refusal_by_entries entries login
exact entries None = refl
exact entries (Some login) = with_password entries login.name login.password

-- the tables after one more entry
pub one_more : (entries : List PasswordEntry) (users : List User) (hashed : List HashedUser) (entry : PasswordEntry)
    → AreTablesOf entries users hashed
    → AreTablesOf (entries ++ entry ∷ []) (users ++ plain_with entry.name entry.stored) (hashed ++ hashed_with entry.name entry.stored)
one_more entries users hashed entry so = record {
  plain = ap (λ (l : List User). l ++ plain_with entry.name entry.stored) so.plain
      ∙ flat_map_more (λ (e : PasswordEntry). plain_with e.name e.stored) [] entries entry;
  digests = ap (λ (l : List HashedUser). l ++ hashed_with entry.name entry.stored) so.digests
      ∙ flat_map_more (λ (e : PasswordEntry). hashed_with e.name e.stored) [] entries entry;
}

-- the tables of the entries of a file
pub read_tables : (file : List ℕ) (entries : List PasswordEntry) (users : List User) (hashed : List HashedUser)
    → file_gives file ≡ Ok entries → AreTablesOf entries users hashed → ReadsTables file users hashed
read_tables file entries users hashed read so = record {
  entries = entries;
  read = read;
  refusal = λ login.
      ap (λ (l : List User). refusal_by_tables (Some l) (Some hashed) login) so.plain
      ∙ ap (λ (l : List HashedUser). refusal_by_tables (Some (plain_users entries)) (Some l) login) so.digests
      ∙ exact entries login;
}
