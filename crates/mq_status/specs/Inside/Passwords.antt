-- A file of passwords. Only proofs cite these definitions.
use Rattle.std.specs.Prelude.{◌≡◌, ℕ, List, Option, Result, Err, ⊤}
use Rattle.mq_route.specs.declared.config.HashedUser.{HashedUser}
use Rattle.mq_route.specs.declared.config.User.{User}
use Rattle.mq_status.specs.declared.passwords.PasswordEntry.{PasswordEntry}
use Rattle.mq_status.specs.declared.passwords.PasswordFault.{PasswordFault}
use Rattle.mq_status.specs.declared.passwords.PasswordsError.{PasswordsError}
use Rattle.mq_status.specs.declared.passwords.PasswordsError.TheVariants as errors
use Rattle.mq_status.specs.Passwords.{plain_users, hashed_users}

-- The error is that of a line, or an allocation fails.
abbrev pub RefusesLine : ℕ → Result (Option PasswordEntry) PasswordFault → PasswordsError → Type 0
RefusesLine number expected (errors.Line line fault) = (expected ≡ Err fault) × (line ≡ number)
RefusesLine number expected errors.NotUtf8 = ⊥
RefusesLine number expected errors.Memory = ⊤

-- The error is that of the lines, or an allocation fails.
abbrev pub RefusesLines : Result (List PasswordEntry) (ℕ × PasswordFault) → PasswordsError → Type 0
RefusesLines expected (errors.Line number fault) = expected ≡ Err (number, fault)
RefusesLines expected errors.NotUtf8 = ⊥
RefusesLines expected errors.Memory = ⊤

-- The two tables have the users of the entries.
pub record AreTablesOf (entries : List PasswordEntry) (users : List User) (hashed : List HashedUser) : Type 0 where
  pub plain : users ≡ plain_users entries
  pub digests : hashed ≡ hashed_users entries
