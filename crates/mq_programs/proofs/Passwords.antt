-- The command `password`.
use Rattle.std.proofs.Common.{◌≡◌, ◌↔◌, ℕ, true, false, List, length, Option, Result, Err, inl, inr, refl}
use Rattle.std.specs.Prelude.{IfSome, IsErrOf}
use Rattle.hex.specs.Hex.{encode_lower}
use Rattle.mq_packet.specs.Lines.{Prints}
use Rattle.mq_status.specs.Passwords.{fits, is_field, is_name}
use Rattle.mq_status.specs.declared.passwords.PasswordLineError.{PasswordLineError}
use Rattle.mq_status.specs.declared.passwords.PasswordLineError.TheVariants.{Name, Salt, Password, Memory}
use Rattle.mq_programs.specs.Password.{HasNoLine, IsPasswordDone, IsPasswordRun, without_line_end}

-- why there is no line
pub no_line : {T : Type 0} (r : Result T PasswordLineError) (error : PasswordLineError) (name salt password : List ℕ) → r ≡ Err error → (error ≡ Memory → ⊥) → IsErrOf r Name ↔ (is_name name ≡ false)
    → IsErrOf r Salt ↔ ((is_name name ≡ true) × (is_field salt ≡ false)) → IsErrOf r Password ↔ ((is_name name ≡ true) × (is_field salt ≡ true) × (fits password ≡ false)) → HasNoLine name salt password
no_line r Name name salt password is other n s p = inl (n.0 is)
no_line r Salt name salt password is other n s p = inr (inl (s.0 is).1)
no_line r Password name salt password is other n s p = inr (inr (p.0 is).2)
no_line r Memory name salt password is other n s p = absurd (other refl)

-- a run that printed the line of its password, or reported that there is none
pub ran : (name seed bytes : List ℕ) (input : Option (List ℕ)) (status : ℕ) (old new : Option (List ℕ)) → length seed ≡ 16 → IfSome input (λ all. bytes ≡ all) → Prints old new (IsPasswordDone name (encode_lower seed) (without_line_end bytes) status)
    → Prints old new (IsPasswordRun name input status)
ran name seed bytes input status old new long own done = (done.0, done.1, inl (seed, long, bytes, own, done.2))
