-- The optional parts of a CONNECT (3.1.3), from those that a caller gives.
use Rattle.std.specs.Prelude.{◌≡◌, ℕ, ◌<◌, Bool, true, false, List, [], ◌++◌, length, Option, IfSome}
use Rattle.mq_wire.specs.Text.{counted}
use Rattle.mq_packet.specs.declared.connect.Login.{Login}
use Rattle.mq_packet.specs.declared.connect.Will.{Will}
use Rattle.mq_packet.specs.Encoding.{login_fields, login_flags, will_fields, will_flags}
use Rattle.mq_packet.specs.Values.{IsLogin, IsWill}
use Rattle.mq_bytes.specs.Arguments.{IsLoginOf, IsWillOf}

-- Two bytes with the size, and the bytes; or nothing.
abbrev pub counted_if : Bool → List ℕ → List ℕ
counted_if false bytes = []
counted_if true bytes = counted bytes

-- There is a valid will with these parts, or none, and these are its flags.
pub record WillWith (there : Bool) (topic message : List ℕ) (qos : ℕ) (retain : Bool) (flags : ℕ) : Type 0 where
  pub will : Option Will
  pub is : IsWillOf there topic message qos retain will
  pub valid : IfSome will IsWill
  pub number : flags ≡ will_flags will
  pub fields : counted_if there topic ++ counted_if there message ≡ will_fields will

abbrev pub NoWill : Bool → List ℕ → List ℕ → ℕ → Bool → Type 0
NoWill there topic message qos retain =
    (will : Option Will) → IsWillOf there topic message qos retain will → IfSome will IsWill → ⊥

-- There are a valid user name and password, or not, and these are their flags.
pub record LoginWith (there : Bool) (name : List ℕ) (has_password : Bool) (password : List ℕ) (flags : ℕ) : Type 0 where
  pub login : Option Login
  pub is : IsLoginOf there name has_password password login
  pub valid : IfSome login IsLogin
  pub number : flags ≡ login_flags login
  pub fields : counted_if there name ++ counted_if has_password password ≡ login_fields login

abbrev pub NoLogin : Bool → List ℕ → Bool → List ℕ → Type 0
NoLogin there name has_password password =
    (login : Option Login) → IsLoginOf there name has_password password login → IfSome login IsLogin → ⊥
