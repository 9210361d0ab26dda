-- The laws of the saved form (3.1.2.4, 4.1).
use Rattle.std.specs.Prelude.{◌≡◌, ℕ, Bool, false, List, [], Option, Some, None, Ok}
use Rattle.mq_wire.specs.Text.{IsText}
use Rattle.mq_flow.specs.declared.saved.Saved as value
use Rattle.mq_flow.specs.declared.session.Session.{Session}
use Rattle.mq_flow.specs.SavedTwo.{saved_form_two, IsSavedAs, read_saved}
use Rattle.mq_flow.specs.Saved.{saved_form, Saved, IsSession, IsSessionWithin}
use Rattle.mq_wire.specs.Bytes.{AreBytes}
use Rattle.mq_flow.specs.Loading.{read_session}

-- The laws of version 1.
pub record SavedLaws : Type 0 where
  -- A written form is read back.
  pub again : (session : Session) → IsSession session → session.sender.book.claimed ≡ [] → session.sender.room ≡ 0 → read_session (saved_form session) ≡ Ok session
  -- A form that is read was written so.
  pub found : (bytes : List ℕ) (session : Session) → AreBytes bytes → read_session bytes ≡ Ok session → Saved session bytes × IsSession session
  -- bytes are the saved form of at most one session, whatever the limit
  pub one : (limit : ℕ) (bytes : List ℕ) (session other : Session) → IsSessionWithin limit session → IsSessionWithin limit other → Saved session bytes → Saved other bytes → session ≡ other

-- The laws of version 2.
pub record SavedTwoLaws : Type 0 where
  -- A written form is read back, also one of version 1.
  pub first : (session : Session) → IsSession session → session.sender.book.claimed ≡ [] → session.sender.room ≡ 0
      → read_saved (saved_form session) ≡ Ok (record { client = None; established = false; session = session })
  pub again : (client : List ℕ) (established : Bool) (session : Session) → IsText client → IsSession session → session.sender.book.claimed ≡ [] → session.sender.room ≡ 0
      → read_saved (saved_form_two client established session) ≡ Ok (record { client = Some client; established = established; session = session })
  -- A form that is read was written so.
  pub found : (bytes : List ℕ) (saved : value.Saved) → AreBytes bytes → read_saved bytes ≡ Ok saved → IsSavedAs saved bytes × IsSession saved.session
