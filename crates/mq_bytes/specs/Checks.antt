-- Why tests fail, and saved sessions.
use Rattle.std.specs.Prelude.{◌≡◌, ◌⊎◌, ℕ, List}
use Rattle.mq_flow.specs.Saved.{IsSession}
use Rattle.mq_flow.specs.SavedTwo.{IsSavedAs}
use Rattle.mq_flow.specs.declared.saved.Saved.{Saved}
use Rattle.mq_bytes.specs.declared.fault.CheckFault.{CheckFault}
use Rattle.mq_bytes.specs.declared.fault.CheckFault.TheVariants.{Text}

-- The bytes are not a text, or the text fails this test.
abbrev pub IsRefused : CheckFault → CheckFault → Type 0
IsRefused test why = (why ≡ Text) ⊎ (why ≡ test)

-- The bytes are the saved form of a session (4.1).
abbrev pub IsSavedSession : List ℕ → Type 0
IsSavedSession bytes = (saved : Saved) × IsSession saved.session × IsSavedAs saved bytes
