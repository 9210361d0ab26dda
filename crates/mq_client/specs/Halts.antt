-- How the client programs end before they are done.
use Rattle.std.specs.Prelude.{◌≡◌, ⊤, ℕ, List, [], ◌∷◌, Result, Ok, Err}
use Rattle.mq_end.specs.declared.reason.CloseReason.{CloseReason}
use Rattle.mq_client.specs.declared.client.LoadFailure.{LoadFailure}
use Rattle.mq_client.specs.declared.client.LoadFailure.TheVariants as unloaded
use Rattle.mq_client.specs.declared.error.ClientError.{ClientError}
use Rattle.mq_client.specs.declared.error.ClientError.TheVariants.{Closed, Lost, Refused, NotSubscribed, SaveError, Memory}

-- 3 if memory ran out
abbrev pub halt_status : ClientError → ℕ
halt_status (Closed reason) = 1
halt_status Lost = 1
halt_status (Refused why) = 1
halt_status NotSubscribed = 1
halt_status (SaveError kind) = 1
halt_status Memory = 3

-- the reason for which the end closed, if the error reports one
abbrev pub halt_closes : ClientError → List CloseReason
halt_closes (Closed reason) = reason ∷ []
halt_closes Lost = []
halt_closes (Refused why) = []
halt_closes NotSubscribed = []
halt_closes (SaveError kind) = []
halt_closes Memory = []

-- the same for a result
abbrev pub closes_of : {T : Type 0} → Result T ClientError → List CloseReason
closes_of (Ok done) = []
closes_of (Err error) = halt_closes error

-- The end closed for these reasons, and the error says so. Only a session that could not be saved,
-- or for which memory ran out, is reported in place of a reason.
abbrev pub Reports : ClientError → List CloseReason → Type 0
Reports (SaveError kind) reasons = ⊤
Reports Memory reasons = ⊤
Reports error reasons = reasons ≡ halt_closes error

-- the same for a result: `Ok` means that the end did not close
abbrev pub Closes : {T : Type 0} → Result T ClientError → List CloseReason → Type 0
Closes (Ok done) reasons = reasons ≡ []
Closes (Err error) reasons = Reports error reasons

-- 3 if memory ran out, else 2: the file, or its bytes, can't be read
abbrev pub unloaded_status : LoadFailure → ℕ
unloaded_status (unloaded.Unread kind) = 2
unloaded_status (unloaded.Session why) = 2
unloaded_status unloaded.Memory = 3
