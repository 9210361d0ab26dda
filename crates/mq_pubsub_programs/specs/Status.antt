-- Exit statuses.
use Rattle.std.specs.Prelude.{◌≡◌, ◌⊎◌, ◌≤◌, ⊤, ℕ, Result, Ok, Err}
use Rattle.clap.specs.Words.{kind_of}
use Rattle.clap.specs.declared.error.Error.{Error}
use Rattle.clap.specs.declared.error.kind.ErrorKind.TheVariants.{DisplayHelp, DisplayVersion}
use Rattle.mq_end.specs.declared.reason.CloseReason.{CloseReason}
use Rattle.mq_end.specs.declared.reason.CloseReason.TheVariants as reasons
use Rattle.mq_packet.specs.declared.connack.RefusalCode.{RefusalCode}
use Rattle.mq_packet.specs.declared.connack.RefusalCode.TheVariants as refusals
use Rattle.mq_pubsub.specs.declared.error.RunError.{RunError}
use Rattle.mq_pubsub.specs.declared.error.RunError.TheVariants as errors
use Rattle.mq_pubsub_options.specs.declared.fault.OptionFault.{OptionFault}
use Rattle.mq_pubsub_options.specs.declared.fault.OptionFault.TheVariants as options

-- the return code of a refused CONNECT (3.2.2.3)
abbrev pub refusal_status : RefusalCode → ℕ
refusal_status refusals.UnacceptableProtocolVersion = 1
refusal_status refusals.IdentifierRejected = 2
refusal_status refusals.ServerUnavailable = 3
refusal_status refusals.BadUserNameOrPassword = 4
refusal_status refusals.NotAuthorized = 5

abbrev pub closed_status : CloseReason → ℕ
closed_status (reasons.Refused code) = refusal_status code
closed_status reason = 1

-- the time of `-W` is over: 27; the output fails: 4; an allocation fails: 3
abbrev pub error_status : RunError → ℕ
error_status errors.TimedOut = 27
error_status errors.Output = 4
error_status errors.Memory = 3
error_status (errors.Closed reason) = closed_status reason
error_status error = 1

-- the status of a run: 0 only at its proper end
abbrev pub status_of : Result ⊤ RunError → ℕ
status_of (Ok done) = 0
status_of (Err error) = error_status error

-- the exit statuses of both commands: 0 to 5, or 27
abbrev pub IsStatus : ℕ → Type 0
IsStatus status = (status ≤ 5) ⊎ (status ≡ 27)

-- the arguments ask for the help
abbrev pub IsHelp : Error → Type 0
IsHelp error = (kind_of error ≡ DisplayHelp) ⊎ (kind_of error ≡ DisplayVersion)

-- the status of arguments that are no command: 0 only for the help
abbrev pub IsFaultStatus : OptionFault → ℕ → Type 0
IsFaultStatus (options.Parse error) status = (IsHelp error → status ≡ 0) × (¬ IsHelp error → status ≡ 1)
IsFaultStatus (options.Said sentence) status = status ≡ 1
IsFaultStatus options.Memory status = status ≡ 3
