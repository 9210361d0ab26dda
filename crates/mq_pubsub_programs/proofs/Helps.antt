-- What the parser of arguments reports.
use Rattle.std.proofs.Common.{◌≡◌, ◌≢◌, ◌∙◌, Bool, true, false, inl, inr, sym}
use Rattle.std.specs.Prelude.{◌↔◌, IsTrue}
use Rattle.std.proofs.lemmas.Bool.{false≢true}
use Rattle.clap.specs.Words.{kind_of}
use Rattle.clap.specs.declared.error.Error.{Error}
use Rattle.clap.specs.declared.error.kind.ErrorKind.TheVariants.{DisplayHelp, DisplayVersion}
use Rattle.mq_pubsub_programs.specs.Status.{IsHelp}

-- not the help
pub no_help : (on : Bool) (error : Error) → IsTrue on ↔ ((kind_of error ≢ DisplayHelp) × (kind_of error ≢ DisplayVersion)) → on ≡ true → ¬ IsHelp error
no_help on error both is (inl help) = (both.0 is).0 help
no_help on error both is (inr version) = (both.0 is).1 version

-- the help
pub help : (on : Bool) (error : Error) → IsTrue on ↔ ((kind_of error ≢ DisplayHelp) × (kind_of error ≢ DisplayVersion)) → on ≡ false → (¬ IsHelp error) → ⊥
help on error both is other = false≢true (sym is ∙ both.1 (λ e. other (inl e), λ e. other (inr e)))
