use Rattle.std.proofs.Common.{◌≡◌, drop}
use Rattle.mq_tables.proofs.FittingMessages.{fits_in}
use Rattle.mq_tables.proofs.sessions.session.fits.Given as goal

abbrev pub invariant-loop-message : goal.invariant-loop-message
invariant-loop-message l = fits_in l.free l.fn.stored l.messages ≡ fits_in l.unused l.left (drop l.message-index l.messages)
