use Rattle.std.proofs.Common.{◌∙◌}
use Rattle.mq_tables.proofs.FittingMessages.{fits_known}
use Rattle.mq_tables.proofs.sessions.session.has_room.Goals as goal

pub returns : goal.returns
returns c = λ all.
    c.fits.ensures
    ∙ fits_known c.args.most_stored c.args.end.now c.args.messages.now c.free_of.result c.stored_left.result all c.free_of.ensures c.stored_left.ensures
