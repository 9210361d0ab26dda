use Rattle.std.proofs.Common.{rules, ◌≡◌, w32, to_z, of_z}
use Rattle.mq_bytes.specs.Checks.{IsSavedSession}
use Rattle.mq_ffi.specs.Inside.Codes.{check_code}
use Rattle.mq_ffi.proofs.Reports.{saved_checked}
use Rattle.mq_ffi.proofs.exports.poskvari_session_check.Goals as goal

pub returns-clause-saved : goal.returns-clause-saved
returns-clause-saved c =
    let code : to_z w32 (of_z w32 c.check_code.result) ≡ check_code c.check_session.result = search rules in
    saved_checked (IsSavedSession c.args.saved.now) c.check_session.result _ code c.check_session.ensures.saved
