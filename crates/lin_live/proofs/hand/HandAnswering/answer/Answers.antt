use Rattle.std.proofs.Common.{◌∙◌, Err, Some, ap, sym}
use Rattle.std.proofs.lemmas.Result.{err_from_is_err_and}
use Rattle.lin_live.specs.Heard.{line_heard}
use Rattle.lin_live.specs.Told.{HandData, heard_as}
use Rattle.lin_live.specs.declared.reason.Reason.TheVariants.{TooLong}
use Rattle.lin_live.proofs.LinesTold.{no-memory}
use Rattle.lin_live.proofs.Replying.{replies-so, says-badly}
use Rattle.lin_live.proofs.hand.HandAnswering.answer.Goals as goal
