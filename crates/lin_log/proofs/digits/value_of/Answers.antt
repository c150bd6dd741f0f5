use Rattle.lin_log.proofs.HexPairs.{digit-at}
use Rattle.lin_log.proofs.digits.value_of.Goals as goal

pub returns : goal.returns
returns c = digit-at c.args.digit c.ranges.digit.fits
