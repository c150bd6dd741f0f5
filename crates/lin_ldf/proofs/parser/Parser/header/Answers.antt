use Rattle.std.proofs.Common.{rules}
use Rattle.lin_ldf.proofs.parser.Parser.header.Goals as goal

pub returns-in_err-version : goal.returns-in_err-version
returns-in_err-version c = rw c.in_ok-title.ensures (search rules)

pub returns-in_err-version-2 : goal.returns-in_err-version-2
returns-in_err-version-2 c = rw (c.in_ok-title.ensures, c.in_ok-version.ensures) (search rules)
