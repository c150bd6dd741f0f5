use Rattle.std.proofs.Common.{rules}
use Rattle.lin_field.proofs.nodes.nodes.Goals as goal

pub returns-in_err-slaves-clause-read : goal.returns-in_err-slaves-clause-read
returns-in_err-slaves-clause-read c =
    rw (c.in_ok-keyword_before.ensures, rw c.requires at c.in_ok-master.ensures.read) (search rules)
