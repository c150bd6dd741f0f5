use Rattle.std.proofs.Common.{rules}
use Rattle.lin_tool.proofs.coding.found_of.Goals as goal

pub returns-clause-tokens : goal.returns-clause-tokens
returns-clause-tokens c = λ ts are.
    let found = c.in_ok-found.ensures.tokens ts are in
    let odd = c.in_ok-odd.ensures.tokens ts are in
    search rules
