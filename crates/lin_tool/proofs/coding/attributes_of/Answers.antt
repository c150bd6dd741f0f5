use Rattle.std.proofs.Common.{rules}
use Rattle.lin_tool.proofs.coding.attributes_of.Goals as goal

pub returns-clause-tokens : goal.returns-clause-tokens
returns-clause-tokens c = λ ts are.
    let version = c.in_ok-version.ensures.tokens ts are in
    let blocks = c.in_ok-blocks.ensures.tokens ts are in
    search rules
