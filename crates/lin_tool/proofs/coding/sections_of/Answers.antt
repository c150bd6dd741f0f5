use Rattle.std.proofs.Common.{refl}
use Rattle.lin_tool.proofs.coding.sections_of.Goals as goal

pub returns-clause-tokens : goal.returns-clause-tokens
returns-clause-tokens c = λ ts are.
    rw (
      c.in_ok-codings.ensures.tokens ts are,
      c.are_read.ensures,
      c.in_ok-configurables.ensures.tokens ts are,
      c.new.ensures,
      c.in_ok-found.ensures.tokens ts are,
      c.reports_unknown-is_reported.ensures,
      c.in_ok-limits.ensures.tokens ts are,
    ) refl
