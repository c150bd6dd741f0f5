use Rattle.std.proofs.Common.{◌∙◌, sym}
use Rattle.lin_tool.proofs.Differing.{any-listed}
use Rattle.lin_tool.proofs.Shows.{shows}
use Rattle.lin_tool.proofs.diffing.write_found.Goals as goal

pub returns-then-is_any_listed : goal.returns-then-is_any_listed
returns-then-is_any_listed g c = (
  shows _ _ _ _ (rw c.in_ok-write_differences.was at c.write_differences.ensures),
  sym (any-listed c.args.classes c.args.found.now) ∙ sym c.is_any_listed.ensures ∙ c.if-is_any_listed.true,
)

pub returns-else-is_any_listed : goal.returns-else-is_any_listed
returns-else-is_any_listed g c = (
  shows _ _ _ _ (rw c.in_ok-write_differences.was at c.write_differences.ensures),
  sym (any-listed c.args.classes c.args.found.now) ∙ sym c.is_any_listed.ensures ∙ c.if-is_any_listed.false,
)
