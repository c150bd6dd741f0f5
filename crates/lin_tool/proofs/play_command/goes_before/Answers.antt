use Rattle.std.proofs.Common.{◌∙◌, ap, inl, inr, sym}
use Rattle.std.specs.Ordering.{is_lt}
use Rattle.lin_tool.proofs.UnusedNames.{is-before}
use Rattle.lin_tool.proofs.play_command.goes_before.Goals as goal

pub returns-in-Less : goal.returns-in-Less
returns-in-Less c = sym (ap is_lt c.in-Less.is) ∙ is-before c.args.one.now c.args.other.now c.cmp.result c.cmp.ensures

pub returns-in-Equal : goal.returns-in-Equal
returns-in-Equal c =
    let same = is-before c.args.one.now c.args.other.now c.cmp.result c.cmp.ensures in
    elim c.in-Equal.is [
      | inl e ↦ sym (ap is_lt e) ∙ same
      | inr e ↦ sym (ap is_lt e) ∙ same
    ]
