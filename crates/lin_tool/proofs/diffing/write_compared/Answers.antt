use Rattle.std.proofs.Common.{ap, ◌∙◌}
use Rattle.lin_sections.specs.Differences.{differences_data}
use Rattle.lin_tool.specs.Diffing.{read_data}
use Rattle.lin_tool.proofs.Differing.{compared-of, written-of}
use Rattle.lin_tool.proofs.diffing.write_compared.Goals as goal

pub returns : goal.returns
returns g c =
    let same = compared-of (read_data c.args.old.now) (read_data c.args.new.now) _ _ _ _ _ c.compared.ensures c.compared-2.ensures
    (c.as_slice.ensures.value ∙ c.in_ok-olds.ensures.olds) (c.as_slice-2.ensures.value ∙ c.in_ok-olds.ensures.news)
    (ap differences_data c.as_slice-3.ensures.value ∙ c.in_ok-found.ensures) in
    written-of _ _ _ _ _ c.write_found.result _ _ same c.write_found.ensures
