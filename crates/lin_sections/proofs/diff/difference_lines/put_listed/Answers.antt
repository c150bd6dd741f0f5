use Rattle.std.proofs.Common.{◌<◌, ◌≤◌, length, arith, ap, sym}
use Rattle.std.proofs.lemmas.List.{take_all}
use Rattle.lin_text.proofs.Growing.{grows-more, grows-nothing, same-growth}
use Rattle.lin_sections.specs.Differences.{differences_data}
use Rattle.lin_sections.specs.ListedDifferences.{difference_lines}
use Rattle.lin_sections.proofs.DifferenceLines.{lines-more}
use Rattle.lin_sections.proofs.diff.difference_lines.put_listed.Goals as goal

pub loop-difference-init : goal.loop-difference-init
loop-difference-init g c = grows-nothing c.args.out.now

pub loop-difference-preserved : goal.loop-difference-preserved
loop-difference-preserved g c =
    let lt : c.loop-difference.difference-index < length c.args.differences.now = omega arith in
    same-growth (sym (lines-more c.args.old_file.now c.args.new_file.now c.args.classes c.args.differences.now c.loop-difference.difference-index _ lt))
    (grows-more c.loop-difference.invariant c.put_if_listed.ensures)

pub returns : goal.returns
returns g c =
    let all : length c.args.differences.now ≤ c.loop-difference.difference-index = omega arith in
    same-growth (ap (λ ds. difference_lines c.args.old_file.now c.args.new_file.now c.args.classes (differences_data ds)) (take_all c.loop-difference.difference-index c.args.differences.now all))
    c.loop-difference.invariant
