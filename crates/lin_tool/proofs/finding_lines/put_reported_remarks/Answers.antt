use Rattle.std.proofs.Common.{List, ℕ, [], sym, ap, ◌∙◌, flat_map, arith}
use Rattle.std.proofs.lemmas.List.{take_all}
use Rattle.std.specs.Prelude.{if◌then◌else◌}
use Rattle.lin_text.proofs.Growing.{grows-more, same-growth, texts-next}
use Rattle.lin_tool.specs.Levels.{is_reported}
use Rattle.lin_tool.specs.Telling.{remark_line}
use Rattle.lin_field.specs.declared.field_check.Remark.{Remark}
use Rattle.lin_tool.specs.declared.levels.NumberRange.{NumberRange}
use Rattle.lin_tool.proofs.Leveled.{each_kept}
use Rattle.lin_tool.proofs.finding_lines.put_reported_remarks.Goals as goal

abbrev line_if_reported : List NumberRange → Remark → List ℕ
line_if_reported allowed r = if is_reported allowed r then remark_line r else []

pub loop-remark-preserved : goal.loop-remark-preserved
loop-remark-preserved g c =
    same-growth (sym (texts-next (line_if_reported c.args.levels.now.allowed) c.args.remarks.now c.loop-remark.remark-index _ (omega arith)))
    (grows-more c.loop-remark.invariant c.put_if_reported.ensures)

pub returns : goal.returns
returns g c =
    let line = line_if_reported c.args.levels.now.allowed in
    same-growth (ap (flat_map line) (take_all c.loop-remark.remark-index c.args.remarks.now (omega arith)) ∙ each_kept (is_reported c.args.levels.now.allowed) remark_line c.args.remarks.now)
    c.loop-remark.invariant
