use Rattle.std.proofs.Common.{ap, ◌∙◌, flat_map}
use Rattle.lin_frame.specs.declared.value.Value.{Value}
use Rattle.lin_text.proofs.Growing.{same-growth}
use Rattle.lin_export.specs.Csv.{after_comma, meaning_cells}
use Rattle.lin_export.proofs.kept_cells.KeptCells.put.Goals as goal

pub returns-in-Some-clause-text : goal.returns-in-Some-clause-text
returns-in-Some-clause-text g c =
    let k = c.args.coded.now in
    let kept = c.keep.new.self in
    same-growth
    (c.in-Some.ensures (flat_map after_comma (meaning_cells k c.args.signal kept.value)) c.keep.ensures.cells
    ∙ ap (λ (v : Value). flat_map after_comma (meaning_cells k c.args.signal v)) c.keep.ensures.value)
    c.put.ensures
