use Rattle.std.proofs.Common.{◌++◌, ap, flat_map}
use Rattle.lin_frame.specs.declared.value.Value.{Value}
use Rattle.lin_text.proofs.Growing.{grows-more, same-growth}
use Rattle.lin_export.specs.Csv.{after_comma, meaning_cells, value_cell}
use Rattle.lin_export.proofs.csv.put_coded_signal.Goals as goal

pub returns-clause-text : goal.returns-clause-text
returns-clause-text g c = λ says is.
    same-growth (ap (λ (v : Value). after_comma (value_cell v) ++ flat_map after_comma (meaning_cells c.args.coded.now c.args.signal v)) is) (grows-more c.put_value.ensures c.put.ensures.text)
