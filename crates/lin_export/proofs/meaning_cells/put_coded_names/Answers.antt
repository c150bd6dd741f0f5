use Rattle.std.proofs.Common.{◌∷◌, [], ap, flat_map}
use Rattle.std.specs.Prelude.{Option}
use Rattle.std.specs.Option.{option_map_or}
use Rattle.lin_log.proofs.Ends.{grows-last}
use Rattle.lin_text.proofs.Growing.{grows-more, same-growth}
use Rattle.lin_values.specs.declared.codings.CodingType.{CodingType}
use Rattle.lin_export.specs.Csv.{after_comma, meaning_name, text_cell}
use Rattle.lin_export.proofs.meaning_cells.put_coded_names.Goals as goal

pub returns-in-Some : goal.returns-in-Some
returns-in-Some g c =
    same-growth
    (ap (λ (o : Option CodingType). flat_map after_comma (option_map_or (λ (t : CodingType). text_cell (meaning_name c.args.cluster.now c.args.coded.now c.args.signal) ∷ []) o [])) c.in-Some.ensures)
    (grows-last (grows-more c.put_byte.ensures (rw (c.signal_name.ensures, c.unit.ensures) at c.put_meaning_name.ensures)))
