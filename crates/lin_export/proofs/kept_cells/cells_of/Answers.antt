use Rattle.std.proofs.Common.{◌∷◌, [], ap, ◌∙◌, append-nil, sym, flat_map}
use Rattle.std.specs.Prelude.{Option}
use Rattle.std.specs.Option.{option_map_or}
use Rattle.lin_values.specs.declared.codings.CodingType.{CodingType}
use Rattle.lin_export.specs.Csv.{after_comma, meaning_cell}
use Rattle.lin_export.proofs.ShortAdded.{adds-more, is-added, same-adds}
use Rattle.lin_export.proofs.kept_cells.cells_of.Goals as goal

pub returns-in-Some : goal.returns-in-Some
returns-in-Some c =
    is-added c.new-text.ensures
    (same-adds
    (sym (append-nil (44 ∷ meaning_cell c.args.coded.now c.args.signal c.args.value.now))
    ∙ ap (λ (o : Option CodingType). flat_map after_comma (option_map_or (λ (t : CodingType). meaning_cell c.args.coded.now c.args.signal c.args.value.now ∷ []) o [])) c.in-Some.ensures)
    (adds-more c.put_byte.ensures c.add_meaning_cell.ensures))
