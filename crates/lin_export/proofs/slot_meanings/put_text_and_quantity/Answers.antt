use Rattle.std.proofs.Common.{◌∷◌, [], ℕ, List, ap, codes, flat_map}
use Rattle.std.specs.Prelude.{Option}
use Rattle.std.specs.Option.{option_map_or}
use Rattle.lin_text.proofs.Growing.{same-growth}
use Rattle.lin_values.specs.Meaning.{meant}
use Rattle.lin_values.specs.Meant.{Meant}
use Rattle.lin_export.specs.Csv.{after_comma}
use Rattle.lin_export.specs.Json.{member, null}
use Rattle.lin_export.specs.Quantities.{meaning_text, quantity}
use Rattle.lin_export.proofs.Objects.{grows-member, puts-more, puts-one}
use Rattle.lin_export.proofs.slot_meanings.put_text_and_quantity.Goals as goal

pub returns : goal.returns
returns g c =
    let key = c.args.key.now in
    let m = meant c.in-Some.meaning in
    let says : Option Meant → List ℕ
    = λ o. flat_map after_comma (member key (option_map_or meaning_text o null) ∷ member (codes "quantity") (option_map_or quantity o null) ∷ []) in
    same-growth (ap says c.in-Some.ensures)
    (puts-more (puts-one (member key (meaning_text m)) (grows-member key c.put_key.ensures c.put_text.ensures))
    (puts-one (member (codes "quantity") (quantity m)) (grows-member (codes "quantity") c.put_key-2.ensures c.put_quantity.ensures))).text
