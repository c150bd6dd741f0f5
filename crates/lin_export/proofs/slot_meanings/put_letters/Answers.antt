use Rattle.std.proofs.Common.{◌∷◌, [], sym, ap}
use Rattle.lin_text.proofs.Growing.{grows-more, same-growth}
use Rattle.lin_export.specs.Json.{escaped_byte}
use Rattle.lin_export.proofs.Rows.{flat-append}
use Rattle.lin_export.proofs.slot_meanings.put_letters.Goals as goal

pub returns : goal.returns
returns g c =
    same-growth (ap (λ l. 92 ∷ 34 ∷ l) (sym (flat-append escaped_byte c.args.letters.now (34 ∷ [])))) (grows-more c.put.ensures (grows-more c.put_escaped.ensures c.put-2.ensures))
