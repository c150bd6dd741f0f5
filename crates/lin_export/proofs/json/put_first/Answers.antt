use Rattle.std.proofs.Common.{[], ◌∷◌, sym, ap, append_assoc}
use Rattle.lin_text.proofs.Growing.{grows-more, same-growth}
use Rattle.lin_export.specs.Json.{quoted_text}
use Rattle.lin_export.proofs.json.put_first.Goals as goal

pub returns : goal.returns
returns g c =
    same-growth (ap (λ l. 123 ∷ 34 ∷ l) (sym (append_assoc c.args.key.now (34 ∷ []) (58 ∷ quoted_text c.args.text.now))))
    (grows-more c.put.ensures (grows-more c.put_text.ensures (grows-more c.put-2.ensures c.put_quoted.ensures)))
