use Rattle.std.proofs.Common.{◌∷◌, [], List, ℕ, codes}
use Rattle.std.specs.Fmt.{decimal}
use Rattle.lin_text.proofs.Growing.{grows-more, same-growth}
use Rattle.lin_export.specs.ListedSignals.{text_or_number}
use Rattle.lin_export.proofs.ListedLines.{head-and-members}
use Rattle.lin_export.proofs.cluster_lists.signal_lines.put_value.Goals as goal

pub returns : goal.returns
returns g c =
    let head : List (List ℕ) = decimal c.args.signal ∷ decimal c.args.value ∷ [] in
    same-growth (head-and-members (codes "value") head (text_or_number c.args.value c.args.text.now ∷ []))
    (grows-more (rw c.from.ensures at c.put_head.ensures) (grows-more c.put_text_or_number.ensures c.put_byte.ensures))
