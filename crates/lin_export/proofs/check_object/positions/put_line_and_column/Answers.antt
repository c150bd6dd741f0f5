use Rattle.std.proofs.Common.{◌∷◌, [], ◌++◌, ℕ, List, ap, append-nil, append_assoc, sym, ◌∙◌}
use Rattle.std.specs.Fmt.{decimal}
use Rattle.lin_text.proofs.Growing.{grows-more, same-growth}
use Rattle.lin_export.proofs.check_object.positions.put_line_and_column.Goals as goal

pub returns : goal.returns
returns g c =
    let line : List ℕ = decimal c.args.name.now.line in
    let column : List ℕ = 44 ∷ decimal c.args.name.now.column in
    same-growth (ap (λ l. 91 ∷ (line ++ (l ++ 93 ∷ []))) (sym (append-nil column)) ∙ ap (λ l. 91 ∷ l) (sym (append_assoc line (column ++ []) (93 ∷ []))))
    (grows-more c.put_byte.ensures (grows-more c.put_number.ensures (grows-more c.put_numbered.ensures c.put_byte-2.ensures)))
