use Rattle.std.proofs.Common.{◌≡◌, ◌<◌, ℕ, List, [], ◌∷◌, length, arith, refl}
use Rattle.lin_text.proofs.Growing.{grows-more, same-growth}
use Rattle.lin_sections.specs.ListedDifferences.{part}
use Rattle.lin_sections.proofs.diff.difference_lines.put_part.Goals as goal

part-of : (word : List ℕ) → 0 < length word → 32 ∷ word ≡ part word
part-of [] lt = absurd (omega arith)
part-of (b ∷ bs) lt = refl

pub returns-then-not-is_empty : goal.returns-then-not-is_empty
returns-then-not-is_empty g c =
    let some : 0 < length c.args.word.now = grind (arith, c.if-not-is_empty.ensures) in
    same-growth (part-of c.args.word.now some) (grows-more c.put_byte.ensures c.put.ensures)
