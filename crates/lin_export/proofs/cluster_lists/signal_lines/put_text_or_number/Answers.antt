use Rattle.std.proofs.Common.{◌≡◌, ◌==◌, ◌∙◌, ℕ, List, [], ◌∷◌, false, length, refl, sym, true}
use Rattle.std.proofs.Math.Dec.{eqb-suc-zero}
use Rattle.std.specs.Fmt.{decimal}
use Rattle.lin_text.proofs.Growing.{grows-more, same-growth}
use Rattle.lin_log.specs.Words.{spaced_word}
use Rattle.lin_export.specs.ListedSignals.{text_or_number}
use Rattle.lin_export.proofs.cluster_lists.signal_lines.put_text_or_number.Goals as goal

number-said : (n : ℕ) (text : List ℕ) → (length text == 0) ≡ true → spaced_word (decimal n) ≡ spaced_word (text_or_number n text)
number-said n [] h = refl
number-said n (b ∷ bs) h = absurd (let no : true ≡ false = sym h ∙ eqb-suc-zero (length bs) in cc)

text-said : (n : ℕ) (text : List ℕ) → (length text == 0) ≡ false → spaced_word text ≡ spaced_word (text_or_number n text)
text-said n [] h = cc
text-said n (b ∷ bs) h = refl

pub returns-then-is_empty : goal.returns-then-is_empty
returns-then-is_empty g c =
    same-growth (number-said c.args.value c.args.text.now (sym c.is_empty.ensures ∙ c.if-is_empty.true)) (grows-more c.put_byte.ensures c.put_number.ensures)

pub returns-else-is_empty : goal.returns-else-is_empty
returns-else-is_empty g c =
    same-growth (text-said c.args.value c.args.text.now (sym c.is_empty.ensures ∙ c.if-is_empty.false)) (grows-more c.put_byte.ensures c.put.ensures)
