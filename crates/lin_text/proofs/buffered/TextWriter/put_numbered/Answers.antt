use Rattle.std.proofs.Common.{◌∷◌, ap, sym, arith}
use Rattle.std.proofs.lemmas.Fmt.{decimal_digit}
use Rattle.lin_text.proofs.Growing.{grows-more, same-growth}
use Rattle.lin_text.proofs.buffered.TextWriter.put_numbered.Goals as goal

pub returns-then-number-lt10 : goal.returns-then-number-lt10
returns-then-number-lt10 g c =
    same-growth (ap (λ digits. c.args.first ∷ digits) (sym (decimal_digit c.args.number (omega arith)))) c.put_array.ensures

pub returns-else-number-lt10 : goal.returns-else-number-lt10
returns-else-number-lt10 g c = grows-more c.put_byte.ensures c.put_number.ensures
