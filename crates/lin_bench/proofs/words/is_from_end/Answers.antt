use Rattle.std.proofs.Common.{◌≡◌, ◌∙◌, ◌-◌, ap, arith, length, sym}
use Rattle.std.specs.Str.{bytes_eq}
use Rattle.lin_bench.specs.Parts.{fields_of}
use Rattle.lin_bench.proofs.WordedLines.{field-from-end, no-word, none-from-end}
use Rattle.lin_bench.proofs.words.is_from_end.Goals as goal

pub returns-then-n-count : goal.returns-then-n-count
returns-then-n-count c =
    sym (ap (λ f. bytes_eq f c.args.word.now) (none-from-end (fields_of c.args.fields) c.args.n (omega arith)) ∙ no-word c.args.word.now c.requires)

pub returns-in-Some : goal.returns-in-Some
returns-in-Some c =
    let fs = fields_of c.args.fields in
    let at : c.len-count.result - 1 - c.args.n ≡ length fs - 1 - c.args.n = omega arith in
    c.eq.ensures ∙ sym (ap (λ f. bytes_eq f c.args.word.now) (field-from-end fs c.args.n _ _ _ _ (omega arith) at c.in-Some.ensures))

pub returns-in-None : goal.returns-in-None
returns-in-None c = absurd (omega (arith, c.in-None.ensures))
