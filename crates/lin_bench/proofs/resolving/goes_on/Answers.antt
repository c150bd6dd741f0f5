use Rattle.std.proofs.Common.{◌∙◌, ap, sym}
use Rattle.std.specs.Prelude.{codes}
use Rattle.std.specs.Str.{bytes_eq}
use Rattle.lin_bench.specs.Fields.{line_fields}
use Rattle.lin_bench.proofs.WordedLines.{last-from-end}
use Rattle.lin_bench.proofs.resolving.goes_on.Goals as goal

pub returns-in-Some : goal.returns-in-Some
returns-in-Some c =
    let fs = line_fields c.args.line.now in
    c.eq.ensures ∙ ap (bytes_eq c.in-Some.last.now) c.as_slice.ensures
    ∙ sym (ap (λ f. bytes_eq f (codes "\\")) (last-from-end fs _ c.in-Some.last.now (sym c.of.ensures ∙ c.in-Some.ensures)))
