use Rattle.std.proofs.Common.{◌∙◌, ap, refl, sym, Some}
use Rattle.std.proofs.lemmas.List.{reverse-reverse}
use Rattle.lin_bench.specs.Expectations.{last_from}
use Rattle.lin_bench.specs.Parts.{fields_of}
use Rattle.lin_bench.proofs.FieldParts.{two-backwards}
use Rattle.lin_bench.proofs.expectations.before_last.Goals as goal

pub returns-then-is_of_last : goal.returns-then-is_of_last
returns-then-is_of_last c =
    let before = fields_of c.in_ok-before.before in
    sym (ap last_from (two-backwards (fields_of c.args.all) (fields_of c.in_ok-others.others) before c.in_ok-before.of.now c.in_ok-others.last.now c.in_ok-others.ensures c.in_ok-before.ensures)
    ∙ rw (← c.if-is_of_last.ensures) (ap Some (reverse-reverse before)))

pub returns-else-is_of_last : goal.returns-else-is_of_last
returns-else-is_of_last c =
    let before = fields_of c.in_ok-before.before in
    sym (ap last_from (two-backwards (fields_of c.args.all) (fields_of c.in_ok-others.others) before c.in_ok-before.of.now c.in_ok-others.last.now c.in_ok-others.ensures c.in_ok-before.ensures)
    ∙ rw (← c.if-is_of_last.ensures) refl)
