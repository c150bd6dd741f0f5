use Rattle.std.proofs.Common.{◌∙◌, ap, arith, drop, sym}
use Rattle.std.proofs.lemmas.List.{drop_all, length-drop}
use Rattle.lin_bench.specs.Strict.{not_due}
use Rattle.lin_bench.proofs.Stricts.{undue-in}
use Rattle.lin_bench.proofs.strict.not_due.Goals as goal

pub returns-then-from-len : goal.returns-then-from-len
returns-then-from-len c =
    let log = c.args.log.now.entries in
    let none = c.if-from-len.true in
    let n = c.len.ensures.len in
    sym (ap (not_due c.args.nodes.now) (drop_all c.args.from log (omega (arith, none, n))))

pub returns : goal.returns
returns c =
    let log = c.args.log.now.entries in
    let some = c.if-from-len.false in
    let n = c.len.ensures.len in
    let left = length-drop c.args.from log in
    c.first_undue.ensures ∙ undue-in c.args.nodes.now (drop c.args.from log) (omega (arith, some, n, left))
