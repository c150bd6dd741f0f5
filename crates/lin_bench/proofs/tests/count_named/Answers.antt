use Rattle.std.proofs.Common.{◌∙◌, ◌-◌, ap, arith, length, sym}
use Rattle.std.specs.Str.{bytes_eq}
use Rattle.std.proofs.lemmas.List.{length-take-le}
use Rattle.lin_bench.proofs.NumberedTests.{last-few, last-named, last-other, numbered-before}
use Rattle.lin_bench.proofs.tests.count_named.Goals as goal

pub overflow_add-result : goal.overflow_add-result
overflow_add-result c =
    let few = last-few c.loop-left.left.now c.last-item.result (omega arith) c.last-item.is c.loop-left.invariant.numbered in omega arith

pub returns-then-eq : goal.returns-then-eq
returns-then-eq c =
    last-named c.loop-left.left.now c.last-item.result (omega arith) c.last-item.is c.args.name.now c.loop-left.invariant.numbered
    (ap (λ n. bytes_eq n c.args.name.now) (sym c.as_slice.ensures) ∙ sym c.eq.ensures ∙ c.if-eq.true)
    ∙ c.loop-left.invariant.same

pub loop-left-preserved : goal.loop-left-preserved
loop-left-preserved c =
    let long = length-take-le (length c.loop-left.left.now - 1) c.loop-left.left.now (omega arith) in
    record {
      same = last-other c.loop-left.left.now c.last-item.result (omega arith) c.last-item.is c.args.name.now
          (ap (λ n. bytes_eq n c.args.name.now) (sym c.as_slice.ensures) ∙ sym c.eq.ensures ∙ c.if-eq.false)
          ∙ c.loop-left.invariant.same;
      numbered = numbered-before c.loop-left.left.now c.last-item.result (omega arith) c.last-item.is c.loop-left.invariant.numbered;
      short = omega arith;
    }
