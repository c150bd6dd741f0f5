use Rattle.std.proofs.Common.{◌≡◌, ◌∙◌, ◌∷◌, ◌++◌, ◌==◌, ap, arith, false, sym, ℕ}
use Rattle.std.proofs.lemmas.Bool.Decides.{nat_tests}
use Rattle.lin_bench.specs.Resolved.{place_in}
use Rattle.lin_bench.specs.Resolving.{item_if, item_of, items_left, open_file_of}
use Rattle.lin_bench.proofs.Readings.{after-line, file-ended}
use Rattle.lin_bench.proofs.resolving.ScriptReader.next_in_file.Goals as goal

pub returns-in-Some-2-clause-gives : goal.returns-in-Some-2-clause-gives
returns-in-Some-2-clause-gives c =
    let some : (c.loop-line.self.left == 0) ≡ false = grind (arith, nat_tests) in
    let new = c.take.new.self in
    let at = place_in (open_file_of c.step.new.self) c.in-Some.line.number in
    after-line c.args.self.now c.loop-line.self c.step.new.self new c.in-Some.line c.in_ok-item.field-0 c.loop-line.invariant.same c.in-Some.ensures some c.in_ok-item.ensures.does
    ∙ ap (λ o. item_if item_of at o ++ items_left new) c.in-Some-2.is
    ∙ ap (λ p. (p, item_of c.in-Some-2.item) ∷ items_left new) (sym c.place-place.ensures)

pub loop-line-preserved : goal.loop-line-preserved
loop-line-preserved c =
    let some : (c.loop-line.self.left == 0) ≡ false = grind (arith, nat_tests) in
    let new = c.take.new.self in
    let at = place_in (open_file_of c.step.new.self) c.in-Some.line.number in
    record {
      same = after-line c.args.self.now c.loop-line.self c.step.new.self new c.in-Some.line c.in_ok-item.field-0 c.loop-line.invariant.same c.in-Some.ensures some c.in_ok-item.ensures.does
          ∙ ap (λ o. item_if item_of at o ++ items_left new) c.in_default-2.is;
      fewer = omega (arith, c.in_ok-item.ensures.left, c.loop-line.invariant.fewer);
    }

pub returns-clause-gives : goal.returns-clause-gives
returns-clause-gives c =
    file-ended ℕ c.args.self.now c.loop-line.self c.unended.new.self (open_file_of c.step.new.self) c.unended.result c.loop-line.invariant.same c.in_default.ensures c.unended.ensures
