use Rattle.std.proofs.Common.{◌-◌, ◌≤◌, drop, arith}
use Rattle.lin_sections.specs.Moved.{longest_before}
use Rattle.lin_sections.proofs.MovedChains.{longest-few, longest-init, longest-more, longest-part}
use Rattle.lin_sections.proofs.diff.chain.longest_before.Goals as goal

pub loop-left-init : goal.loop-left-init
loop-left-init c = record {
  value = longest-init c.args.place c.args.places.now c.args.lengths.now;
  within = omega arith;
  few = omega arith;
}

pub loop-left-preserved : goal.loop-left-preserved
loop-left-preserved c = record {
  value = grind (arith, c.loop-left.invariant.value, longest-more c.args.place c.args.places.now c.args.lengths.now (c.loop-left.left - 1));
  within = omega arith;
  few = omega arith;
}

pub returns-else-longest-most-clause-value : goal.returns-else-longest-most-clause-value
returns-else-longest-most-clause-value c =
    let part : longest_before c.args.place (drop c.loop-left.left c.args.places.now) (drop c.loop-left.left c.args.lengths.now) ≤ longest_before c.args.place c.args.places.now c.args.lengths.now = longest-part c.args.place c.args.places.now c.args.lengths.now c.loop-left.left in
    let few : longest_before c.args.place c.args.places.now c.args.lengths.now ≤ c.args.most = longest-few c.args.place c.args.places.now c.args.lengths.now c.args.most c.requires.most in
    grind (arith, c.loop-left.invariant.value)
