use Rattle.std.proofs.Common.{Bool, ap, arith, sym, ◌∙◌}
use Rattle.std.proofs.Math.ListN.{length-set}
use Rattle.lin_sections.specs.Moved.{without_marks}
use Rattle.lin_sections.proofs.MovedChains.{chain-ends, chain-goes-on}
use Rattle.lin_sections.proofs.diff.chain.moved.Goals as goal

pub returns-in-None : goal.returns-in-None
returns-in-None c =
    let none = rw c.as_slice-in-loop-links.ensures.value at c.in-None.ensures.found in
    sym (c.loop-links.invariant.rest
    ∙ ap (without_marks c.loop-links.moved.items)
    (chain-ends c.args.places.now c.in_ok-lengths.lengths.items c.loop-links.links c.loop-links.count c.loop-links.end
    (omega arith) none))

pub loop-links-preserved : goal.loop-links-preserved
loop-links-preserved c =
    let some = rw c.as_slice-in-loop-links.ensures.value at c.in-Some.ensures.found in
    record {
      rest =
          c.loop-links.invariant.rest
          ∙ ap (without_marks c.loop-links.moved.items)
          (chain-goes-on c.args.places.now c.in_ok-lengths.lengths.items c.loop-links.links c.loop-links.count c.in-Some.number
          c.loop-links.end (omega arith) some);
      number = omega (arith, length-set {A = Bool});
      count = omega (arith, c.in-Some.ensures.within);
    }
