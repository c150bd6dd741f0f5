use Rattle.std.proofs.Common.{◌∙◌, sym, arith, false, option_map, refl, rules, true, ◌+◌, ◌-◌}
use Rattle.std.proofs.lemmas.Grind.{common_steps}
use Rattle.std.proofs.lemmas.Result.{err_from_is_err_and}
use Rattle.lin_bench.specs.Making.{ending_of}
use Rattle.lin_bench.specs.Slots.{most}
use Rattle.lin_bench.proofs.Makes.{grown-made}
use Rattle.lin_bench.proofs.Searches.{known-grown, taken-grown}
use Rattle.lin_bench.proofs.SlotSteps.{all-made, begin, next-fails, next-opened, next-over, next-refused, next-stops, none-left, same-ends, some-left}
use Rattle.lin_bench.proofs.GrownWatches.{watch-made}
use Rattle.lin_bench.proofs.slot_runs.slots.Goals as goal

pub loop-init : goal.loop-init
loop-init c = record {
  begun = begin c.args.ruled.now c.args.how.now c.args.ends.extent _ c.args.left _ (omega arith);
  began = search rules;
  entries = grind (arith, common_steps);
  taken = refl;
  known = c.requires;
  watch = c.new-watch.ensures c.args.ruled.now.core.cluster c.args.ruled.now.core.log;
}

pub returns-in_err-goes-clause-made : goal.returns-in_err-goes-clause-made
returns-in_err-goes-clause-made c =
    let p = err_from_is_err_and c.from_residual.result c.from_residual.ensures.1 in
    rw (p.1, p.2) (tt, grown-made c.args.ruled.now c.loop.ruled _ c.loop.invariant.begun.made)

pub returns-then-not-goes-clause-made : goal.returns-then-not-goes-clause-made
returns-then-not-goes-clause-made c =
    let goes =
    same-ends c.args.ruled.now c.loop.ruled c.loop.invariant.begun.steps _ _ _ _ (option_map ending_of c.args.ends.ending) c.args.ends.extent c.time-time.result false c.loop.invariant.begun.made c.loop.invariant.taken c.loop.invariant.entries
    (sym c.if-not-goes.true ∙ c.in_ok-goes.ensures.going) in
    next-stops c.args.ruled.now c.loop.ruled c.args.how.now c.args.ends.extent _ c.args.left _ c.loop.left c.time-time.result
    c.loop.invariant.begun c.loop.invariant.began goes

pub returns-clause-made : goal.returns-clause-made
returns-clause-made c =
    all-made c.args.ruled.now c.loop.ruled c.args.how.now c.args.ends.extent _ c.args.left _ c.loop.left c.loop.invariant.begun (omega (arith, c.most-end.ensures))

pub returns-then-is_at_limit-clause-made : goal.returns-then-is_at_limit-clause-made
returns-then-is_at_limit-clause-made c =
    let n = most c.args.ends.extent - (c.loop.counter + 1) in
    let limit = rw c.core-in-loop.ensures at c.is_at_limit.ensures in
    let none = none-left c.loop.left _ (sym limit ∙ c.if-is_at_limit.true) in
    let goes =
    same-ends c.args.ruled.now c.loop.ruled c.loop.invariant.begun.steps _ _ _ _ (option_map ending_of c.args.ends.ending) c.args.ends.extent c.time-time.result true c.loop.invariant.begun.made c.loop.invariant.taken c.loop.invariant.entries
    (sym c.if-not-goes.false ∙ c.in_ok-goes.ensures.going) in
    next-over c.args.ruled.now c.loop.ruled c.args.how.now c.args.ends.extent _ c.args.left _ n c.loop.left c.time-time.result
    c.loop.invariant.begun (omega (arith, c.most-end.ensures)) none.0 c.loop.invariant.began goes none.1

pub returns-in_err-slot-clause-made : goal.returns-in_err-slot-clause-made
returns-in_err-slot-clause-made c =
    let n = most c.args.ends.extent - (c.loop.counter + 1) in
    let p = err_from_is_err_and c.from_residual-in_err-slot.result c.from_residual-in_err-slot.ensures.1 in
    let limit = rw c.core-in-loop.ensures at c.is_at_limit.ensures in
    let goes =
    same-ends c.args.ruled.now c.loop.ruled c.loop.invariant.begun.steps _ _ _ _ (option_map ending_of c.args.ends.ending) c.args.ends.extent c.time-time.result true c.loop.invariant.begun.made c.loop.invariant.taken c.loop.invariant.entries
    (sym c.if-not-goes.false ∙ c.in_ok-goes.ensures.going) in
    rw (p.1, p.2)
    (next-fails _ c.args.ruled.now c.loop.ruled c.slot.new.ruled c.args.how.now c.args.ends.extent _ c.args.left _ n c.loop.left c.time-time.result
    c.loop.invariant.begun (omega (arith, c.most-end.ensures)) c.loop.invariant.began goes
    (some-left c.loop.left _ (sym limit ∙ c.if-is_at_limit.false)) c.in_err-slot.ensures.steps)

pub returns-in_err-slot-clause-known : goal.returns-in_err-slot-clause-known
returns-in_err-slot-clause-known c = known-grown _ _ _ c.in_err-slot.ensures.steps.1 c.in_ok-goes.ensures.known

pub returns-then-not-branch-clause-made : goal.returns-then-not-branch-clause-made
returns-then-not-branch-clause-made c =
    let n = most c.args.ends.extent - (c.loop.counter + 1) in
    let goes =
    same-ends c.args.ruled.now c.loop.ruled c.loop.invariant.begun.steps _ _ _ _ (option_map ending_of c.args.ends.ending) c.args.ends.extent c.time-time.result true c.loop.invariant.begun.made c.loop.invariant.taken c.loop.invariant.entries
    (sym c.if-not-goes.false ∙ c.in_ok-goes.ensures.going) in
    next-refused c.args.ruled.now c.loop.ruled c.slot.new.ruled c.args.how.now c.args.ends.extent _ c.args.left _ n c.loop.left c.time-time.result
    c.loop.invariant.begun (omega (arith, c.most-end.ensures)) c.loop.invariant.began goes
    c.in_ok-slot.ensures.steps (sym c.in_ok-slot.ensures.opened ∙ c.if-not-branch.true)

pub returns-then-not-branch-clause-taken : goal.returns-then-not-branch-clause-taken
returns-then-not-branch-clause-taken c =
    taken-grown _ _ _ (grown-made c.loop.ruled c.slot.new.ruled _ c.in_ok-slot.ensures.steps) c.in_ok-goes.ensures.known
    ∙ c.in_ok-goes.ensures.taken ∙ c.loop.invariant.taken

pub returns-then-not-branch-clause-known : goal.returns-then-not-branch-clause-known
returns-then-not-branch-clause-known c =
    known-grown _ _ _ (grown-made c.loop.ruled c.slot.new.ruled _ c.in_ok-slot.ensures.steps) c.in_ok-goes.ensures.known

pub loop-preserved : goal.loop-preserved
loop-preserved c =
    let n = most c.args.ends.extent - (c.loop.counter + 1) in
    let is = sym c.in_ok-slot.ensures.opened ∙ c.if-not-branch.false in
    let limit = rw c.core-in-loop.ensures at c.is_at_limit.ensures in
    let some = some-left c.loop.left _ (sym limit ∙ c.if-is_at_limit.false) is in
    let grown = grown-made c.loop.ruled c.slot.new.ruled _ c.in_ok-slot.ensures.steps in
    let goes =
    same-ends c.args.ruled.now c.loop.ruled c.loop.invariant.begun.steps _ _ _ _ (option_map ending_of c.args.ends.ending) c.args.ends.extent c.time-time.result true c.loop.invariant.begun.made c.loop.invariant.taken c.loop.invariant.entries
    (sym c.if-not-goes.false ∙ c.in_ok-goes.ensures.going) in
    record {
      begun =
          next-opened c.args.ruled.now c.loop.ruled c.slot.new.ruled c.args.how.now c.args.ends.extent _ c.args.left _ n c.loop.left (c.loop.left - 1) c.time-time.result
          c.loop.invariant.begun (omega (arith, c.most-end.ensures)) (omega (arith, some)) c.loop.invariant.began goes
          c.in_ok-slot.ensures.steps is;
      began = c.loop.invariant.began;
      entries = c.loop.invariant.entries;
      taken = taken-grown _ _ _ grown c.in_ok-goes.ensures.known ∙ c.in_ok-goes.ensures.taken ∙ c.loop.invariant.taken;
      known = known-grown _ _ _ grown c.in_ok-goes.ensures.known;
      watch = watch-made c.loop.ruled c.slot.new.ruled _ _ c.in_ok-slot.ensures.steps c.in_ok-goes.ensures.watch;
    }
