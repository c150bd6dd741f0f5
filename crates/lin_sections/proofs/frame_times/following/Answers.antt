use Rattle.std.proofs.Common.{◌≡◌, ◌+◌, ◌-◌, ◌<◌, length, arith}
use Rattle.lin_sections.proofs.FrameSteps.{none-follows, one-follows}
use Rattle.lin_sections.proofs.frame_times.following.Goals as goal

pub loop-left-init : goal.loop-left-init
loop-left-init c = none-follows c.args.name.now c.args.entries.now c.args.next

pub loop-left-preserved : goal.loop-left-preserved
loop-left-preserved c =
    let left = c.loop-left.left in
    let at : left ≡ left - 1 + 1 = omega (arith, c.loop-left-test.true) in
    let within : left - 1 < length c.args.entries.now = omega (arith, c.loop-left-test.true, c.loop-left.invariant.within) in
    one-follows c.args.name.now c.args.entries.now c.args.next left (left - 1) c.loop-left.found.next c.loop-left.found.longest c.from_entry-found.result.next c.from_entry-found.result.longest c.index-entries-left.result at within c.index-entries-left.is
    c.from_entry-found.ensures.next c.from_entry-found.ensures.longest c.from_entry-found.ensures.more c.loop-left.invariant
