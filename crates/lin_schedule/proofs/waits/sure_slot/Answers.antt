use Rattle.std.proofs.Common.{◌≡◌, ℕ, false, ap, sym, ◌∙◌, below_more, arith}
use Rattle.lin_parts.specs.Cluster.{line_of}
use Rattle.lin_parts.specs.declared.parts.Line.{Line}
use Rattle.lin_schedule.specs.Rounds.{is_sure}
use Rattle.lin_schedule.proofs.waits.sure_slot.Goals as goal

pub returns-then-is_sure : goal.returns-then-is_sure
returns-then-is_sure c = λ n xs. (
  omega (arith, c.entries-slot-end.ensures.number, c.loop-slot-test.true),
  ap (λ (l : Line). is_sure c.args.cluster.now c.args.awaited.now l.entry) (sym c.line_at.ensures.line)
      ∙ sym (c.is_sure.ensures c.args.cluster.now n xs c.line_at.ensures.there) ∙ c.if-is_sure.true,
)

pub loop-slot-preserved : goal.loop-slot-preserved
loop-slot-preserved c = λ n xs.
    below_more (λ (i : ℕ). is_sure c.args.cluster.now c.args.awaited.now (line_of c.args.cluster.now c.args.table i).entry ≡ false) _
    (c.loop-slot.invariant n xs)
    (ap (λ (l : Line). is_sure c.args.cluster.now c.args.awaited.now l.entry) (sym c.line_at.ensures.line)
    ∙ sym (c.is_sure.ensures c.args.cluster.now n xs c.line_at.ensures.there) ∙ c.if-is_sure.false)

pub returns : goal.returns
returns c = λ n xs i lt. c.loop-slot.invariant n xs i (omega (arith, c.entries-slot-end.ensures.number, c.loop-slot-test.false))
