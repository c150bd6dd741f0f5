use Rattle.std.proofs.Common.{◌≡◌, true, ◌∙◌, inl, refl, arith}
use Rattle.lin_cluster.proofs.FindingsBits.{met_far, met_near, no_more}
use Rattle.lin_cluster.proofs.findings.ranges.is_met.Goals as goal

pub returns-then-ranges-mask-ne0 : goal.returns-then-ranges-mask-ne0
returns-then-ranges-mask-ne0 c = (
  λ e. inl (met_near c.args.ranges.now.near c.mask.result c.args.start c.args.end (omega arith) (omega (arith, c.if-ranges-mask-ne0.true)) c.mask.ensures),
  λ bit. refl,
)

pub returns-then-end-gt64 : goal.returns-then-end-gt64
returns-then-end-gt64 c =
    met_far c.args.ranges.now c.mask.result c.args.start c.args.end (c.is_far_met.result ≡ true) c.if-ranges-mask-ne0.false c.mask.ensures c.is_far_met.ensures

pub returns-else-end-gt64 : goal.returns-else-end-gt64
returns-else-end-gt64 c =
    no_more c.args.ranges.now c.mask.result c.args.start c.args.end c.if-ranges-mask-ne0.false c.mask.ensures c.requires.ranges.apart c.requires.some c.if-end-gt64.false
