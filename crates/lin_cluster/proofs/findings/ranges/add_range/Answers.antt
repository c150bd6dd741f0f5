use Rattle.std.proofs.Common.{refl}
use Rattle.std.specs.Prelude.{bit_or}
use Rattle.lin_cluster.proofs.FindingsBits.{all_bits, still_beyond}
use Rattle.lin_cluster.proofs.findings.ranges.add_range.Goals as goal

pub returns-clause-ranges : goal.returns-clause-ranges
returns-clause-ranges c = record {
  far = c.in_ok-add_beyond.ensures.ranges;
  apart = still_beyond c.args.ranges.now.far c.add_beyond.new.ranges c.args.start c.args.end c.requires.ranges.apart c.in_ok-add_beyond.ensures.bits;
}

pub returns-clause-bits : goal.returns-clause-bits
returns-clause-bits c = λ a b ab.
    all_bits c.args.ranges.now (record { near = bit_or c.args.ranges.now.near c.mask.result; far = c.add_beyond.new.ranges }) c.mask.result a b c.args.start c.args.end ab c.requires.some c.mask.ensures refl (c.in_ok-add_beyond.ensures.bits a b ab)
