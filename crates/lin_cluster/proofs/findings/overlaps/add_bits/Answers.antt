use Rattle.std.proofs.Common.{◌≡◌, true, sym, subst, ◌⊎◌, false}
use Rattle.std.specs.Prelude.{◌↔◌}
use Rattle.std.specs.Option.{option_map_or}
use Rattle.lin_cluster.specs.FindingsPlaces.{has_bit_between}
use Rattle.lin_cluster.specs.FindingsRanges.{HasBit}
use Rattle.lin_cluster.proofs.FindingsPlaces.{added_bits}
use Rattle.lin_cluster.proofs.findings.overlaps.add_bits.Goals as goal

pub returns-in_ok-add_range-clause-meets : goal.returns-in_ok-add_range-clause-meets
returns-in_ok-add_range-clause-meets c = λ a b ab.
    subst (λ o. HasBit c.add_range.new.ranges a b ↔ (HasBit c.args.ranges.now a b ⊎ (option_map_or (λ s. has_bit_between a b c.args.placed.now s.size) o false ≡ true))) (sym c.in-Some.is)
    (added_bits c.args.placed.now c.in-Some.signal.size c.from-start.result c.from.result a b (HasBit c.args.ranges.now a b) (HasBit c.add_range.new.ranges a b)
    c.from-start.ensures c.from.ensures c.if-signal-gt0.true (c.in_ok-add_range.ensures.bits a b ab))
