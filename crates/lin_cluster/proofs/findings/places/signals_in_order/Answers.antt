use Rattle.std.proofs.Common.{sym, ap, ◌∙◌, ◌++◌, take, append-nil, append_assoc, false}
use Rattle.std.specs.List.{flat_map, list_any}
use Rattle.std.specs.Prelude.{◌==◌}
use Rattle.std.specs.Option.{option_map_or}
use Rattle.lin_cluster.specs.Described.{signal_number}
use Rattle.lin_cluster.specs.Findings.{in_placed}
use Rattle.lin_cluster.specs.Overlaps.{overlap_at, overlaps_earlier}
use Rattle.lin_cluster.specs.FindingsNames.{at_number, signal_named, when}
use Rattle.lin_cluster.specs.FindingsNodes.{number_of_node}
use Rattle.lin_cluster.specs.FindingsPlaces.{has_bit_between, in_placed_by}
use Rattle.lin_cluster.specs.FindingsRanges.{HasBit}
use Rattle.lin_cluster.specs.declared.finding.FindingKind.TheVariants.{SignalsOverlap}
use Rattle.lin_cluster.proofs.FindingsLists.{each_step_at, each_all}
use Rattle.lin_cluster.proofs.FindingsMaps.{seen_more}
use Rattle.lin_cluster.proofs.FindingsPlaces.{taken, placed_found, more_bits}
use Rattle.lin_cluster.proofs.Made.{placed_same, size_same, bits_same}
use Rattle.lin_cluster.proofs.findings.places.signals_in_order.Goals as goal

pub loop-placed-init : goal.loop-placed-init
loop-placed-init c = record {
  found = sym (append-nil c.args.found.now.items);
  apart = c.no_ranges.ensures.ranges;
  numbers = c.no_numbers.ensures;
  ranges = λ a b ab. (λ bit. absurd (c.no_ranges.ensures.none a b bit), λ no. absurd cc);
}

pub loop-placed-preserved : goal.loop-placed-preserved
loop-placed-preserved c =
    let d = c.args.signals.now in
    let all = c.args.all_placed.now in
    let p = c.placed-item.result in
    let before = take c.loop-placed.placed-index all in
    let named = signal_named d p.signal in
    let facts = c.numbered-known.result.1 in
    record {
      found = each_step_at (in_placed d c.args.frame.now all) all c.loop-placed.placed-index p c.args.found.now.items c.loop-placed.found.items c.add_placed.new.found.items c.loop-placed-test.true (sym c.placed-item.is) c.loop-placed.invariant.found
          (c.in_ok-add_placed.ensures.found (λ size. list_any (overlaps_earlier d p size) before)
          (λ some size. taken d c.loop-placed.earlier.ranges before p size _ (placed_found d p facts c.numbered-known.ensures.facts some)
          (c.loop-placed.invariant.numbers c.numbered-known.result.0 ∙ ap (λ n. list_any (λ q. signal_number d q.signal == n) before) c.numbered-known.ensures.number) c.loop-placed.invariant.ranges)
          ∙ append_assoc c.loop-placed.found.items (in_placed_by c.args.frame.now c.node-publisher.result p facts) _
          ∙ ap (λ fs. c.loop-placed.found.items ++ fs)
          (ap (λ b. in_placed_by c.args.frame.now c.node-publisher.result p facts ++ when b (at_number SignalsOverlap p.offset)) (size_same d (λ size. list_any (overlaps_earlier d p size) before) named facts c.numbered-known.ensures.facts)
          ∙ ap (λ fs. fs ++ overlap_at d all (c.loop-placed.placed-index, p)) (placed_same d c.args.frame.now p c.node-publisher.result facts c.numbered-known.ensures.facts (c.node-publisher.ensures ∙ ap (λ d. number_of_node d c.args.frame.now.publisher) c.signals.view_is))));
      apart = c.in_ok-add_placed.ensures.apart;
      numbers = λ q.
          seen_more (λ x. signal_number d x.signal == q) all c.loop-placed.placed-index p (c.numbered-known.result.0 == q) _ _ c.loop-placed-test.true
          (ap (λ n. n == q) c.numbered-known.ensures.number ∙ ap (λ x. signal_number d x.signal == q) c.placed-item.is) (c.loop-placed.invariant.numbers q) (c.in_ok-add_placed.ensures.numbers q);
      ranges = λ a b ab.
          more_bits (HasBit c.loop-placed.earlier.ranges a b) (HasBit c.add_placed.new.earlier.ranges a b) (λ x. option_map_or (λ t. has_bit_between a b x t.size.value) (signal_named d x.signal) false) all c.loop-placed.placed-index p c.loop-placed-test.true (sym c.placed-item.is)
          (c.loop-placed.invariant.ranges a b ab) (bits_same d (has_bit_between a b p) (HasBit c.loop-placed.earlier.ranges a b) (HasBit c.add_placed.new.earlier.ranges a b) named facts c.numbered-known.ensures.facts (c.in_ok-add_placed.ensures.ranges a b ab));
    }

pub returns : goal.returns
returns c = c.loop-placed.invariant.found ∙ ap (λ xs. c.args.found.now.items ++ flat_map (in_placed c.args.signals.now c.args.frame.now c.args.all_placed.now) xs) (each_all c.args.all_placed.now c.loop-placed.placed-index c.loop-placed-test.false)
