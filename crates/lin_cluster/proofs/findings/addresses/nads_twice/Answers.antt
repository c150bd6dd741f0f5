use Rattle.std.proofs.Common.{ap, refl, ◌∙◌, ◌++◌, get_or}
use Rattle.std.specs.Prelude.{◌==◌, nat_eq}
use Rattle.std.specs.List.{flat_map}
use Rattle.indexmap.specs.IndexSet.{contains}
use Rattle.lin_cluster.specs.Addresses.{nad_twice}
use Rattle.lin_cluster.specs.FindingsNames.{when, at_number}
use Rattle.lin_parts.specs.declared.description.Number.{Number}
use Rattle.lin_cluster.proofs.FindingsLists.{each_step, each_all}
use Rattle.lin_cluster.proofs.FindingsMaps.{seen_more, or_by}
use Rattle.lin_cluster.specs.declared.finding.FindingKind.TheVariants.{NadTwice}
use Rattle.lin_cluster.proofs.findings.addresses.nads_twice.Goals as goal

abbrev none : Number
none = record { value = 0; line = 0; column = 0 }

pub loop-nad-preserved : goal.loop-nad-preserved
loop-nad-preserved c =
    let nad : Number = get_or c.args.nads.now c.loop-nad.nad-index none in
    record {
      twice = each_step (nad_twice c.args.nads.now) c.args.nads.now c.loop-nad.nad-index none c.args.found.now.items c.loop-nad.found.items c.twice.new.found.items c.loop-nad-test.true c.loop-nad.invariant.twice
          (c.in_ok-twice.ensures ∙ ap (λ b. c.loop-nad.found.items ++ when b (at_number NadTwice nad)) (c.loop-nad.invariant.earlier nad.value));
      earlier = λ q.
          seen_more (λ y. y.value == q) c.args.nads.now c.loop-nad.nad-index none (nat_eq nad.value q) (contains nat_eq c.loop-nad.earlier q) (contains nat_eq c.insert.new.self q) c.loop-nad-test.true refl (c.loop-nad.invariant.earlier q)
          (c.in_ok-insert.ensures.updates.0 q ∙ or_by (nat_eq nad.value q) (contains nat_eq c.loop-nad.earlier q));
    }

pub returns : goal.returns
returns c = c.loop-nad.invariant.twice ∙ ap (λ xs. c.args.found.now.items ++ flat_map (nad_twice c.args.nads.now) xs) (each_all c.args.nads.now c.loop-nad.nad-index c.loop-nad-test.false)
