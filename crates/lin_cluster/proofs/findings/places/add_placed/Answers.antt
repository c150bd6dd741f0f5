use Rattle.std.proofs.Common.{◌≡◌, ◌++◌, true, false, sym, ap, subst, ◌∙◌}
use Rattle.std.specs.Prelude.{◌↔◌}
use Rattle.std.specs.Option.{option_map_or}
use Rattle.std.proofs.lemmas.Result.{on_ok_weaker}
use Rattle.lin_cluster.specs.FindingsNames.{at_number, when}
use Rattle.lin_cluster.specs.FindingsPlaces.{IsTaken}
use Rattle.lin_cluster.specs.declared.finding.FindingKind.TheVariants.{SignalsOverlap}
use Rattle.lin_cluster.proofs.findings.places.add_placed.Goals as goal

pub returns-clause-found : goal.returns-clause-found
returns-clause-found c = on_ok_weaker c.add_bits.result (λ _ taken is.
    c.in_ok-overlap.ensures taken (λ some size. subst (λ b. (taken size ≡ true) ↔ IsTaken b c.args.earlier.now.ranges c.args.placed.now size) (sym c.in_ok-twice.ensures.twice) (is some size))
    ∙ ap (λ fs. fs ++ when (option_map_or (λ s. taken s.size) c.args.known.1 false) (at_number SignalsOverlap c.args.placed.now.offset)) c.in_ok-find_placed.ensures)
    c.add_bits.ensures.apart
