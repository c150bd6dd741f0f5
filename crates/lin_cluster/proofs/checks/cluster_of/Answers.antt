use Rattle.std.proofs.Common.{◌≡◌, ◌∙◌, sym, subst}
use Rattle.std.proofs.lemmas.Result.{IfOk-weaker}
use Rattle.lin_cluster.specs.Described.{parts_of}
use Rattle.lin_cluster.specs.Findings.{IsFree}
use Rattle.lin_cluster.specs.SlotTimes.{NoSlotIsShort}
use Rattle.lin_parts.specs.Rules.{IsCluster}
use Rattle.lin_parts.specs.declared.parts.Parts.{Parts}
use Rattle.lin_cluster.proofs.DescribedClusters.{described-cluster, numbers-fit}
use Rattle.lin_cluster.proofs.LongSlots.{no-slot-is-short}
use Rattle.lin_cluster.proofs.checks.cluster_of.Goals as goal

pub parts_of-requires-clause-fits : goal.parts_of-requires-clause-fits
parts_of-requires-clause-fits c = numbers-fit c.args.description.now c.requires.sound

pub new-requires : goal.new-requires
new-requires c = subst (λ (p : Parts). IsCluster p) (sym c.in_ok-parts_of.ensures.parts) (described-cluster c.args.description.now c.requires.sound c.in_ok-parts_of.ensures.members)

pub returns-clause-slots : goal.returns-clause-slots
returns-clause-slots c =
    let d = c.args.description.now
    in let is : IsCluster (parts_of d) = described-cluster d c.requires.sound c.in_ok-parts_of.ensures.members
    in IfOk-weaker c.new.result (λ p. p ≡ c.in_ok-parts_of.field-0) (λ p. IsFree d → NoSlotIsShort p)
    (λ p same free. subst (λ (q : Parts). NoSlotIsShort q) (sym (same ∙ c.in_ok-parts_of.ensures.parts)) (no-slot-is-short d free is)) c.new.ensures
