use Rattle.std.proofs.Common.{◌≡◌, List, map, ap, subst, ◌∙◌}
use Rattle.std.specs.Prelude.{IfOk}
use Rattle.lin_frame.specs.declared.sums.SumKind.{SumKind}
use Rattle.lin_cluster.specs.declared.findings.facts.FrameFacts.{FrameFacts}
use Rattle.lin_cluster.proofs.FindingsModels.{models-made}
use Rattle.lin_cluster.proofs.findings.judged.DeclarationFacts.models.Goals as goal

pub returns : goal.returns
returns c =
    let d = c.self.inside.signals in
    rw (← c.self.view_is)
    (subst (λ (ms : List SumKind). IfOk c.made_of_each.result (λ v. v.items ≡ ms))
    (ap (map (λ (f : FrameFacts). f.model)) (c.as_slice.ensures.value ∙ c.self.invariant.0) ∙ models-made d d.frames) c.made_of_each.ensures)
