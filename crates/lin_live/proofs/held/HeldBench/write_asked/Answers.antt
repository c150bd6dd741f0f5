use Rattle.std.proofs.Common.{◌∙◌, None, Option, ap, if◌then◌else◌, refl, subst, sym}
use Rattle.std.specs.Io.KnownBytes.{Appends}
use Rattle.lin_core.specs.Core.{CoreData}
use Rattle.lin_values.specs.Coded.{CodedData}
use Rattle.lin_live.specs.Told.{HandData, shown_coding}
use Rattle.lin_live.proofs.LinesTold.{asked-object}
use Rattle.lin_live.proofs.held.HeldBench.write_asked.Goals as goal

pub returns-in_ok-write_value_object-in-Jsonl : goal.returns-in_ok-write_value_object-in-Jsonl
returns-in_ok-write_value_object-in-Jsonl g c =
    let format = ap (λ (h : HandData). h.format) (sym c.self.view_is) ∙ c.in-Jsonl.is in
    let cluster = c.cluster-cluster.ensures ∙ ap (λ (k : CoreData). k.cluster) c.core.ensures ∙ ap (λ (h : HandData). h.cluster) c.self.view_is in
    let coded =
    c.told_coding-coded.ensures ∙ ap (λ (o : Option CodedData). if c.self.inside.is_physical then o else None) c.as_ref.ensures.value
    ∙ ap shown_coding c.self.view_is in
    let answered = rw c.in_ok-write_value_object-in-Jsonl.was at c.write_value_object.ensures in (
      subst (λ t. Appends (g.W.Write.contents c.args.writer.now) (g.W.Write.contents c.write_value_object.new.writer) t)
          (asked-object c.args.self.now c.cluster-cluster.result.now _ c.args.value.now format cluster coded) answered.0,
      refl,
    )
