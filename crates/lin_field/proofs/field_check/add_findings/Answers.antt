use Rattle.std.proofs.Common.{true, false, not, refl, sym, ap, ◌∙◌, List, [], ◌∷◌, ◌++◌, map, filter, append-nil}
use Rattle.std.specs.List.{list_any}
use Rattle.lin_cluster.specs.declared.finding.Finding.{Finding}
use Rattle.lin_field.specs.Checks.{same_finding, remark}
use Rattle.lin_field.proofs.Remarks.{searched, more-found, turned}
use Rattle.lin_field.proofs.field_check.add_findings.Goals as goal
use Rattle.lin_field.proofs.field_check.add_findings.Goals.{then-is_err+in_ok-push, else-is_err}

pub loop-finding-init : goal.loop-finding-init
loop-finding-init c =
    turned (λ (f : Finding). not (list_any (same_finding f) c.args.tight.now)) c.args.found.items c.reverse.new.self.items c.args.remarks.now.items c.args.remarks.now.items c.reverse.ensures.permutation refl

pub loop-finding-preserved : goal.loop-finding-preserved
loop-finding-preserved c =
    let tight = c.args.tight.now
    in let p = λ (f : Finding). not (list_any (same_finding f) tight)
    in let whole = c.args.remarks.now.items ++ map (remark false) (filter p c.args.found.items)
    in let old = c.loop-finding.remarks.items
    in let xs = c.loop-finding.found.items
    in let rest = c.give_back.new.found.items
    in let x = c.in-Some.finding
    in let last = c.in-Some.ensures.items ∙ ap (λ (l : List Finding). l ++ x ∷ []) (sym c.give_back.ensures)
    in let is = c.is_err.ensures.value ∙ searched tight _ c.binary_search.result c.requires c.binary_search.ensures.bound c.binary_search.ensures.position
    in elim c.if-is_err.branch [
      | then-is_err+in_ok-push w ↦ more-found p whole old c.if-is_err.remarks.items xs rest x true c.loop-finding.invariant last (sym w.if-is_err.true ∙ is) (ap (λ v. v.items) w.remarks-is ∙ w.in_ok-push.ensures.items)
      | else-is_err w ↦ more-found p whole old c.if-is_err.remarks.items xs rest x false c.loop-finding.invariant last (sym w.if-is_err.false ∙ is) (ap (λ v. v.items) w.remarks-is ∙ sym (append-nil old))
    ]
