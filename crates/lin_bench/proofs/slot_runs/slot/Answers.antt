use Rattle.std.proofs.Common.{◌≡◌, ◌∙◌, Some, option_map, ap, sym}
use Rattle.std.proofs.lemmas.Result.{err_from_is_err_and}
use Rattle.lin_core.specs.Core.{past_of}
use Rattle.lin_bench.specs.Slots.{due_now, way}
use Rattle.lin_bench.proofs.Makes.{fails-after, grown-made, grown-more}
use Rattle.lin_bench.proofs.SlotSteps.{open-fails, steps-opened}
use Rattle.lin_bench.proofs.slot_runs.slot.Goals as goal

pub returns-in_err-due-clause-steps : goal.returns-in_err-due-clause-steps
returns-in_err-due-clause-steps c =
    let p = err_from_is_err_and c.from_residual-in_err-due.result c.from_residual-in_err-due.ensures.1 in
    let e = c.in_err-due.ensures.made in
    rw (p.1, p.2) (open-fails _ c.args.ruled.now (way c.args.how.now c.args.ruled.now.rules.offs) e.0, e.1)

pub returns-in_err-rest_of_slot-clause-steps : goal.returns-in_err-rest_of_slot-clause-steps
returns-in_err-rest_of_slot-clause-steps c =
    let a = c.args.ruled.now in
    let p = err_from_is_err_and c.from_residual-in_err-rest_of_slot.result c.from_residual-in_err-rest_of_slot.ensures.1 in
    let due : due_now a.core.cluster a.core.opening a.core.capacity (past_of a.core) ≡ Some c.in-Some.due.items =
    sym c.in_ok-due.ensures.due ∙ ap (option_map (λ v. v.items)) c.in-Some.is in
    let offs = c.as_slice-2.ensures.value ∙ c.in_ok-offs.ensures.items ∙ c.as_slice.ensures ∙ ap (λ r. r.offs) c.rules.ensures in
    let e = rw (offs, c.as_slice-3.ensures.value) at c.in_err-rest_of_slot.ensures in
    rw (p.1, p.2, steps-opened a.core.cluster a.core.opening a.core.capacity (way c.args.how.now a.rules.offs) (past_of a.core) c.in-Some.due.items due)
    (fails-after _ a c.open.new.ruled _ _ c.in_ok-due.ensures.made e.0, grown-more _ _ _ (grown-made a c.open.new.ruled _ c.in_ok-due.ensures.made) e.1)
