use Rattle.std.proofs.Common.{◌==◌, length, ap, ◌∙◌}
use Rattle.std.proofs.lemmas.List.Sorted.{IsPermutation-trans}
use Rattle.lin_field.specs.Checks.{remarks}
use Rattle.lin_field.proofs.Remarks.{Told, told, wrong-length}
use Rattle.lin_field.proofs.field_check.remarks_of.Goals as goal

pub returns-clause-all : goal.returns-clause-all
returns-clause-all c =
    let s = c.args.settled.now
    in let is : Told s c.add_remarks.new.remarks.items c.add_remarks-3.new.remarks.items =
    told s c.args.found.items c.args.tight.now c.as_slice.result.now c.as_slice-3.result.now c.reserve_exact.new.self.items c.add_findings.new.remarks.items c.add_remarks.new.remarks.items c.add_remarks-2.new.remarks.items c.add_remarks-3.new.remarks.items
    c.requires.found c.requires.tight c.as_slice.ensures.value c.as_slice-3.ensures.value (c.reserve_exact.ensures.items ∙ c.new-remarks.ensures.items) c.in_ok-add_findings.ensures c.in_ok-add_remarks.ensures c.in_ok-add_remarks-2.ensures c.in_ok-add_remarks-3.ensures
    in record { all = IsPermutation-trans (remarks s) c.add_remarks-3.new.remarks.items c.sort.new.self.items is.all-are c.sort.ensures.permutation; ordered = c.in_ok-sort.ensures.sorted }

pub returns-clause-free : goal.returns-clause-free
returns-clause-free c =
    let s = c.args.settled.now
    in let is : Told s c.add_remarks.new.remarks.items c.add_remarks-3.new.remarks.items =
    told s c.args.found.items c.args.tight.now c.as_slice.result.now c.as_slice-3.result.now c.reserve_exact.new.self.items c.add_findings.new.remarks.items c.add_remarks.new.remarks.items c.add_remarks-2.new.remarks.items c.add_remarks-3.new.remarks.items
    c.requires.found c.requires.tight c.as_slice.ensures.value c.as_slice-3.ensures.value (c.reserve_exact.ensures.items ∙ c.new-remarks.ensures.items) c.in_ok-add_findings.ensures c.in_ok-add_remarks.ensures c.in_ok-add_remarks-2.ensures c.in_ok-add_remarks-3.ensures
    in c.is_empty-is_free.ensures ∙ (ap (λ rs. length rs == 0) c.as_slice-2.ensures.value ∙ ap (λ n. n == 0) (wrong-length s c.add_remarks.new.remarks.items is.wrongs-are))
