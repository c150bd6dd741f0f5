use Rattle.std.proofs.Common.{[], sym, subst, ◌∙◌}
use Rattle.std.specs.Prelude.{IsPermutation, List}
use Rattle.std.proofs.lemmas.List.Sorted.{IsPermutation-refl}
use Rattle.lin_cluster.specs.declared.finding.Finding.{Finding}
use Rattle.lin_field.proofs.Remarks.{none-short}
use Rattle.lin_field.proofs.field_check.tight_slots.Goals as goal

pub returns-then-not-has_short-clause-all : goal.returns-then-not-has_short-clause-all
returns-then-not-has_short-clause-all c =
    let none = none-short c.args.description.now c.args.found.now c.requires (sym c.has_short.ensures ∙ c.if-not-has_short.true)
    in subst (λ (fs : List Finding). IsPermutation fs c.new.result.items) (sym none)
    (subst (λ (fs : List Finding). IsPermutation [] fs) (sym c.new.ensures.items) (IsPermutation-refl []))
