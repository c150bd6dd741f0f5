use Rattle.std.proofs.Common.{◌≡◌, ◌≢◌, ◌==◌, Bool, true, List, [], length, sym, subst, ap, ◌∙◌}
use Rattle.std.proofs.lemmas.Bool.{eqb-true, eqb-false}
use Rattle.std.proofs.lemmas.List.{nil_from_length}
use Rattle.lin_field.specs.Checks.{AreRemarks, wrong}
use Rattle.lin_field.specs.declared.field_check.Remark.{Remark}
use Rattle.lin_field.specs.declared.normalizing.Normalized.{Normalized}
use Rattle.lin_field.proofs.Remarks.{one-answer, what-is-free}
use Rattle.lin_field.proofs.field_check.check_field.Goals as goal

pub returns-then-not-is_free-clause-refused : goal.returns-then-not-is_free-clause-refused
returns-then-not-is_free-clause-refused c =
    let s = c.args.settled.now
    in let are : AreRemarks s c.new.result = subst (λ (rs : List Remark). AreRemarks s rs) (sym c.new.ensures) c.in_ok-remarks.ensures.all
    in let some : length (wrong s) ≢ 0 = eqb-false (length (wrong s)) 0 (sym c.in_ok-remarks.ensures.free ∙ c.if-not-is_free.true)
    in (are, (λ none. some (ap length none)), λ other is. one-answer s other c.new.result is are)

free : (s : Normalized) (b : Bool) → b ≡ (length (wrong s) == 0) → b ≡ true → wrong s ≡ []
free s b is e = nil_from_length (wrong s) (eqb-true (length (wrong s)) 0 (sym is ∙ e))

pub cluster_of-requires-clause-sound : goal.cluster_of-requires-clause-sound
cluster_of-requires-clause-sound c = what-is-free c.args.settled.now (free c.args.settled.now c.in_ok-remarks.field-0.is_free c.in_ok-remarks.ensures.free c.if-not-is_free.false)

pub returns-clause-free : goal.returns-clause-free
returns-clause-free c = free c.args.settled.now c.in_ok-remarks.field-0.is_free c.in_ok-remarks.ensures.free c.if-not-is_free.false

pub returns-clause-warnings : goal.returns-clause-warnings
returns-clause-warnings c = subst (λ (rs : List Remark). AreRemarks c.args.settled.now rs) (sym c.new-2.ensures) c.in_ok-remarks.ensures.all
