use Rattle.std.proofs.Common.{◌≡◌, ◌∙◌, ℕ, Bool, true, List, Option, Some, None, ap, subst, sym}
use Rattle.std.specs.Prelude.{Result, Ok, Err}
use Rattle.lin_parts.specs.declared.parts.Parts.{Parts}
use Rattle.lin_bench.specs.Expectations.{condition_form}
use Rattle.lin_bench.specs.OnLines.{as_form, form_of, may_call}
use Rattle.lin_bench.specs.Parts.{fields_of}
use Rattle.lin_bench.specs.Read.{Fails}
use Rattle.lin_bench.specs.declared.expected.Condition.{Condition}
use Rattle.lin_bench.specs.declared.reason.Reason.{Reason}
use Rattle.lin_bench.proofs.on_lines.form_of.Goals as goal

-- a form with a word that may call is as its condition is read
by-condition : (c : Parts) (all : List (List ℕ)) (wanted : Bool) (word : List ℕ) (fs : List (List ℕ)) (r : Result (Option Condition) Reason)
    → may_call wanted word ≡ true → condition_form c all word fs ≡ r → form_of c all wanted word fs ≡ as_form all wanted r
by-condition c all wanted word fs r may is = rw may (ap (as_form all wanted) is)

pub returns-in-Ok-Some : goal.returns-in-Ok-Some
returns-in-Ok-Some c =
    by-condition c.args.cluster.now (fields_of c.args.all) c.args.wanted c.args.word.now (fields_of c.args.parts)
    (Ok (Some c.in-Ok-Some.what)) (sym c.if-not-may_call.ensures) (c.in-Ok-Some.ensures ∙ ap Ok c.in-Ok-Some.field-0-is)

pub returns-in_ok-no_form-in-Ok-None : goal.returns-in_ok-no_form-in-Ok-None
returns-in_ok-no_form-in-Ok-None c =
    let all = fields_of c.args.all in
    subst (λ f. Fails f (form_of c.args.cluster.now all c.args.wanted c.args.word.now (fields_of c.args.parts)))
    (sym c.in_ok-no_form-in-Ok-None.ensures)
    (by-condition c.args.cluster.now all c.args.wanted c.args.word.now (fields_of c.args.parts) (Ok None) (sym c.if-not-may_call.ensures) (c.in-Ok-None.ensures ∙ ap Ok c.in-Ok-None.field-0-is))

pub returns-in_ok-of_on-in-Err-Bad : goal.returns-in_ok-of_on-in-Err-Bad
returns-in_ok-of_on-in-Err-Bad c =
    by-condition c.args.cluster.now (fields_of c.args.all) c.args.wanted c.args.word.now (fields_of c.args.parts)
    (Err c.in-Err-Bad.why) (sym c.if-not-may_call.ensures)
    (subst (λ f. Fails f (condition_form c.args.cluster.now (fields_of c.args.all) c.args.word.now (fields_of c.args.parts))) c.in-Err-Bad.field-0-is c.in-Err-Bad.ensures)
    ∙ ap Err (sym c.in_ok-of_on-in-Err-Bad.ensures)
