use Rattle.std.proofs.Common.{◌≡◌, ◌∙◌, ◌<◌, ℕ, suc, zero, List, Some, Ok, ap, arith, refl, sym, take}
use Rattle.std.proofs.lemmas.Bool.Decides.{nat_tests}
use Rattle.std.proofs.lemmas.Result.{err_from_is_err_and}
use Rattle.lin_parts.specs.declared.parts.Parts.{Parts}
use Rattle.lin_bench.specs.Fields.{◌>>=◌}
use Rattle.lin_bench.specs.OnLines.{ended_form, form_fields, off_at, on_end, on_end_at}
use Rattle.lin_bench.specs.Parts.{fields_of}
use Rattle.lin_bench.specs.Read.{Fails}
use Rattle.lin_bench.specs.declared.fault.LineFault.{LineFault}
use Rattle.lin_bench.specs.declared.fault.LineFault.TheVariants.{Bad, OutOfMemory}
use Rattle.lin_bench.specs.declared.rules.Rule.TheVariants as rule
use Rattle.lin_bench.specs.declared.rules.RuleEnd.TheVariants as end
use Rattle.lin_bench.proofs.on_lines.on_end.Goals as goal

before-off : (c : Parts) (fs form : List (List ℕ)) (end : ℕ) → 0 < end → Some end ≡ off_at fs → form ≡ take end fs → on_end c fs ≡ ended_form c form
before-off c fs form zero some is same = absurd (omega (arith, some))
before-off c fs form (suc n) some is same = ap (on_end_at c fs) (sym is) ∙ ap (ended_form c) (sym same)

fails : (c : Parts) (form : List (List ℕ)) (fault : LineFault) → Fails fault (form_fields c form) → Fails fault (ended_form c form)
fails c form (Bad why) h = rw h refl
fails c form OutOfMemory h = tt

pub returns-in_err-form-in-Some : goal.returns-in_err-form-in-Some
returns-in_err-form-in-Some c =
    let p = err_from_is_err_and c.from_residual.result c.from_residual.ensures.1 in
    let form = fields_of c.take.result in
    rw (p.1, p.2, before-off c.args.cluster.now (fields_of c.args.all) form c.in-Some.end (omega (arith, nat_tests, c.in-Some.end-test)) c.in-Some.ensures c.take.ensures)
    (fails c.args.cluster.now form c.in_err-form-in-Some.field-0.0 c.in_err-form-in-Some.ensures)

pub returns-in_ok-form-in-Some : goal.returns-in_ok-form-in-Some
returns-in_ok-form-in-Some c =
    before-off c.args.cluster.now (fields_of c.args.all) (fields_of c.take.result) c.in-Some.end (omega (arith, nat_tests, c.in-Some.end-test)) c.in-Some.ensures c.take.ensures
    ∙ ap (λ r. r >>= (λ what. Ok (rule.End (end.On what)))) c.in_ok-form-in-Some.ensures
