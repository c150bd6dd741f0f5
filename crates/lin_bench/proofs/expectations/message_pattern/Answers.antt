use Rattle.std.proofs.Common.{◌≡◌, ℕ, false, List, [], ◌∷◌, refl, sym, subst}
use Rattle.std.specs.Prelude.{Err, Option, None, Some}
use Rattle.std.specs.Option.{option_map}
use Rattle.std.proofs.lemmas.Result.{err_from_is_err_and}
use Rattle.lin_log.specs.Said.{no_fields}
use Rattle.lin_bench.specs.Expectations.{pattern_form}
use Rattle.lin_bench.specs.Parts.{fields_of}
use Rattle.lin_bench.specs.Read.{Fails}
use Rattle.lin_bench.specs.RuleLines.{pattern_fields}
use Rattle.lin_bench.specs.declared.expected.Since.{Since}
use Rattle.lin_bench.specs.declared.fault.LineFault.{LineFault}
use Rattle.lin_bench.specs.declared.fault.LineFault.TheVariants.{Bad, OutOfMemory}
use Rattle.lin_bench.proofs.expectations.message_pattern.Goals as goal

-- rows that are no pattern
failed : (all rows : List (List ℕ)) (from to : ℕ) (limit : Option (List ℕ × Since)) (fault : LineFault) → no_fields rows ≡ false
    → Fails fault (pattern_fields rows) → Fails fault (pattern_form all from to (rows, limit))
unfolding pattern_form
failed all rows from to limit OutOfMemory some h = tt
failed all [] from to limit (Bad why) some h = absurd (cc)
failed all (f ∷ fs) from to None (Bad why) some h = rw h refl
failed all (f ∷ fs) from to (Some l) (Bad why) some h = rw h refl

pub returns-in_err-pattern : goal.returns-in_err-pattern
returns-in_err-pattern c =
    let p = err_from_is_err_and c.from_residual-in_err-pattern.result c.from_residual-in_err-pattern.ensures.1 in
    let it = failed (fields_of c.args.all) (fields_of c.rows_and_limit.result.0) c.args.from c.args.to (option_map (λ l. (l.0.now, l.1)) c.rows_and_limit.result.1) c.in_err-pattern.field-0.0
    (sym c.if-is_empty.ensures) c.in_err-pattern.ensures in
    rw (p.1, p.2) (subst (λ parts. Fails c.in_err-pattern.field-0.0 (pattern_form (fields_of c.args.all) c.args.from c.args.to parts)) c.rows_and_limit.ensures it)
