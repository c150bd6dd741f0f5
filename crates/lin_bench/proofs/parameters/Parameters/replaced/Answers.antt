use Rattle.std.proofs.Common.{◌∙◌, ap, arith, subst, sym}
use Rattle.std.specs.Prelude.{find, true}
use Rattle.std.proofs.lemmas.Result.{err_from_is_err_and}
use Rattle.lin_log.specs.Said.{is_comment}
use Rattle.lin_bench.specs.Fields.{all_fields}
use Rattle.lin_bench.specs.Parts.{fields_of}
use Rattle.lin_bench.specs.Resolved.{hash_or_text}
use Rattle.lin_bench.proofs.AddedTexts.{bounded}
use Rattle.lin_bench.proofs.ReplacedFields.{AreReplaced, field-fails, field-replaced, line-fits, line-too-long}
use Rattle.lin_bench.proofs.parameters.Parameters.replaced.Goals as goal

pub add_field-requires : goal.add_field-requires
add_field-requires c = rw c.in_ok-add_text.ensures (bounded 65537 _)

pub returns-in_err-add_field : goal.returns-in_err-add_field
returns-in_err-add_field c =
    let given = c.args.self.now.given.now in
    let sets = c.args.self.now.sets.now in
    let all = fields_of c.args.fields in
    let line = c.loop-field.line.items in
    let gap = c.loop-field.gap.now in
    let p = err_from_is_err_and c.from_residual-in_err-add_field.result c.from_residual-in_err-add_field.ensures.1 in
    rw (p.1, p.2) (field-fails given sets all (fields_of c.in-Some.rest) line gap c.in-Some.field.now _
    (subst (AreReplaced given sets all line gap) c.in-Some.ensures.split c.loop-field.invariant.replaced) c.in_err-add_field.ensures)

pub loop-field-preserved : goal.loop-field-preserved
loop-field-preserved c =
    let given = c.args.self.now.given.now in
    let sets = c.args.self.now.sets.now in
    let all = fields_of c.args.fields in
    let line = c.loop-field.line.items in
    let gap = c.loop-field.gap.now in
    record {
      replaced = field-replaced given sets all (fields_of c.in-Some.rest) line gap c.add_text.new.line.items c.add_field.new.line.items c.in-Some.field.now
          (subst (AreReplaced given sets all line gap) c.in-Some.ensures.split c.loop-field.invariant.replaced) c.in_ok-add_text.ensures c.in_ok-add_field.ensures;
      short = rw c.in_ok-add_field.ensures.2 (bounded 65537 _);
    }

pub returns-then-len-gt-LONGEST_LINE : goal.returns-then-len-gt-LONGEST_LINE
returns-then-len-gt-LONGEST_LINE c =
    let line = c.loop-field.line in
    let replaced = AreReplaced c.args.self.now.given.now c.args.self.now.sets.now (fields_of c.args.fields) line.items c.loop-field.gap.now in
    line-too-long c.args.self.now.given.now c.args.self.now.sets.now (fields_of c.args.fields) line.items c.loop-field.gap.now
    (subst replaced c.in_default.ensures.split c.loop-field.invariant.replaced) (omega (arith, c.len.ensures, line.ok.0))

pub returns-in-None : goal.returns-in-None
returns-in-None c =
    let line = c.loop-field.line in
    let replaced = AreReplaced c.args.self.now.given.now c.args.self.now.sets.now (fields_of c.args.fields) line.items c.loop-field.gap.now in
    line-fits c.args.self.now.given.now c.args.self.now.sets.now (fields_of c.args.fields) line.items c.loop-field.gap.now
    (subst replaced c.in_default.ensures.split c.loop-field.invariant.replaced) (omega (arith, c.len.ensures, line.ok.0))
    ∙ ap (λ o. hash_or_text o line.items) (sym (sym c.in-None.is ∙ c.in_ok-hash_field.ensures ∙ ap (λ l. find (is_comment true) (all_fields l)) c.as_slice.ensures.value))

pub returns-in-Some-2 : goal.returns-in-Some-2
returns-in-Some-2 c =
    let line = c.loop-field.line in
    let replaced = AreReplaced c.args.self.now.given.now c.args.self.now.sets.now (fields_of c.args.fields) line.items c.loop-field.gap.now in
    line-fits c.args.self.now.given.now c.args.self.now.sets.now (fields_of c.args.fields) line.items c.loop-field.gap.now
    (subst replaced c.in_default.ensures.split c.loop-field.invariant.replaced) (omega (arith, c.len.ensures, line.ok.0))
    ∙ ap (λ o. hash_or_text o line.items) (sym (sym c.in-Some-2.is ∙ c.in_ok-hash_field.ensures ∙ ap (λ l. find (is_comment true) (all_fields l)) c.as_slice.ensures.value))
