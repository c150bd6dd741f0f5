use Rattle.std.proofs.Common.{◌≡◌, ◌∙◌, ℕ, false, List, [], ◌∷◌, Some, None, Ok, Err, refl, sym, ap}
use Rattle.lin_log.specs.Said.{no_fields}
use Rattle.lin_bench.specs.Parts.{fields_of}
use Rattle.lin_bench.specs.RuleLines.{all_parts, parts_field, parts_fields}
use Rattle.lin_bench.specs.declared.reason.Reason.TheVariants.{Step}
use Rattle.lin_log.specs.declared.reason.Reason.TheVariants.{NotBytes}
use Rattle.lin_bench.specs.declared.rules.Part.{Part}
use Rattle.lin_bench.proofs.Rows.{all-added, is-whole, next-adds, next-fails, not-added}
use Rattle.lin_bench.proofs.rule_lines.parts.Goals as goal

refused : (all : List (List ℕ)) → false ≡ no_fields all → all_parts parts_field all ≡ None
    → parts_fields all ≡ Err (Step (NotBytes all))
unfolding parts_fields
refused [] h e = cc
refused (f ∷ fs) h e = rw e refl

spelt : (all : List (List ℕ)) (ps : List Part) → false ≡ no_fields all → all_parts parts_field all ≡ Some ps
    → parts_fields all ≡ Ok ps
unfolding parts_fields
spelt [] ps h e = cc
spelt (f ∷ fs) ps h e = rw e refl

pub returns-then-not-branch : goal.returns-then-not-branch
returns-then-not-branch c =
    let all = fields_of c.args.all in
    let fails = next-fails parts_field c.in-Some.field.now (fields_of c.loop-field.left) (fields_of c.in-Some.rest) c.in_ok-add_part.field-0 (all_parts parts_field all) []
    c.loop-field.parts.items c.add_part.new.parts.items c.in-Some.ensures.split c.if-not-branch.true c.in_ok-add_part.ensures c.loop-field.invariant in
    refused all c.if-is_empty.ensures (not-added (all_parts parts_field all) [] c.add_part.new.parts.items fails) ∙ ap (λ fs. Err (Step (NotBytes fs))) (sym c.in_ok-fields.ensures)

pub loop-field-preserved : goal.loop-field-preserved
loop-field-preserved c =
    next-adds parts_field c.in-Some.field.now (fields_of c.loop-field.left) (fields_of c.in-Some.rest) c.in_ok-add_part.field-0 (all_parts parts_field (fields_of c.args.all)) []
    c.loop-field.parts.items c.add_part.new.parts.items c.in-Some.ensures.split c.if-not-branch.false c.in_ok-add_part.ensures c.loop-field.invariant

pub returns : goal.returns
returns c =
    let all = fields_of c.args.all in
    let ps = c.loop-field.parts.items in
    let adds = all-added parts_field (fields_of c.loop-field.left) (all_parts parts_field all) [] ps c.in_default.ensures.split c.loop-field.invariant in
    spelt all ps c.if-is_empty.ensures (is-whole (all_parts parts_field all) ps adds) ∙ ap Ok (sym c.new.ensures)
