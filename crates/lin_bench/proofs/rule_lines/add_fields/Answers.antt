use Rattle.std.proofs.Common.{◌∷◌, ◌++◌, []}
use Rattle.std.proofs.lemmas.Result.{IfOk-weaker}
use Rattle.lin_bench.specs.Parts.{fields_of}
use Rattle.lin_bench.specs.RuleLines.{AddsRow, all_parts, pattern_byte, row_of_pairs}
use Rattle.lin_bench.proofs.Rows.{first-fails, last-adds}
use Rattle.lin_bench.proofs.rule_lines.add_fields.Goals as goal

pub returns-then-not-branch : goal.returns-then-not-branch
returns-then-not-branch c =
    first-fails (row_of_pairs pattern_byte) (fields_of c.args.before) c.args.last.now c.in_ok-add_rows.field-0 c.args.bytes.now.items c.add_rows.new.bytes.items
    c.add_rows.new.bytes.items c.if-not-branch.true c.in_ok-add_rows.ensures

pub returns : goal.returns
returns c =
    let old = c.args.bytes.now.items in
    let mid = c.add_rows.new.bytes.items in
    let new = c.add_row.new.bytes.items in
    let fs = fields_of c.args.before in
    let f = c.args.last.now in
    IfOk-weaker c.add_row.result (λ is. AddsRow (row_of_pairs pattern_byte f) mid is new) (λ is. AddsRow (all_parts (row_of_pairs pattern_byte) (fs ++ f ∷ [])) old is new)
    (λ is h. last-adds (row_of_pairs pattern_byte) fs f c.in_ok-add_rows.field-0 is old mid new c.if-not-branch.false c.in_ok-add_rows.ensures h) c.add_row.ensures
