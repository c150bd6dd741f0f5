use Rattle.lin_bench.specs.Parts.{fields_of}
use Rattle.lin_bench.specs.RuleLines.{all_parts, pattern_byte, row_of_pairs}
use Rattle.lin_bench.proofs.Rows.{all-added, next-adds, next-fails}
use Rattle.lin_bench.proofs.rule_lines.add_rows.Goals as goal

pub returns-then-not-branch : goal.returns-then-not-branch
returns-then-not-branch c =
    next-fails (row_of_pairs pattern_byte) c.in-Some.row.now (fields_of c.loop-row.left) (fields_of c.in-Some.rest) c.in_ok-add_row.field-0 (all_parts (row_of_pairs pattern_byte) (fields_of c.args.rows))
    c.args.bytes.now.items c.loop-row.bytes.items c.add_row.new.bytes.items c.in-Some.ensures.split c.if-not-branch.true c.in_ok-add_row.ensures c.loop-row.invariant

pub loop-row-preserved : goal.loop-row-preserved
loop-row-preserved c =
    next-adds (row_of_pairs pattern_byte) c.in-Some.row.now (fields_of c.loop-row.left) (fields_of c.in-Some.rest) c.in_ok-add_row.field-0 (all_parts (row_of_pairs pattern_byte) (fields_of c.args.rows))
    c.args.bytes.now.items c.loop-row.bytes.items c.add_row.new.bytes.items c.in-Some.ensures.split c.if-not-branch.false c.in_ok-add_row.ensures c.loop-row.invariant

pub returns : goal.returns
returns c =
    all-added (row_of_pairs pattern_byte) (fields_of c.loop-row.left) (all_parts (row_of_pairs pattern_byte) (fields_of c.args.rows)) c.args.bytes.now.items c.loop-row.bytes.items
    c.in_default.ensures.split c.loop-row.invariant
