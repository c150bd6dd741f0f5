use Rattle.std.proofs.Common.{◌≡◌, ◌∙◌, ◌-◌, None, sym, ap, arith, drop, length, take}
use Rattle.lin_bench.specs.RuleLines.{pattern_byte, row_of_pairs}
use Rattle.lin_bench.proofs.Rows.{behind, behind-one, is-not-added, row-ends, row-is-over, row-next}
use Rattle.lin_bench.proofs.rule_lines.add_row.Goals as goal

pub returns-in-None : goal.returns-in-None
returns-in-None c =
    let new = c.loop-left.bytes.items in
    let none : row_of_pairs pattern_byte c.loop-left.left.now ≡ None = row-ends pattern_byte c.loop-left.left.now (omega arith) (sym c.pattern_byte.ensures ∙ c.in-None.is) in
    is-not-added (row_of_pairs pattern_byte c.args.signs.now) c.args.bytes.now.items new (c.loop-left.invariant ∙ ap (behind new) none)

pub loop-left-preserved : goal.loop-left-preserved
loop-left-preserved c =
    let xs = c.loop-left.left.now in
    let before = c.loop-left.bytes.items in
    let rest = row_of_pairs pattern_byte (take (length xs - 2) (drop 2 xs)) in
    let next = row-next pattern_byte xs c.in-Some.byte (omega arith) (sym c.pattern_byte.ensures ∙ c.in-Some.is) in
    c.loop-left.invariant ∙ ap (behind before) next ∙ behind-one before c.in-Some.byte rest
    ∙ ap (λ l. behind l rest) (sym c.in_ok-push-in-Some.ensures.items)

pub returns : goal.returns
returns c =
    row-is-over pattern_byte c.loop-left.left.now c.is_empty.result (row_of_pairs pattern_byte c.args.signs.now) c.args.bytes.now.items c.loop-left.bytes.items
    (omega arith) c.is_empty.ensures c.loop-left.invariant
