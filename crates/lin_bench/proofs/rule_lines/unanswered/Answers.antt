use Rattle.std.proofs.Common.{◌≡◌, sym}
use Rattle.lin_bench.specs.Fields.{maybe_text}
use Rattle.lin_bench.specs.Parts.{fields_of}
use Rattle.lin_bench.proofs.RuleEnds.{neither-by, off-by, silent-by, too-short}
use Rattle.lin_bench.proofs.rule_lines.unanswered.Goals as goal

pub returns-then-is_empty : goal.returns-then-is_empty
returns-then-is_empty c =
    too-short c.args.cluster.now c.args.whose.node.now (maybe_text c.args.whose.state) (maybe_text c.args.next) (fields_of c.args.fields) (fields_of c.in-Some.pattern) c.in-Some.last.now
    c.in-Some.ensures (sym c.if-is_empty.ensures)

pub returns-then-eq : goal.returns-then-eq
returns-then-eq c =
    rw (silent-by c.args.cluster.now c.args.whose.node.now (maybe_text c.args.whose.state) (maybe_text c.args.next) (fields_of c.args.fields) (fields_of c.in-Some.pattern) c.in-Some.last.now
    c.in-Some.ensures (sym c.if-is_empty.ensures) (sym (rw c.as_slice.ensures at c.if-eq.ensures)))
    c.when_with.ensures

pub returns-then-ends_rule : goal.returns-then-ends_rule
returns-then-ends_rule c =
    rw (off-by c.args.cluster.now c.args.whose.node.now (maybe_text c.args.whose.state) (maybe_text c.args.next) (fields_of c.args.fields) (fields_of c.in-Some.pattern) c.in-Some.last.now
    c.in-Some.ensures (sym c.if-is_empty.ensures) (sym (rw c.as_slice.ensures at c.if-eq.ensures)) (sym c.if-ends_rule.ensures))
    c.when_end.ensures

pub returns : goal.returns
returns c =
    neither-by c.args.cluster.now c.args.whose.node.now (maybe_text c.args.whose.state) (maybe_text c.args.next) (fields_of c.args.fields) (fields_of c.in-Some.pattern) c.in-Some.last.now
    c.in-Some.ensures (sym c.if-is_empty.ensures) (sym (rw c.as_slice.ensures at c.if-eq.ensures)) (sym c.if-ends_rule.ensures)
