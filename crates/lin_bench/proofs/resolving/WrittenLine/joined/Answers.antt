use Rattle.std.proofs.Common.{arith, flat_map, subst}
use Rattle.std.proofs.lemmas.Bool.Decides.{nat_tests}
use Rattle.lin_bench.specs.Parts.{fields_of}
use Rattle.lin_bench.specs.Resolving.{lines_after, written_of}
use Rattle.lin_bench.specs.Written.{part_fields, written_fields}
use Rattle.lin_bench.proofs.WrittenFields.{AreJoined, all-lines-joined, first-line-joined, next-line-joined, none-joined}
use Rattle.lin_bench.proofs.resolving.WrittenLine.joined.Goals as goal

pub loop-left-init : goal.loop-left-init
loop-left-init c = none-joined c.new-all.result.items _ c.new-all.ensures.items

pub loop-left-preserved-in_ok-all : goal.loop-left-preserved-in_ok-all
loop-left-preserved-in_ok-all c =
    let all = c.loop-left.all.items in
    let written = written_fields (written_of c.args.self) in
    first-line-joined all c.in_ok-all.all.items c.in-Some.text.now c.first_line.result.0.now c.without_return.result.now c.first_line.result.1 (fields_of c.part_fields-fields.result) written
    (subst (λ o. AreJoined all (flat_map part_fields (lines_after o)) written) c.in-Some.is c.loop-left.invariant)
    c.first_line.ensures.lines c.without_return.ensures c.part_fields-fields.ensures (grind (arith, nat_tests, c.is_empty.ensures, c.if-is_empty.true)) c.in_ok-all.ensures

pub loop-left-preserved : goal.loop-left-preserved
loop-left-preserved c =
    let all = c.loop-left.all.items in
    let written = written_fields (written_of c.args.self) in
    next-line-joined all c.add_spaced.new.text.items c.in-Some.text.now c.first_line.result.0.now c.without_return.result.now c.first_line.result.1 (fields_of c.part_fields-fields.result) written
    (subst (λ o. AreJoined all (flat_map part_fields (lines_after o)) written) c.in-Some.is c.loop-left.invariant)
    c.first_line.ensures.lines c.without_return.ensures c.part_fields-fields.ensures (grind (arith, nat_tests, c.is_empty.ensures, c.if-is_empty.false)) c.in_ok-add_spaced.ensures

pub returns : goal.returns
returns c = all-lines-joined c.loop-left.all.items c.loop-left.left (written_fields (written_of c.args.self)) c.loop-left.invariant c.in_default.is
