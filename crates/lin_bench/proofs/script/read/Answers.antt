use Rattle.std.proofs.Common.{◌≡◌, ◌∙◌, ◌+◌, Ok, ap, arith, length, length-append, option_map, rules, sym}
use Rattle.std.proofs.lemmas.Grind.{common_steps}
use Rattle.lin_bench.specs.Files.{source_data}
use Rattle.lin_bench.specs.Resolving.{items_left}
use Rattle.lin_bench.specs.Scripts.{read, read_items}
use Rattle.lin_bench.specs.declared.line.ScriptLine.{ScriptLine}
use Rattle.lin_bench.specs.declared.place.LinePlace.{LinePlace}
use Rattle.lin_bench.proofs.ReadLines.{added, line-given, lines-few, read-begun, read-more}
use Rattle.lin_bench.proofs.script.read.Goals as goal

pub loop-lines-init : goal.loop-lines-init
loop-lines-init c = record {
  same = read-begun c.args.cluster.now (option_map (λ k. k.now) c.args.coded) c.args.limits.now (source_data c.args.source) _ _ c.new-lines.ensures.items c.in_ok-script.ensures;
  tests = omega arith;
}

pub loop-lines-preserved : goal.loop-lines-preserved
loop-lines-preserved c =
    let cl = c.args.cluster.now in
    let k = option_map (λ k. k.now) c.args.coded in
    let limits = c.args.limits.now in
    let old = read_items cl k limits (items_left c.loop-lines.script) in
    let left = read_items cl k limits (items_left c.next_line.new.script) in
    let l : LinePlace × ScriptLine = (c.in-Some.place, c.in-Some.line) in
    let more = added c.push.result _ _ _ (sym c.is_err.ensures.value ∙ c.if-is_err.false) c.push.ensures.items in
    let long : length c.push.new.self.items ≡ length c.loop-lines.lines.items + 1 = ap length more ∙ length-append c.loop-lines.lines.items _ in
    record {
      same = read-more c.loop-lines.lines.items c.loop-lines.test old _ c.loop-lines.invariant.same l left c.push.new.self.items c.tests_after-test.result
          (line-given c.in_ok-place.field-0 l old left c.in_ok-place.ensures.line c.in-Some.is) c.tests_after-test.ensures.after more;
      tests = omega arith;
    }

pub returns-clause-few : goal.returns-clause-few
returns-clause-few c =
    let cl = c.args.cluster.now in
    let k = option_map (λ k. k.now) c.args.coded in
    let limits = c.args.limits.now in
    let all : read cl k limits (source_data c.args.source) ≡ Ok c.loop-lines.lines.items = first_of (search rules, grind (arith, common_steps)) in
    lines-few cl k limits (source_data c.args.source) c.loop-lines.lines.items all
