use Rattle.std.proofs.Common.{◌≡◌, ◌∙◌, ◌+◌, ap, arith, drop, false, sym, true}
use Rattle.std.specs.Prelude.{not}
use Rattle.std.proofs.lemmas.List.{drop_all}
use Rattle.lin_bench.specs.Made.{expects}
use Rattle.lin_bench.specs.Strict.{begins_test, expects_something, lines_of_test}
use Rattle.lin_bench.proofs.QuietTests.{line-at, test-expects, test-goes-on, test-over}
use Rattle.lin_bench.proofs.strict.is_quiet.Goals as goal

pub returns-then-begins_test : goal.returns-then-begins_test
returns-then-begins_test c =
    let ls = c.args.lines.now in
    let i = c.loop-line.line-index in
    let l = c.line-item.result in
    let here = line-at ls i l c.line-item.is (omega arith) in
    sym (ap not (sym c.loop-line.invariant ∙ ap (λ x. expects_something (lines_of_test x)) here ∙ test-over l (drop (i + 1) ls) (sym c.begins_test.ensures ∙ c.if-begins_test.true)))

pub returns-then-expects : goal.returns-then-expects
returns-then-expects c =
    let ls = c.args.lines.now in
    let i = c.loop-line.line-index in
    let l = c.line-item.result in
    let here = line-at ls i l c.line-item.is (omega arith) in
    sym (ap not (sym c.loop-line.invariant ∙ ap (λ x. expects_something (lines_of_test x)) here
    ∙ test-expects l (drop (i + 1) ls) (sym c.begins_test.ensures ∙ c.if-begins_test.false) (sym c.expects.ensures ∙ c.if-expects.true)))

pub loop-line-preserved : goal.loop-line-preserved
loop-line-preserved c =
    let ls = c.args.lines.now in
    let i = c.loop-line.line-index in
    let l = c.line-item.result in
    let here = line-at ls i l c.line-item.is (omega arith) in
    sym (test-goes-on l (drop (i + 1) ls) (sym c.begins_test.ensures ∙ c.if-begins_test.false) (sym c.expects.ensures ∙ c.if-expects.false))
    ∙ sym (ap (λ x. expects_something (lines_of_test x)) here) ∙ c.loop-line.invariant

pub returns : goal.returns
returns c = sym (ap not (sym c.loop-line.invariant ∙ ap (λ x. expects_something (lines_of_test x)) (drop_all c.loop-line.line-index c.args.lines.now (omega arith))))
