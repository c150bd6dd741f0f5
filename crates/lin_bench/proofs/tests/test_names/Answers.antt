use Rattle.std.proofs.Common.{◌≡◌, ◌∙◌, ◌∷◌, ◌++◌, [], None, Some, ap, arith, option_map, subst, sym}
use Rattle.std.specs.List.{count_by}
use Rattle.std.specs.Str.{bytes_eq}
use Rattle.lin_bench.specs.declared.tests.TestName.{TestName}
use Rattle.lin_bench.specs.Tests.{AreNumbered, name_begun}
use Rattle.lin_bench.proofs.NumberedTests.{added-test, numbered-more, same-tests, test-more, test_after}
use Rattle.lin_bench.proofs.tests.test_names.Goals.{in-Some+in_ok-copied+in_ok-push, in_default}
use Rattle.lin_bench.proofs.tests.test_names.Goals as goal

pub loop-line-preserved : goal.loop-line-preserved
loop-line-preserved c =
    let ls = c.args.lines.now in
    let i = c.loop-line.line-index in
    let l = c.line-item.result in
    let ts = c.loop-line.names.items in
    let new = c.match-name_begun.names.items in
    elim c.match-name_begun.branch [
      | in-Some+in_ok-copied+in_ok-push w ↦
          let n = w.in-Some.name.now in
          let begun : name_begun l.1 ≡ Some n = sym c.name_begun.ensures ∙ ap (option_map (λ x. x.now)) w.in-Some.is in
          let named = w.count_named-before.ensures ∙ ap (λ us. count_by (λ (t : TestName). bytes_eq t.name n) us) w.as_slice.ensures.value in
          let more : new ≡ ts ++ test_after ts n ∷ [] = ap (λ v. v.items) w.names-is ∙ added-test ts _ n _ _ w.in_ok-push.ensures.items w.in_ok-copied.ensures.copy named in
          record {
            same = test-more ts new ls i l c.line-item.is (omega arith) c.loop-line.invariant.same n begun more;
            numbered = subst AreNumbered (sym more) (numbered-more ts n c.loop-line.invariant.numbered);
          }
      | in_default w ↦
          let none : name_begun l.1 ≡ None = sym c.name_begun.ensures ∙ ap (option_map (λ x. x.now)) w.in_default.is in
          let same : new ≡ ts = ap (λ v. v.items) w.names-is in
          record {
            same = same-tests ts new ls i l c.line-item.is (omega arith) c.loop-line.invariant.same none same;
            numbered = subst AreNumbered (sym same) c.loop-line.invariant.numbered;
          }
    ]
