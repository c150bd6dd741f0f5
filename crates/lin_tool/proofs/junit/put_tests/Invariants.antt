use Rattle.std.proofs.Common.{drop}
use Rattle.lin_tool.specs.Junit.{test_case_texts}
use Rattle.lin_tool.proofs.Remaining.{PutsUpTo}
use Rattle.lin_tool.proofs.junit.put_tests.Given as goal

abbrev pub invariant-loop-i : goal.invariant-loop-i
invariant-loop-i g l =
    PutsUpTo g.W.Write.contents l.initial.out l.out (test_case_texts l.file l.tests l.cases) (test_case_texts l.file (drop l.i l.tests) (drop l.i l.cases))
