use Rattle.std.proofs.Common.{◌+◌, arith}
use Rattle.std.proofs.lemmas.List.Sums.{count_by-le-length}
use Rattle.lin_tool.specs.Junit.{has_failed, is_failed_untested, is_untested}
use Rattle.lin_tool.proofs.junit.put_play_head.Goals as goal

pub overflow_add-count : goal.overflow_add-count
overflow_add-count g c = omega (arith, c.untested.ensures, count_by-le-length is_untested c.args.judgements.now)

pub overflow_add-failed : goal.overflow_add-failed
overflow_add-failed g c =
    omega (arith, c.failed_untested.ensures, c.failed_tests.ensures, count_by-le-length is_failed_untested c.args.judgements.now, count_by-le-length has_failed c.args.cases.now)
