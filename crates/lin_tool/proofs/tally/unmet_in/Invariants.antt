use Rattle.std.proofs.Common.{◌≡◌, ◌≤◌, take}
use Rattle.std.specs.List.{count_by}
use Rattle.lin_bench.specs.Played.{is_unmet}
use Rattle.lin_bench.specs.declared.got.Judgement.{Judgement}
use Rattle.lin_tool.proofs.tally.unmet_in.Given as goal

abbrev pub invariant-loop-one : goal.invariant-loop-one
invariant-loop-one l = record {
  count : l.count ≡ count_by (λ (j : Judgement). is_unmet j.judged) (take l.one-index l.judgements);
  few : l.count ≤ l.one-index;
}
