use Rattle.std.proofs.Common.{◌≡◌, ◌+◌, ◌*◌, ◌^◌, ◌<◌, drop}
use Rattle.lin_bench.specs.Rules.{all_noted, noted_answers}
use Rattle.lin_bench.proofs.answers.note_answers.Given as goal

abbrev pub invariant-loop-answer : goal.invariant-loop-answer
invariant-loop-answer l = record {
  bound : l.at < 2 ^ 64 + l.answer-index * 2 ^ 42;
  same : all_noted l.fn.noted (noted_answers l.time l.node l.message l.answers) ≡ all_noted l.noted (noted_answers l.at l.node l.message (drop l.answer-index l.answers));
}
