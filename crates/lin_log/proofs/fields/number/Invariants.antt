use Rattle.std.proofs.Common.{◌≡◌, ◌^◌, ◌<◌, drop, length, ◌≤◌}
use Rattle.lin_log.specs.Said.{number_after}
use Rattle.lin_log.proofs.fields.number.Given as goal

abbrev pub invariant-loop-c : goal.invariant-loop-c
invariant-loop-c l = record { left : number_after l.n (drop l.c-index l.word) ≡ number_after 0 l.word; bound : l.n < 10 ^ l.c-index; few : length l.word ≤ 10 }
