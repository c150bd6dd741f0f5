use Rattle.std.proofs.Common.{◌≡◌, take}
use Rattle.lin_log.proofs.fields.is_word.Given as goal

abbrev pub invariant-loop-at : goal.invariant-loop-at
invariant-loop-at l = take l.at l.field ≡ take l.at l.word
