use Rattle.std.proofs.Common.{◌≡◌, length, ◌-◌, ◌≤◌, false, take}
use Rattle.std.specs.List.{All}
use Rattle.lin_log.specs.Said.{is_gap}
use Rattle.lin_log.proofs.fields.word_length.Given as goal

abbrev pub invariant-loop-n : goal.invariant-loop-n
invariant-loop-n g l = record { within : l.n ≤ length l.line; clean : All (λ x. is_gap (g.N.Naming.language l.names).free x ≡ false) (take l.n l.line) }

abbrev pub decreases-loop-n : goal.decreases-loop-n
decreases-loop-n g l = length l.line - l.n
