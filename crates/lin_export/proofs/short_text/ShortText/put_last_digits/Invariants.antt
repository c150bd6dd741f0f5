use Rattle.std.proofs.Common.{◌≡◌, ◌^◌, ◌<◌, ◌≤◌, ◌++◌, ℕ, List}
use Rattle.lin_values.specs.Shown.{last_digits}
use Rattle.lin_export.specs.ShortTexts.{AddsText}
use Rattle.lin_export.proofs.short_text.ShortText.put_last_digits.Given as goal

abbrev pub invariant-loop-left : goal.invariant-loop-left
invariant-loop-left l = record {
  put : (some : List ℕ) × AddsText l.initial.self l.self some × (last_digits l.count l.number ≡ some ++ last_digits l.left l.rest);
  few : l.left ≤ 24;
  fits : l.rest < 10 ^ l.left;
}

abbrev pub decreases-loop-left : goal.decreases-loop-left
decreases-loop-left l = l.left
