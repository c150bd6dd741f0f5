use Rattle.std.proofs.Common.{◌≡◌, ◌^◌}
use Rattle.lin_export.proofs.short_text.ten_to.Given as goal

abbrev pub invariant-loop-i : goal.invariant-loop-i
invariant-loop-i l = l.power ≡ 10 ^ l._i
