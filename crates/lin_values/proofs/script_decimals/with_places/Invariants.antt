use Rattle.std.proofs.Common.{◌≡◌, ◌^◌, ◌≤◌, ◌+◌, drop}
use Rattle.lin_values.specs.Read.{places_after}
use Rattle.lin_values.proofs.script_decimals.with_places.Given as goal

abbrev pub invariant-loop-c : goal.invariant-loop-c
invariant-loop-c l =
    record { same : places_after l.n l.left (drop l.c-index l.text) ≡ places_after l.units 24 l.text; fits : l.n + 10 ^ l.left ≤ 10 ^ 38; few : l.left ≤ 24 }
