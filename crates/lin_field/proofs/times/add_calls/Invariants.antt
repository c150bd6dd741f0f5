use Rattle.std.proofs.Common.{◌≡◌, ◌++◌, map, take}
use Rattle.std.specs.Prelude.{filter, not}
use Rattle.lin_field.proofs.times.add_calls.Given as goal

abbrev pub invariant-loop-entry : goal.invariant-loop-entry
invariant-loop-entry l =
    map (λ c. c.entry.now) l.calls.items
    ≡ map (λ c. c.entry.now) l.fn.calls.items ++ filter (λ e. not e.has_group) (take l.entry-index l.entries)
