use Rattle.std.proofs.Common.{◌≡◌, ◌-◌, length, map}
use Rattle.lin_field.specs.Plain.{free_from}
use Rattle.lin_field.proofs.plain.table_names.free.Given as goal

abbrev pub invariant-loop : goal.invariant-loop
invariant-loop l =
    free_from (length l.declared - l.counter) (map (λ n. n.now) l.declared) l.text.items
    ≡ free_from (length l.declared) (map (λ n. n.now) l.declared) l.initial.text.items
