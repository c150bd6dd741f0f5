use Rattle.std.proofs.Common.{◌≡◌, ◌++◌, take, map}
use Rattle.lin_field.proofs.plain.table_names.add_names.Given as goal

abbrev pub invariant-loop-declared : goal.invariant-loop-declared
invariant-loop-declared g l =
    map (λ n. n.now) l.names.items
    ≡ map (λ n. n.now) l.fn.names.items
    ++ map (λ x. (g.T.Named.name_of x).text) (take l.declared-index l.all)
