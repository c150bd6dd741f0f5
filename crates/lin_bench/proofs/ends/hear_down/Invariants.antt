use Rattle.std.proofs.Common.{◌≡◌, ◌<◌, nat_lt, cond, ℕ, slice_index}
use Rattle.std.specs.Prelude.{false, true}
use Rattle.std.specs.Option.{option_map_or}
use Rattle.lin_parts.specs.Cluster.{nad, nodes}
use Rattle.lin_transport.specs.Transport.{looks_at}
use Rattle.lin_bench.proofs.ends.hear_down.Given as goal

abbrev pub invariant-loop-node : goal.invariant-loop-node
invariant-loop-node l =
    (n : ℕ) → n < nodes l.cluster
    → slice_index l.downs n
    ≡ cond (nat_lt n l.node) (cond (option_map_or (λ k. looks_at (record { nad = k; all = true }) l.address) (nad l.cluster n) false) l.time (slice_index l.fn.downs n)) (slice_index l.fn.downs n)
