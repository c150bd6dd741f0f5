use Rattle.std.proofs.Common.{◌≡◌, ◌+◌, ◌*◌, take}
use Rattle.std.specs.Prelude.{sum_by}
use Rattle.lin_frame.specs.Bits.{first_bit}
use Rattle.lin_export.proofs.cluster_lists.maps.free_bits.Given as goal

abbrev pub invariant-loop-place : goal.invariant-loop-place
invariant-loop-place l = l.free + (first_bit l.fn.layout + sum_by (λ p. p.size) (take l.place-index l.fn.layout.places)) ≡ 8 * l.fn.layout.len
