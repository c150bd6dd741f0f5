use Rattle.std.proofs.Common.{◌<◌, length}
use Rattle.lin_export.proofs.Maps.{size-left}
use Rattle.lin_export.proofs.cluster_lists.maps.free_bits.Goals as goal

pub overflow_sub-free-in-loop-place : goal.overflow_sub-free-in-loop-place
overflow_sub-free-in-loop-place c =
    let below : c.loop-place.place-index < length c.args.layout.now.places = rw c.as_slice-place-items.ensures at c.loop-place-test.true in
    let size = rw c.as_slice-place-items.ensures at c.from-free.ensures in
    rw size (size-left c.args.layout.now c.requires c.loop-place.place-index c.loop-place.free below c.loop-place.invariant).enough

pub loop-place-preserved : goal.loop-place-preserved
loop-place-preserved c =
    let below : c.loop-place.place-index < length c.args.layout.now.places = rw c.as_slice-place-items.ensures at c.loop-place-test.true in
    let size = rw c.as_slice-place-items.ensures at c.from-free.ensures in
    rw size (size-left c.args.layout.now c.requires c.loop-place.place-index c.loop-place.free below c.loop-place.invariant).rest
