use Rattle.lin_frame.proofs.PackedBits.{packing_undoes_unpacking, unpacking_undoes_packing}
use Rattle.lin_frame.proofs.inverse.packing_is_inverse.Goals as goal

pub returns : goal.returns
returns c = record {
  unpacked_again = unpacking_undoes_packing;
  packed_again = packing_undoes_unpacking;
}
