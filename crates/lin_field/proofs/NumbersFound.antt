-- Whether there is an item of a name, by the number of the first.
use Rattle.std.proofs.Common.{◌≡◌, sym, Bool, List, length}
use Rattle.std.specs.Prelude.{nat_lt}
use Rattle.std.specs.List.{list_any, position_or_len}
use Rattle.std.proofs.lemmas.Bool.{ltb_from_iff}
use Rattle.lin_cluster.proofs.NamesFound.{any-within, within-any}

pub any-numbered : {X : Type 0} (p : X → Bool) (xs : List X) → nat_lt (position_or_len p xs) (length xs) ≡ list_any p xs
any-numbered p xs = sym (ltb_from_iff (any-within p xs, within-any p xs))
