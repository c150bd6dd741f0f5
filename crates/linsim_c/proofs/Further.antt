-- What is left after all bytes of a list.
use Rattle.std.proofs.Common.{◌≡◌, ℕ, ◌≤◌, List, [], drop, length, sym}
use Rattle.std.proofs.Common.{drop_of_length-le}

pub none_further : (bytes : List ℕ) → (from : ℕ) → length bytes ≤ from → [] ≡ drop from bytes
none_further bytes from all = sym (drop_of_length-le bytes all)
