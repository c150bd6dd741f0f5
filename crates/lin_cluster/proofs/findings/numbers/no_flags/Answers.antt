use Rattle.std.proofs.Common.{◌≡◌, ℕ, zero, suc, false, refl, get_or, replicate}
use Rattle.lin_cluster.proofs.findings.numbers.no_flags.Goals as goal

all_false : (n i : ℕ) → get_or (replicate n false) i false ≡ false
all_false zero i = refl
all_false (suc n) zero = refl
all_false (suc n) (suc i) = all_false n i

pub returns : goal.returns
returns c = all_false 1024
