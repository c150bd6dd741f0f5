use Rattle.std.proofs.Common.{◌≡◌, ◌≢◌, length, refl, ℕ, List, [], ◌∷◌}
use Rattle.lin_parts.specs.declared.parts.Parts.{Parts}
use Rattle.lin_bench.specs.Expectations.{cycle_form, cycle_within_form}
use Rattle.lin_bench.specs.Parts.{fields_of}
use Rattle.lin_bench.proofs.expectations.cycle.Goals as goal

not-three : (c : Parts) (all fs : List (List ℕ)) → length fs ≢ 3 → cycle_form c all fs ≡ cycle_within_form c all fs
not-three c all [] n = refl
not-three c all (a ∷ []) n = refl
not-three c all (a ∷ b ∷ []) n = refl
not-three c all (a ∷ b ∷ d ∷ []) n = absurd (n refl)
not-three c all (a ∷ b ∷ d ∷ e ∷ fs) n = refl

pub returns-in_default : goal.returns-in_default
returns-in_default c = rw (not-three c.args.cluster.now (fields_of c.args.all) (fields_of c.args.parts) c.in_default.ensures) c.cycle_within.ensures
