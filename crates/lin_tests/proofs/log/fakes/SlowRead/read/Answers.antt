use Rattle.std.proofs.Common.{arith, List, ℕ, [], ◌∷◌, ◌++◌, ◌-◌, ◌≡◌, ◌<◌, ◌≤◌, length, take, drop, slice_set, slice_index_or, refl}
use Rattle.std.proofs.lemmas.Grind.{common_steps}
use Rattle.lin_tests.proofs.log.fakes.SlowRead.read.Goals as goal

slice-rest : (xs : List ℕ) (n : ℕ) → take (length xs - n) (drop n xs) ≡ drop n xs
slice-rest xs n = grind (arith, common_steps)

one-byte : (buf rest : List ℕ) → 0 < length buf → 1 ≤ length rest → rest ≡ take 1 (slice_set buf 0 (slice_index_or rest 0 0)) ++ drop 1 rest
one-byte [] rest h k = absurd (omega arith)
one-byte (b ∷ buf) [] h k = absurd (omega arith)
one-byte (b ∷ buf) (r ∷ rest) h k = refl

pub returns-in-len1-up-clause-bytes : goal.returns-in-len1-up-clause-bytes
returns-in-len1-up-clause-bytes c =
    let some : 0 < length c.args.buf.now = grind (arith, common_steps) in
    (rw slice-rest (one-byte c.args.buf.now c.args.self.now.rest.now some c.in-len1-up.len_at_least), λ e. absurd (cc e))
