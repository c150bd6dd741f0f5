use Rattle.std.proofs.Common.{◌≡◌, ◌==◌, ◌+◌, ◌<◌, subst, ◌∙◌, sym, ap, arith, ℕ, take, length, false, ◌∷◌, List}
use Rattle.std.specs.List.{All, slice_split}
use Rattle.std.proofs.lemmas.Grind.{common_steps}
use Rattle.lin_bench.proofs.Pieces.{pieces-cut, pieces-one, slice-rest}
use Rattle.lin_bench.proofs.parameters.first_piece.Goals as goal

pub returns-then-end-text-clause-pieces : goal.returns-then-end-text-clause-pieces
returns-then-end-text-clause-pieces c =
    let s = c.args.text.now in
    let e : take c.piece_length-end.result s ≡ s = grind (arith, common_steps) in
    let P : List ℕ → Type 0 = λ l. All (λ x. (x == 36) ≡ false) l in
    pieces-one s (subst P e c.piece_length-end.ensures.clean)

pub returns-clause-pieces : goal.returns-clause-pieces
returns-clause-pieces c =
    let s = c.args.text.now in
    let n = c.piece_length-end.result in
    let lt : n < length s = omega arith in
    pieces-cut s n lt c.piece_length-end.ensures.clean (c.piece_length-end.ensures.ends lt)
    ∙ ap (λ l. take n s ∷ slice_split (λ b. b == 36) l) (sym (slice-rest s (n + 1)))
