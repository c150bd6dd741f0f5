use Rattle.std.proofs.Common.{◌≡◌, ◌==◌, ◌+◌, ◌<◌, subst, ◌∙◌, sym, ap, arith, ℕ, take, length, false, ◌∷◌, List}
use Rattle.std.specs.List.{All, slice_split}
use Rattle.std.proofs.lemmas.Grind.{common_steps}
use Rattle.lin_log.proofs.Lines.{lines-one, lines-cut, slice-rest}
use Rattle.lin_log.proofs.script.first_line.Goals as goal

pub returns-then-end-text-clause-lines : goal.returns-then-end-text-clause-lines
returns-then-end-text-clause-lines c =
    let s = c.args.text.now in
    let e : take c.line_length-end.result s ≡ s = grind (arith, common_steps) in
    let P : List ℕ → Type 0 = λ l. All (λ x. (x == 10) ≡ false) l in
    lines-one s (subst P e c.line_length-end.ensures.clean)

pub returns-clause-lines : goal.returns-clause-lines
returns-clause-lines c =
    let s = c.args.text.now in
    let n = c.line_length-end.result in
    let lt : n < length s = omega arith in
    lines-cut s n lt c.line_length-end.ensures.clean (c.line_length-end.ensures.ends lt)
    ∙ ap (λ l. take n s ∷ slice_split (λ b. b == 10) l) (sym (slice-rest s (n + 1)))
