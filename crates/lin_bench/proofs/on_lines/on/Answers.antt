use Rattle.std.proofs.Common.{◌≡◌, ◌∙◌, ℕ, List, Option, Some, None, ap, subst, take}
use Rattle.std.specs.Prelude.{codes, position}
use Rattle.std.specs.Str.{bytes_eq}
use Rattle.lin_parts.specs.declared.parts.Parts.{Parts}
use Rattle.lin_bench.specs.Fields.{line_fields}
use Rattle.lin_bench.specs.OnLines.{is_do, on_by, on_do, on_end, on_form}
use Rattle.lin_bench.specs.Parts.{fields_of}
use Rattle.lin_bench.specs.Read.{Gives}
use Rattle.lin_bench.proofs.on_lines.on.Goals as goal

by-do : (c : Parts) (fs line : List (List ℕ)) (word : List ℕ) (end : Option ℕ) → fs ≡ line → word ≡ codes "do" → end ≡ position (λ f. bytes_eq f word) fs
    → on_by c line end ≡ on_form c line
unfolding on_form
by-do c fs line word end texts same e = ap (on_by c line) (e ∙ ap (λ w. position (λ f. bytes_eq f w) fs) same ∙ ap (position is_do) texts)

pub returns-in-Some : goal.returns-in-Some
returns-in-Some c =
    let cluster = c.args.cluster.now in
    let line = line_fields c.args.line.now in
    subst (Gives (λ r. r) c.on_do.result)
    (ap (λ form. on_do cluster form line) (c.take.ensures ∙ ap (take c.in-Some.end) c.of-all.ensures)
    ∙ by-do cluster (fields_of c.of-all.result) line c.as_slice.result.now (Some c.in-Some.end) c.of-all.ensures c.as_slice.ensures c.in-Some.ensures.first)
    c.on_do.ensures

pub returns-in-None : goal.returns-in-None
returns-in-None c =
    let cluster = c.args.cluster.now in
    let line = line_fields c.args.line.now in
    subst (Gives (λ r. r) c.on_end.result)
    (ap (on_end cluster) c.of-all.ensures
    ∙ by-do cluster (fields_of c.of-all.result) line c.as_slice.result.now None c.of-all.ensures c.as_slice.ensures c.in-None.ensures.first)
    c.on_end.ensures
