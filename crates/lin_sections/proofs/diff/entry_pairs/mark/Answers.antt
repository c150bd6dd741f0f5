use Rattle.std.proofs.Common.{◌≡◌, ◌∙◌, ◌<◌, ◌&&◌, ◌||◌, Bool, true, length, map, set, ap, arith, sym}
use Rattle.std.specs.Prelude.{◌==◌}
use Rattle.std.specs.List.{range_with_len}
use Rattle.std.proofs.lemmas.List.FromFn.{length-range_with_len}
use Rattle.lin_sections.proofs.Found.{mapped-length}
use Rattle.lin_sections.proofs.Marked.{flag-set, marked-past, not-marked}
use Rattle.lin_sections.proofs.diff.entry_pairs.mark.Goals as goal

pub returns-then-not-is_moved : goal.returns-then-not-is_moved
returns-then-not-is_moved c = λ f count old.
    old ∙ not-marked f count c.args.place
    ∙ ap (λ (b : Bool). map (λ p. f p || (b && c.args.place == p)) (range_with_len 0 count)) (sym c.if-not-is_moved.true)

pub returns-then-len-place : goal.returns-then-len-place
returns-then-len-place c = λ f count old.
    let size : length c.args.flags.now.items ≡ count = ap length old ∙ mapped-length f (range_with_len 0 count) ∙ length-range_with_len 0 count in
    old ∙ marked-past f c.args.is_moved count c.args.place (omega arith)

pub returns : goal.returns
returns c = λ f count old.
    let size : length c.args.flags.now.items ≡ count = ap length old ∙ mapped-length f (range_with_len 0 count) ∙ length-range_with_len 0 count in
    let within : c.args.place < count = omega arith in
    ap (λ flags. set flags c.args.place true) old ∙ flag-set f count c.args.place within
    ∙ ap (λ (b : Bool). map (λ p. f p || (b && c.args.place == p)) (range_with_len 0 count)) (sym c.if-not-is_moved.false)
