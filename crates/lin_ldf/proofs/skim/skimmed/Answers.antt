use Rattle.std.proofs.Common.{◌≡◌, ℕ, ◌+◌, ◌-◌, ◌<◌, length, drop, ap, subst, ◌∙◌, arith}
use Rattle.std.proofs.lemmas.List.{drop-drop}
use Rattle.lin_ldf.specs.Skimming.{SkipsPiece, Skims}
use Rattle.lin_ldf.specs.declared.lexer.Scanned.{Scanned}
use Rattle.lin_ldf.proofs.Skimming.{passes_within, skims_more}
use Rattle.lin_ldf.proofs.skim.skimmed.Goals as goal

pub loop-end-preserved : goal.loop-end-preserved
loop-end-preserved c =
    let text = c.args.text.now in
    let rest = c.loop-end.rest.now in
    let size = c.in-Some.size in
    let before = length text - length rest in
    let within = passes_within c.args.end c.loop-end.open size c.in-Some.now (length rest) c.front_piece.result c.in-Some.ensures.passes c.front_piece.ensures.within in
    let passes = subst (λ (s : Scanned). SkipsPiece c.args.end c.loop-end.open s size c.in-Some.now) c.front_piece.ensures.value c.in-Some.ensures.passes in
    let some : 0 < length rest = omega arith in
    let moved : before + size ≡ length text - length c.split_at.result.1.now = omega (arith, within.1, c.loop-end.invariant.short, c.split_at.ensures.back_len) in
    record {
      skims = subst (λ (k : ℕ). Skims c.args.end c.args.depth text k c.in-Some.now) moved
          (skims_more c.args.end c.args.depth c.loop-end.open c.in-Some.now before size text rest c.loop-end.invariant.skims c.loop-end.invariant.rest some within.0 passes c.in-Some.ensures.one_more);
      rest = c.split_at.ensures.back ∙ ap (drop size) c.loop-end.invariant.rest ∙ drop-drop size before text ∙ ap (λ (k : ℕ). drop k text) moved;
      short = omega (arith, within.1, c.loop-end.invariant.short, c.split_at.ensures.back_len);
      few = omega (arith, within, c.loop-end.invariant.few, c.in-Some.ensures.one_more, c.split_at.ensures.back_len);
    }
