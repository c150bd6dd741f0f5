use Rattle.std.proofs.Common.{◌≡◌, ◌∙◌, ◌∷◌, ap, subst}
use Rattle.lin_bench.specs.Replacing.{pieces_left}
use Rattle.lin_bench.proofs.AddedTexts.{bounded}
use Rattle.lin_bench.proofs.ReplacedFields.{AreAdded, first-added, piece-added}
use Rattle.lin_bench.proofs.parameters.Parameters.add_field.Goals as goal

pub loop-left-init : goal.loop-left-init
loop-left-init c = record {
  added = first-added c.args.self.now.given.now c.args.self.now.sets.now c.args.field.now c.first_piece.result.0.now c.args.line.now.items c.add_text.new.line.items
      c.first_piece.result.1 c.first_piece.ensures.pieces c.in_ok-add_text.ensures;
  short = rw c.in_ok-add_text.ensures (bounded 65537 _);
}

pub loop-left-preserved : goal.loop-left-preserved
loop-left-preserved c =
    let given = c.args.self.now.given.now in
    let sets = c.args.self.now.sets.now in
    let field = c.args.field.now in
    let old = c.args.line.now.items in
    let now = c.loop-left.line.items in
    let piece = c.first_piece-in-Some.result.0.now in
    let next : pieces_left c.loop-left.left ≡ piece ∷ pieces_left c.first_piece-in-Some.result.1 = ap pieces_left c.in-Some.is ∙ c.first_piece-in-Some.ensures.pieces in
    record {
      added = piece-added given sets field old now c.add_piece.new.line.items piece (pieces_left c.first_piece-in-Some.result.1)
          (subst (AreAdded given sets field old now) next c.loop-left.invariant.added) c.in_ok-add_piece.ensures;
      short = rw c.in_ok-add_piece.ensures.2 (bounded 65537 _);
    }
