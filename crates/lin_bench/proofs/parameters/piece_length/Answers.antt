use Rattle.std.proofs.Common.{◌≡◌, ◌==◌, false, arith, ℕ}
use Rattle.std.proofs.lemmas.Grind.{common_steps}
use Rattle.std.proofs.lemmas.List.Elements.{All-more}
use Rattle.lin_bench.proofs.parameters.piece_length.Goals as goal

pub loop-n-preserved : goal.loop-n-preserved
loop-n-preserved c = record {
  within = omega arith;
  clean = All-more (λ (x : ℕ). (x == 36) ≡ false) c.args.text.now c.loop-n.n 0 (omega arith) c.loop-n.invariant.clean (grind (arith, common_steps));
}
