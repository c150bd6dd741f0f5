use Rattle.std.proofs.Common.{◌≡◌, true, arith, ℕ, sym, ◌∙◌}
use Rattle.std.proofs.lemmas.List.Elements.{All-more}
use Rattle.lin_bench.specs.RuleLines.{is_name_sign}
use Rattle.lin_bench.proofs.parameters.name_length.Goals as goal

pub loop-n-preserved : goal.loop-n-preserved
loop-n-preserved c = record {
  within = omega arith;
  clean = All-more (λ (x : ℕ). is_name_sign x ≡ true) c.args.text.now c.loop-n.n 0 (omega arith) c.loop-n.invariant.clean (sym c.is_name_sign.ensures ∙ c.if-is_name_sign.true);
}
