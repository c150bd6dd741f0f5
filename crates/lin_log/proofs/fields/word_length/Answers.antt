use Rattle.std.proofs.Common.{◌≡◌, false, arith, ℕ, sym, ◌∙◌}
use Rattle.std.proofs.lemmas.List.Elements.{All-more}
use Rattle.lin_log.specs.Said.{is_gap}
use Rattle.lin_log.proofs.fields.word_length.Goals as goal

pub loop-n-preserved : goal.loop-n-preserved
loop-n-preserved g c = record {
  within = omega arith;
  clean = All-more (λ (x : ℕ). is_gap (g.N.Naming.language c.args.names.now).free x ≡ false) c.args.line.now c.loop-n.n 0 (omega arith) c.loop-n.invariant.clean (sym c.is_gap.ensures ∙ c.if-not-is_gap.true);
}
