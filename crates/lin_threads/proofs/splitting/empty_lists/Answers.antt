use Rattle.std.proofs.Common.{◌≡◌, [], arith, subst, sym}
use Rattle.std.proofs.lemmas.Grind.{common_steps}
use Rattle.lin_threads.specs.Splitting.{list_at}
use Rattle.lin_threads.proofs.SplitLemmas.{empty-more}
use Rattle.lin_threads.proofs.splitting.empty_lists.Goals as goal

pub loop-preserved : goal.loop-preserved
loop-preserved c = record {
  count = grind (arith, common_steps);
  len = grind (arith, common_steps);
  room = grind (arith, common_steps);
  empty = λ host. subst (λ l. list_at host l ≡ []) (sym c.push_reserved.ensures.items) (empty-more c.loop.lists.items c.new.result c.loop.invariant.empty c.new.ensures.items host);
}
