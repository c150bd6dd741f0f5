use Rattle.std.proofs.Common.{◌∙◌, ap}
use Rattle.std.specs.Prelude.{slice_index}
use Rattle.lin_core.specs.Core.{past_of}
use Rattle.lin_bench.specs.Verdicts.{is_earlier, times_taken}
use Rattle.lin_bench.specs.declared.taken.EventKind.TheVariants.{Messages}
use Rattle.lin_bench.proofs.verdicts.time_taken.Goals as goal

pub returns : goal.returns
returns c =
    let core = c.args.core.now in
    let answer = Messages c.args.from c.args.to in
    (rw (c.cluster.ensures, c.log.ensures.entries, c.last_end-place.ensures) at c.time_taken.ensures)
    ∙ ap (slice_index (times_taken core.cluster (is_earlier c.args.since c.args.from c.args.to) answer (past_of core))) (c.requires.taken answer)
