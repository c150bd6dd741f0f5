use Rattle.std.proofs.Common.{◌++◌, [], Option, ap, arith, sym}
use Rattle.std.specs.Prelude.{codes}
use Rattle.std.specs.Option.{option_map_or}
use Rattle.lin_log.specs.Words.{spaced_word}
use Rattle.lin_bench.specs.Texts.{what_text}
use Rattle.lin_bench.specs.declared.got.Judgement.{Judgement}
use Rattle.lin_text.proofs.Growing.{grows-more, same-growth}
use Rattle.lin_tool.proofs.CampaignCounts.{found-at, place-within}
use Rattle.lin_tool.proofs.campaign.summary.put_expectation_at.Goals as goal

pub returns-then-place-judgements : goal.returns-then-place-judgements
returns-then-place-judgements g c = λ n is.
    let j = c.index-judgements-place.result in
    let found = (found-at n c.args.place c.args.judgements.now j is).1 in
    same-growth (ap (λ (o : Option Judgement). option_map_or (λ (j : Judgement). codes ":" ++ spaced_word (what_text c.args.cluster.now j.judged)) o []) (sym found)) (grows-more c.put_byte.ensures c.put_what.ensures)

pub returns-else-place-judgements : goal.returns-else-place-judgements
returns-else-place-judgements g c = λ n is. let there = place-within n c.args.place c.args.judgements.now is in absurd (omega (arith, there))
