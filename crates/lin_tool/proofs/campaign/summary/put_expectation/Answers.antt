use Rattle.std.proofs.Common.{◌∙◌, ◌++◌, [], Option, ap, sym}
use Rattle.std.specs.Prelude.{codes}
use Rattle.std.specs.Option.{option_map_or}
use Rattle.lin_log.specs.Words.{spaced_word}
use Rattle.lin_bench.specs.Texts.{what_text}
use Rattle.lin_bench.specs.declared.got.Judgement.{Judgement}
use Rattle.lin_text.proofs.Growing.{grows-nothing, same-growth}
use Rattle.lin_tool.proofs.CampaignCounts.{none-at}
use Rattle.lin_tool.proofs.campaign.summary.put_expectation.Goals as goal

pub returns-in-None : goal.returns-in-None
returns-in-None g c = λ n is.
    same-growth (ap (λ (o : Option Judgement). option_map_or (λ (j : Judgement). codes ":" ++ spaced_word (what_text c.args.cluster.now j.judged)) o []) (sym (none-at n c.args.judgements.now (sym c.in-None.is ∙ is)))) (grows-nothing c.args.out.now)

pub returns-in-Some : goal.returns-in-Some
returns-in-Some g c = λ n is. c.put_expectation_at.ensures n (sym c.in-Some.is ∙ is)
