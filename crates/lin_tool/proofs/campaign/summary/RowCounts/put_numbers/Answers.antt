use Rattle.std.proofs.Common.{subst, sym}
use Rattle.lin_text.proofs.Growing.{grows-more, same-growth}
use Rattle.lin_tool.specs.campaign.Summary.{AreCountsOf}
use Rattle.lin_tool.proofs.CampaignSums.{numbers-text}
use Rattle.lin_tool.proofs.campaign.summary.RowCounts.put_numbers.Goals as goal

pub returns : goal.returns
returns g c = λ js rows is faults.
    let put =
    grows-more c.put_text.ensures
    (grows-more c.put_number.ensures
    (grows-more c.put_text-2.ensures
    (grows-more c.put_number-2.ensures
    (grows-more c.put_text-3.ensures
    (grows-more c.put_number-3.ensures
    (grows-more c.put_text-4.ensures
    (grows-more c.put_number-4.ensures
    (grows-more c.put_text-5.ensures
    (grows-more c.put_number-5.ensures (grows-more c.put_text-6.ensures (grows-more c.put_worst.ensures c.put_byte.ensures))))))))))) in
    same-growth (numbers-text c.args.cluster.now js rows c.args.faults.now _ (subst (λ a. AreCountsOf js rows a) (sym c.self.view_is) is) faults) put
