use Rattle.std.proofs.Common.{◌∷◌, ◌++◌, [], ap}
use Rattle.std.specs.Fmt.{decimal}
use Rattle.lin_text.proofs.Growing.{grows-more, same-growth}
use Rattle.lin_tool.specs.campaign.Csv.{place_cells, verdict_cells}
use Rattle.lin_tool.specs.campaign.FaultNames.{faults_text}
use Rattle.lin_tool.proofs.CampaignTexts.{members-parts}
use Rattle.lin_tool.proofs.campaign.csv_rows.put_line.Goals as goal

pub returns : goal.returns
returns g c =
    let x = c.args.cluster.now in
    let r = c.args.shown.now.row.now in
    same-growth
    (ap (λ l. decimal c.args.shown.now.number ++ l)
    (members-parts (faults_text x c.args.shown.now.faults.now ∷ place_cells x c.args.shown.now.single) (decimal r.missed ∷ verdict_cells x r r.verdict) (10 ∷ [])))
    (grows-more c.put_number.ensures
    (grows-more (grows-more (grows-more c.put_byte.ensures c.put_faults.ensures) c.put_place.ensures)
    (grows-more (grows-more c.put_numbered.ensures c.put_verdict.ensures) c.put_byte-2.ensures)))
