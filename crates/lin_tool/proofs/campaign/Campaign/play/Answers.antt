use Rattle.std.proofs.Common.{Global, List, Vec, subst}
use Rattle.std.proofs.lemmas.Result.{err_from_is_err_and}
use Rattle.lin_bench.specs.Files.{source_data}
use Rattle.lin_bench.specs.declared.line.ScriptLine.{ScriptLine}
use Rattle.lin_bench.specs.declared.place.LinePlace.{LinePlace}
use Rattle.lin_bench.specs.Read.{ReadsBenchScript}
use Rattle.lin_bench.specs.Scripts.{read}
use Rattle.lin_export.specs.WhereTold.{given_coding}
use Rattle.lin_tool.specs.campaign.Played.{IsUnfinished}
use Rattle.lin_tool.proofs.CampaignScripts.{judged-cluster, judged-row, same-ok}
use Rattle.lin_tool.proofs.campaign.Campaign.play.Goals as goal

pub returns-clause-plays : goal.returns-clause-plays
returns-clause-plays c = λ ls says.
    let said = subst (λ r. ReadsBenchScript (λ (v : Vec (LinePlace × ScriptLine) Global). v.items) r (read c.args.cluster (given_coding c.args.self.now.coded) c.args.self.now.limits.now (source_data c.args.self.now.source))) c.in-Ok.is c.read.ensures.said in
    let same = same-ok (read c.args.cluster (given_coding c.args.self.now.coded) c.args.self.now.limits.now (source_data c.args.self.now.source)) c.in-Ok.lines.items ls said says in
    judged-row c.args.self.now c.args.cluster c.args.faults.now c.in-Ok.lines.items ls c.in_ok-played.played c.judged.result same c.in_ok-played.ensures.plays c.judged.ensures.row c.judged.ensures.fails

pub returns-in_err-played-clause-plays : goal.returns-in_err-played-clause-plays
returns-in_err-played-clause-plays c = λ ls says.
    let on = c.args.self.now in
    let said = subst (λ r. ReadsBenchScript (λ (v : Vec (LinePlace × ScriptLine) Global). v.items) r (read c.args.cluster (given_coding on.coded) on.limits.now (source_data on.source))) c.in-Ok.is c.read.ensures.said in
    let same = same-ok (read c.args.cluster (given_coding on.coded) on.limits.now (source_data on.source)) c.in-Ok.lines.items ls said says in
    let p = err_from_is_err_and c.from_residual.result c.from_residual.ensures.1 in
    rw (p.1, p.2)
    (subst (λ (l : List (LinePlace × ScriptLine)). IsUnfinished on c.args.cluster c.args.faults.now l c.in_err-played.field-0.0) same c.in_err-played.ensures.fails)

pub returns-clause-same : goal.returns-clause-same
returns-clause-same c =
    judged-cluster (given_coding c.args.self.now.coded) c.args.cluster c.in_ok-played.played c.judged.result c.in_ok-played.ensures.plays.cluster c.judged.ensures.row
