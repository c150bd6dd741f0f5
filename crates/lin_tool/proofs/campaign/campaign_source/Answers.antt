use Rattle.std.proofs.Common.{◌∙◌, Global, Vec, ap, refl, rules, subst, sym}
use Rattle.lin_export.specs.WhereTold.{given_coding}
use Rattle.lin_bench.specs.Played.{some_unmet}
use Rattle.lin_bench.specs.Files.{source_data}
use Rattle.lin_bench.specs.Scripts.{read}
use Rattle.lin_bench.specs.declared.line.ScriptLine.{ScriptLine}
use Rattle.lin_bench.specs.declared.place.LinePlace.{LinePlace}
use Rattle.lin_tool.specs.Opening.{room_for}
use Rattle.lin_tool.specs.Playing.{ReportsJudgements, play_fails, unmet_with_counts}
use Rattle.lin_tool.specs.declared.campaign.Campaign.{Campaign}
use Rattle.lin_tool.proofs.CampaignScripts.{IsCampaign, begun, campaign-unmet, campaign-unplayable, campaign-unread, campaign-unused, campaign-written, same-cluster}
use Rattle.lin_tool.proofs.campaign.campaign_source.Goals as goal

pub returns-in_err-lines : goal.returns-in_err-lines
returns-in_err-lines g c =
    let opened = c.args.planned.opened in
    let how = opened.settings in
    let fails = campaign-unread (λ (v : Vec (LinePlace × ScriptLine) Global). v.items) c.args.planned.plan.now opened.coded opened.limits (source_data c.args.source) how.file c.args.notes.now.wanted.script how.is_strict opened.cluster opened.table (room_for how.capacity)
    c.in_err-lines.field-0.0 (g.W.Write.contents c.args.writer.now) _ _ c.in_err-lines.ensures.lines in
    search rules

pub returns-in_err-check_used : goal.returns-in_err-check_used
returns-in_err-check_used g c =
    let opened = c.args.planned.opened in
    let how = opened.settings in
    let fails = campaign-unused c.args.planned.plan.now opened.coded opened.limits (source_data c.args.source) how.file c.args.notes.now.wanted.script how.is_strict opened.cluster opened.table (room_for how.capacity)
    c.in_err-check_used.field-0.0 (g.W.Write.contents c.args.writer.now) _ _ _ c.in_ok-lines.ensures.lines.0 c.in_err-check_used.ensures c.in_ok-lines.ensures.lines.1 in
    search rules

pub returns-in_err-calm : goal.returns-in_err-calm
returns-in_err-calm g c =
    let opened = c.args.planned.opened in
    let how = opened.settings in
    let named = c.args.notes.now.wanted.script in
    let old = g.W.Write.contents c.args.writer.now in
    let said = c.in_ok-lines.ensures.lines.0 in
    let on : Campaign = record {
      alloc = c.args.alloc;
      source = c.args.source;
      script = c.name_or-name.result;
      file = c.name_or-file.result;
      coded = c.as_ref.result;
      limits = c.as_slice.result;
      table = opened.table;
      capacity = c.within_limits.result;
      is_strict = how.is_strict;
      format = c.args.planned.plan.now.format;
    } in
    let is : IsCampaign on opened.coded opened.limits (source_data c.args.source) how.file named how.is_strict opened.table (room_for how.capacity) = record {
      coded = c.as_ref.ensures.value;
      script = c.name_or-name.ensures;
      file = c.name_or-file.ensures;
      strictly = refl;
      table = refl;
      room = c.within_limits.ensures.value;
      files = refl;
      text = refl;
    } in
    let fails =
    campaign-unplayable c.args.planned.plan.now opened.coded opened.limits (source_data c.args.source) how.file named on how.is_strict opened.cluster opened.table (room_for how.capacity) c.in_err-calm.field-0.0
    old _ _ c.in_ok-lines.lines.items is said c.in_err-calm.ensures c.in_ok-lines.ensures.lines.1 in
    search rules

pub returns-then-some_unmet : goal.returns-then-some_unmet
returns-then-some_unmet g c =
    let opened = c.args.planned.opened in
    let how = opened.settings in
    let named = c.args.notes.now.wanted.script in
    let old = g.W.Write.contents c.args.writer.now in
    let said = c.in_ok-lines.ensures.lines.0 in
    let on : Campaign = record {
      alloc = c.args.alloc;
      source = c.args.source;
      script = c.name_or-name.result;
      file = c.name_or-file.result;
      coded = c.as_ref.result;
      limits = c.as_slice.result;
      table = opened.table;
      capacity = c.within_limits.result;
      is_strict = how.is_strict;
      format = c.args.planned.plan.now.format;
    } in
    let is : IsCampaign on opened.coded opened.limits (source_data c.args.source) how.file named how.is_strict opened.table (room_for how.capacity) = record {
      coded = c.as_ref.ensures.value;
      script = c.name_or-name.ensures;
      file = c.name_or-file.ensures;
      strictly = refl;
      table = refl;
      room = c.within_limits.ensures.value;
      files = refl;
      text = refl;
    } in
    let calm = c.in_ok-calm.calm in
    let mid = g.E.Write.contents c.bench_lines.new.errors in
    let heard = g.E.Write.contents c.judge.new.errors in
    let unmet = ap some_unmet (sym c.as_slice-2.ensures) ∙ sym c.some_unmet.ensures ∙ c.if-some_unmet.true in
    campaign-unmet c.args.planned.plan.now opened.coded opened.limits (source_data c.args.source) how.file named on how.is_strict opened.cluster opened.table (room_for how.capacity) calm c.judge.result old _ mid heard
    c.in_ok-lines.lines.items is said c.in_ok-calm.ensures c.in_ok-lines.ensures.lines.1 unmet
    (subst (λ js. ReportsJudgements c.judge.result (play_fails 0 0 js) (unmet_with_counts named c.args.source.files.now how.is_strict 0 0 calm.core.cluster calm.core.log js) mid heard) c.as_slice-then-some_unmet.ensures c.judge.ensures)

pub returns : goal.returns
returns g c =
    let opened = c.args.planned.opened in
    let how = opened.settings in
    let named = c.args.notes.now.wanted.script in
    let old = g.W.Write.contents c.args.writer.now in
    let said = c.in_ok-lines.ensures.lines.0 in
    let on : Campaign = record {
      alloc = c.args.alloc;
      source = c.args.source;
      script = c.name_or-name.result;
      file = c.name_or-file.result;
      coded = c.as_ref.result;
      limits = c.as_slice.result;
      table = opened.table;
      capacity = c.within_limits.result;
      is_strict = how.is_strict;
      format = c.args.planned.plan.now.format;
    } in
    let is : IsCampaign on opened.coded opened.limits (source_data c.args.source) how.file named how.is_strict opened.table (room_for how.capacity) = record {
      coded = c.as_ref.ensures.value;
      script = c.name_or-name.ensures;
      file = c.name_or-file.ensures;
      strictly = refl;
      table = refl;
      room = c.within_limits.ensures.value;
      files = refl;
      text = refl;
    } in
    let calm = c.in_ok-calm.calm in
    let ls = c.in_ok-lines.lines.items in
    let all =
    ap (λ l. read opened.cluster (given_coding c.as_ref.result) l (source_data c.args.source)) c.as_slice.ensures
    ∙ ap (λ k. read opened.cluster k opened.limits (source_data c.args.source)) c.as_ref.ensures.value ∙ c.in_ok-lines.ensures.lines.0 in
    let met = ap some_unmet (sym c.as_slice-2.ensures) ∙ sym c.some_unmet.ensures ∙ c.if-some_unmet.false in
    campaign-written c.args.planned.plan.now opened.coded opened.limits (source_data c.args.source) how.file named on how.is_strict opened.cluster opened.table (room_for how.capacity) c.write_campaign.result old
    (g.W.Write.contents c.write_campaign.new.writer) _ _ (g.E.Write.contents c.write_campaign.new.errors) ls said calm.core.cluster (same-cluster on opened.cluster ls calm c.in_ok-calm.ensures) is
    c.in_ok-lines.ensures.lines.1
    (c.write_campaign.ensures ls (begun on c.args.planned.plan.now opened.cluster ls calm refl all met c.in_ok-calm.ensures))
