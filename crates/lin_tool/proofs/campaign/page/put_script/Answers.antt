use Rattle.std.proofs.Common.{◌∙◌, ◌==◌, ◌++◌, ◌∷◌, [], ap, flat_map, if◌then◌else◌, subst, sym}
use Rattle.std.specs.List.{slice_split}
use Rattle.lin_log.specs.Judged.{lines_left}
use Rattle.lin_tool.specs.campaign.Page.{page_line, page_lines, without_empty_last}
use Rattle.lin_tool.proofs.CampaignLines.{none-is, script-next}
use Rattle.lin_tool.proofs.Remaining.{PutsUpTo, none-put, put-more, same-rest}
use Rattle.lin_tool.proofs.campaign.page.put_script.Goals as goal

pub loop-left-init : goal.loop-left-init
loop-left-init g c =
    same-rest (ap (λ t. flat_map page_line (without_empty_last (slice_split (λ b. b == 10) t))) (sym c.without_mark.ensures.same)) (none-put c.args.out.now (page_lines c.args.script.now))

pub loop-left-preserved : goal.loop-left-preserved
loop-left-preserved g c =
    let next =
    ap (λ ls. flat_map page_line (without_empty_last ls)) c.first_line.ensures.lines
    ∙ script-next c.first_line.result.0.now c.first_line.result.1
    ∙ ap
    (λ b. (if b then flat_map page_line (without_empty_last (c.first_line.result.0.now ∷ [])) else page_line c.first_line.result.0.now)
    ++ flat_map page_line (without_empty_last (lines_left c.first_line.result.1)))
    (none-is c.first_line.result.1 c.is_none.result c.is_none.ensures) in
    put-more (flat_map page_line (without_empty_last (lines_left c.first_line.result.1))) (same-rest next
    (subst (λ o. PutsUpTo g.W.Write.contents c.args.out.now c.loop-left.out (page_lines c.args.script.now) (flat_map page_line (without_empty_last (lines_left o)))) c.in-Some.is c.loop-left.invariant))
    c.put_next_line.ensures
