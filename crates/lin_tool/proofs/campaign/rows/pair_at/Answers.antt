use Rattle.std.proofs.Common.{◌≡◌, ◌∙◌, ◌+◌, ◌-◌, ◌<◌, [], add-one, ap, arith, get_or, length, sym}
use Rattle.lin_tool.specs.campaign.Rows.{pairs_of_places}
use Rattle.lin_tool.proofs.CampaignRows.{length-pairs_before-more, pair-at, pairs_before}
use Rattle.lin_tool.proofs.campaign.rows.pair_at.Goals as goal

pub returns-then-left-behind : goal.returns-then-left-behind
returns-then-left-behind c =
    let n = c.args.singles in
    let k = c.loop-first.first in
    let h : k < n = omega arith in
    let less : c.loop-first.left < n - (k + 1) = omega arith in
    ap (λ p. get_or (pairs_of_places n) p []) (sym c.loop-first.invariant) ∙ pair-at n k c.loop-first.left h less

pub loop-first-preserved : goal.loop-first-preserved
loop-first-preserved c =
    let n = c.args.singles in
    let k = c.loop-first.first in
    let more : length (pairs_before n (k + 1)) ≡ length (pairs_before n k) + (n - (k + 1)) = ap (λ m. length (pairs_before n m)) (add-one k) ∙ length-pairs_before-more n k in
    omega (arith, more, c.loop-first.invariant)
