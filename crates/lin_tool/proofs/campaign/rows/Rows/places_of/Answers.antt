use Rattle.std.proofs.Common.{◌≡◌, ◌∙◌, ◌+◌, ◌-◌, ◌++◌, ◌<◌, ℕ, List, suc, [], ◌∷◌, ap, arith, length, subst, sym}
use Rattle.std.specs.Prelude.{IfOk}
use Rattle.lin_tool.specs.campaign.Rows.{pairs_in, places_of}
use Rattle.lin_tool.proofs.CampaignRows.{count-rows, pair-row, random-row, row-single, sets_in}
use Rattle.lin_tool.proofs.campaign.rows.Rows.places_of.Goals as goal

pub returns-then-row-singles : goal.returns-then-row-singles
returns-then-row-singles c =
    let t = c.args.self.now in
    let row = c.args.row in
    let at : suc (row - 1) ≡ row = omega arith in
    let one : places_of t row ≡ (row - 1) ∷ [] = ap (places_of t) (sym at) ∙ row-single t (row - 1) (omega arith) in
    c.in_ok-push.ensures.items ∙ ap (λ l. l ++ (row - 1) ∷ []) c.new-places.ensures.items ∙ sym one

pub returns-then-row-singles-2 : goal.returns-then-row-singles-2
returns-then-row-singles-2 c =
    let t = c.args.self.now in
    let row = c.args.row in
    let j = row - 1 - t.singles in
    let first = c.pair_at-first.result.0 in
    let second = c.pair_at-first.result.1 in
    let at : suc (t.singles + j) ≡ row = omega arith in
    let there : j < length (pairs_in t) = omega (arith, c.pairs-pairs.ensures.count) in
    c.in_ok-push-3.ensures.items
    ∙ ap (λ l. l ++ second ∷ []) (c.in_ok-push-2.ensures.items ∙ ap (λ l. l ++ first ∷ []) c.new-places.ensures.items)
    ∙ sym (ap (places_of t) (sym at) ∙ pair-row t j first second there c.pair_at-first.ensures)

pub returns : goal.returns
returns c =
    let t = c.args.self.now in
    let row = c.args.row in
    let pairs = c.pairs-pairs.result in
    let k = row - 1 - t.singles - pairs in
    let at : suc (t.singles + (length (pairs_in t) + k)) ≡ row = omega (arith, c.pairs-pairs.ensures.count) in
    let there : k < length (sets_in t) = omega (arith, count-rows t, c.requires.row, c.pairs-pairs.ensures.count) in
    let same = sym (random-row t k there) ∙ ap (places_of t) at in
    subst (λ (l : List ℕ). IfOk c.random_set.result (λ v. v.items ≡ l)) same c.random_set.ensures
