use Rattle.std.proofs.Common.{◌≡◌, ◌∙◌, ◌+◌, ◌++◌, ◌∷◌, [], Some, ap, arith, drop, false, sym, take, true}
use Rattle.std.specs.Prelude.{flat_map}
use Rattle.std.proofs.lemmas.List.{take_more}
use Rattle.lin_core.specs.History.{events}
use Rattle.lin_bench.specs.Searches.{is_sought, taken_by}
use Rattle.lin_bench.specs.Verdicts.{first_so}
use Rattle.lin_bench.proofs.FirstEvents.{first-at, none-with, same-item, split-at}
use Rattle.lin_bench.proofs.left_events.first_in.Goals as goal

pub returns-then-is_sought : goal.returns-then-is_sought
returns-then-is_sought c = λ es known are.
    let told = c.args.told.now in
    let i = c.loop-index.index in
    let e = c.index-told-index.result in
    let p = is_sought c.args.sought (taken_by es c.args.taken.now) in
    let before = flat_map events (take c.args.entry es) in
    let there = are ∙ ap (λ l. before ++ l) (split-at told i e (omega arith) c.index-told-index.is) in
    let is : p (before ++ take i told) e ≡ true =
    sym (c.is_sought.ensures es (drop (i + 1) told) known there) ∙ c.if-is_sought.true in
    ap Some (same-item told i c.index-told-index-then-is_sought.result e (omega arith) c.index-told-index-then-is_sought.is c.index-told-index.is)
    ∙ sym (first-at p before told i e (omega arith) c.index-told-index.is (c.loop-index.invariant es known are) is)

pub loop-index-preserved : goal.loop-index-preserved
loop-index-preserved c = λ es known are.
    let told = c.args.told.now in
    let i = c.loop-index.index in
    let e = c.index-told-index.result in
    let p = is_sought c.args.sought (taken_by es c.args.taken.now) in
    let before = flat_map events (take c.args.entry es) in
    let there = are ∙ ap (λ l. before ++ l) (split-at told i e (omega arith) c.index-told-index.is) in
    let is : p (before ++ take i told) e ≡ false =
    sym (c.is_sought.ensures es (drop (i + 1) told) known there) ∙ c.if-is_sought.false in
    let here : take (i + 1) told ≡ take i told ++ e ∷ [] = take_more told i e (omega arith) ∙ ap (λ x. take i told ++ x ∷ []) (sym c.index-told-index.is) in
    ap (first_so p before) here ∙ none-with p before (take i told) e (c.loop-index.invariant es known are) is
