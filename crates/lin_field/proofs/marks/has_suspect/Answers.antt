use Rattle.std.proofs.Common.{◌≡◌, ◌-◌, ◌∙◌, ℕ, List, length, take, drop, ap, sym, Bool}
use Rattle.std.specs.Prelude.{◌||◌}
use Rattle.lin_field.specs.Suspects.{behind_separators, has_suspect}
use Rattle.lin_field.proofs.ReadOver.{from_on}
use Rattle.lin_field.proofs.Suspects.{one_found, none_found, fewer_left}
use Rattle.lin_field.proofs.marks.has_suspect.Goals as goal

next_is : (found next : List ℕ) → next ≡ behind_separators (take (length found - 1) (drop 1 found)) → next ≡ behind_separators (drop 1 found)
next_is found next e = e ∙ ap behind_separators (from_on found 1)

pub returns-then-is_suspect : goal.returns-then-is_suspect
returns-then-is_suspect c =
    let all = one_found c.loop-n.rest.now c.in-Some.n c.split_at.result.1.now c.behind_separators-rest.result.now c.in-Some.ensures c.split_at.ensures.back (next_is c.split_at.result.1.now c.behind_separators-rest.result.now c.behind_separators-rest.ensures) in
    sym (sym c.loop-n.invariant ∙ all ∙ ap (λ (b : Bool). b || has_suspect c.behind_separators-rest.result.now) (sym c.is_suspect.ensures ∙ c.if-is_suspect.true))

pub loop-n-smaller : goal.loop-n-smaller
loop-n-smaller c = fewer_left c.loop-n.rest.now c.in-Some.n c.split_at.result.1.now c.behind_separators-rest.result.now c.in-Some.ensures c.split_at.ensures.back (next_is c.split_at.result.1.now c.behind_separators-rest.result.now c.behind_separators-rest.ensures)

pub loop-n-preserved : goal.loop-n-preserved
loop-n-preserved c =
    let all = one_found c.loop-n.rest.now c.in-Some.n c.split_at.result.1.now c.behind_separators-rest.result.now c.in-Some.ensures c.split_at.ensures.back (next_is c.split_at.result.1.now c.behind_separators-rest.result.now c.behind_separators-rest.ensures) in
    sym (sym c.loop-n.invariant ∙ all ∙ ap (λ (b : Bool). b || has_suspect c.behind_separators-rest.result.now) (sym c.is_suspect.ensures ∙ c.if-is_suspect.false))

pub returns : goal.returns
returns c = sym (none_found c.loop-n.rest.now c.in_default.ensures) ∙ c.loop-n.invariant
