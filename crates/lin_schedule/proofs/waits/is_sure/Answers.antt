use Rattle.std.proofs.Common.{◌≡◌, ℕ, Bool, sym, ◌∙◌, arith}
use Rattle.std.specs.Prelude.{◌==◌, not, nat_lt}
use Rattle.std.proofs.lemmas.Bool.Decides.{nat_tests}
use Rattle.lin_schedule.specs.Ahead.{resolving_lines}
use Rattle.lin_schedule.specs.Rounds.{carriers_in}
use Rattle.lin_schedule.proofs.Rounds.{is_sure-round, is_sure-straight}
use Rattle.lin_schedule.proofs.waits.is_sure.Goals as goal

some-left : (empty : Bool) (many carriers : ℕ) → empty ≡ (many == 0) → many ≡ carriers → not empty ≡ nat_lt 0 carriers
some-left empty many carriers is same = grind (arith, nat_tests)

pub returns-in-Some : goal.returns-in-Some
returns-in-Some c = λ c' n xs there.
    let found = c.in-Some.ensures.is c' c.args.awaited.now n xs there in
    some-left c.is_empty.result _ (carriers_in c.args.awaited.now (resolving_lines c' c.args.entry)) c.is_empty.ensures
    (c.in-Some.excursion.now.ends.ok.0 ∙ found.1.carriers)
    ∙ is_sure-round c' c.args.awaited.now c.args.entry (sym c.carries.ensures ∙ c.if-carries.true) found.0

pub returns-in-None : goal.returns-in-None
returns-in-None c = λ c' n xs there.
    is_sure-straight c' c.args.awaited.now c.args.entry (sym c.carries.ensures ∙ c.if-carries.true)
    (c.in-None.ensures.is c' c.args.awaited.now n xs there)
