use Rattle.std.proofs.Common.{◌≡◌, ◌≤◌, ◌++◌, ℕ, zero, suc, arith, refl}
use Rattle.std.specs.Prelude.{codes}
use Rattle.std.specs.Fmt.{decimal}
use Rattle.lin_text.proofs.Growing.{grows-more, same-growth}
use Rattle.lin_tool.specs.campaign.Text.{missed_text}
use Rattle.lin_tool.proofs.campaign.text.put_missed.Goals as goal

some : (n : ℕ) → 1 ≤ n → codes "; " ++ (decimal n ++ codes " missed") ≡ missed_text n
some zero h = absurd (omega arith)
some (suc n) h = refl

pub returns : goal.returns
returns g c =
    same-growth (some c.args.missed (let h = c.if-missed-eq0.false in omega arith)) (grows-more c.put_text.ensures (grows-more c.put_number.ensures c.put_text-2.ensures))
