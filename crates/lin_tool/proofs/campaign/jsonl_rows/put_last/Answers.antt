use Rattle.std.proofs.Common.{◌≡◌, ◌≤◌, ◌-◌, ℕ, zero, suc, arith, refl}
use Rattle.std.specs.Fmt.{decimal}
use Rattle.lin_text.proofs.Growing.{same-growth}
use Rattle.lin_tool.specs.campaign.Jsonl.{last_of}
use Rattle.lin_tool.proofs.campaign.jsonl_rows.put_last.Goals as goal

last-some : (n : ℕ) → 1 ≤ n → decimal (n - 1) ≡ last_of n
last-some zero h = absurd (omega arith)
last-some (suc n) h = let e : suc n - 1 ≡ n = omega arith in rw e refl

pub returns-else-slots-eq0 : goal.returns-else-slots-eq0
returns-else-slots-eq0 g c = same-growth (last-some c.args.slots (let h = c.if-slots-eq0.false in omega arith)) c.put_number.ensures
