use Rattle.std.proofs.Common.{◌≡◌, ◌<◌, ◌≤◌, ◌++◌, [], Bool, ap, arith, decimal, false, if◌then◌else◌, nat_lt, refl, sym, true, ℕ}
use Rattle.std.specs.Prelude.{codes}
use Rattle.std.proofs.lemmas.Grind.{common_steps}
use Rattle.lin_text.proofs.Growing.{grows-more, same-growth}
use Rattle.lin_tool.proofs.campaign.fault_names.put_last.Goals as goal

less-by : (a b : ℕ) (t : Bool) → a < b → nat_lt a b ≡ t → t ≡ true
less-by a b true h e = refl
less-by a b false h e = let none : b ≤ a = grind (arith, common_steps) in absurd (omega (arith, none, h))

pub returns-then-first-last : goal.returns-then-first-last
returns-then-first-last g c =
    let less = less-by c.args.first c.args.last (nat_lt c.args.first c.args.last) (omega arith) refl in
    same-growth (ap (λ b. if b then codes ".." ++ decimal c.args.last else []) (sym less)) (grows-more c.put_text.ensures c.put_number.ensures)
