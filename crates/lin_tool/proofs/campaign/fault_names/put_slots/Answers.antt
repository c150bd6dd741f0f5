use Rattle.std.proofs.Common.{◌≡◌, ◌++◌, [], Bool, List, append-nil, decimal, false, if◌then◌else◌, nat_lt, refl, true, ℕ}
use Rattle.std.specs.Prelude.{codes}
use Rattle.lin_text.proofs.Growing.{grows-more, same-growth}
use Rattle.lin_tool.proofs.campaign.fault_names.put_slots.Goals as goal

with-last : (first last : List ℕ) (several : Bool) → first ++ (if several then last else []) ≡ (if several then first ++ last else first)
with-last first last true = refl
with-last first last false = append-nil first

pub returns-in-None : goal.returns-in-None
returns-in-None g c = rw c.in-None.is (grows-more c.put_number.ensures c.put_text.ensures)

pub returns-in-Some : goal.returns-in-Some
returns-in-Some g c =
    let first = c.args.fault.now.first in
    let last = c.in-Some.last in
    rw c.in-Some.is
    (same-growth (with-last (decimal first) (codes ".." ++ decimal last) (nat_lt first last)) (grows-more c.put_number.ensures c.put_last.ensures))
