use Rattle.std.proofs.Common.{◌≡◌, [], ℕ, List, refl, sym, if◌then◌else◌}
use Rattle.std.specs.Prelude.{Bool, true, false}
use Rattle.lin_text.proofs.Growing.{grows-more, same-growth}
use Rattle.lin_values.specs.Coded.{has_range}
use Rattle.lin_export.proofs.variables.put_physical_variable.Goals as goal

text-if : (b : Bool) (text : List ℕ) → b ≡ true → text ≡ (if b then text else [])
text-if true text e = refl
text-if false text e = cc

pub returns-then-has_range : goal.returns-then-has_range
returns-then-has_range g c =
    same-growth (text-if (has_range c.args.coded.now c.args.signal) _ (sym c.if-has_range.ensures))
    (grows-more c.put.ensures
    (grows-more (rw c.physical_number.ensures.number at c.put_code.ensures)
    (grows-more c.put_byte.ensures (grows-more (rw c.signal_name.ensures at c.put-then-has_range.ensures) c.put-then-has_range-2.ensures))))
