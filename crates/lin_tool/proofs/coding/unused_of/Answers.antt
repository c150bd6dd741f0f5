use Rattle.std.proofs.Common.{Option, IfOk, IsPermutation, option_map, subst, sym}
use Rattle.std.specs.Borrow.{Bor}
use Rattle.lin_tool.specs.Coding.{unused_told}
use Rattle.lin_tool.proofs.Warned.{unused_found}
use Rattle.lin_values.specs.declared.codings.Codings.{Codings}
use Rattle.lin_tool.proofs.coding.unused_of.Goals as goal

pub returns-in-Some : goal.returns-in-Some
returns-in-Some c =
    subst (λ (k : Option (Bor Codings)). IfOk c.unused_encodings.result (λ found. IsPermutation (unused_told c.args.description.now (option_map (λ (b : Bor Codings). b.now) k)) found.items))
    (sym c.in-Some.is)
    (unused_found (λ found. found.items) c.args.description.now c.in-Some.codings.now c.unused_encodings.result c.unused_encodings.ensures)
