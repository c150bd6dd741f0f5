-- What replacing the parameters of a field answers, beside what the definition replaces.
use Rattle.std.specs.Prelude.{◌≡◌, ◌==◌, ℕ, List, [], ◌++◌, take, Option, Some, None, Result, Ok, Err}
use Rattle.std.specs.Borrow.{Bor}
use Rattle.std.specs.List.{slice_split}
use Rattle.lin_bench.specs.Read.{Fails}
use Rattle.lin_bench.specs.declared.fault.LineFault.{LineFault}
use Rattle.lin_bench.specs.declared.reason.Reason.{Reason}

-- the pieces that are left of a field
abbrev pub pieces_left : Option (Bor (List ℕ)) → List (List ℕ)
pieces_left None = []
pieces_left (Some text) = slice_split (λ b. b == 36) text.now

-- what adding a text to a line answers: no more than one byte over the limit is kept of the line
abbrev pub AddsText : Result Unit LineFault → Result (List ℕ) Reason → List ℕ → List ℕ → Type 0
AddsText (Ok done) text old new = (t : List ℕ) × (text ≡ Ok t) × (new ≡ take 65537 (old ++ t))
AddsText (Err e) text old new = Fails e text
