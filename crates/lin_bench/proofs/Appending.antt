-- Lines that are read, and those that are left.
use Rattle.std.proofs.Common.{◌≡◌, ◌-◌, ◌≤◌, ℕ, List, [], ◌∷◌, ◌++◌, refl, ap, append_assoc, arith, drop, length, slice_index_or, sym, take, Result, Ok, Err}
use Rattle.std.proofs.lemmas.Grind.{common_steps}
use Rattle.lin_log.proofs.CallerTexts.{all-after}
use Rattle.lin_bench.specs.Fields.{◌>>=◌}
use Rattle.lin_bench.specs.Scripts.{Script, with_line}
use Rattle.lin_bench.specs.declared.line.ScriptLine.{ScriptLine}
use Rattle.lin_bench.specs.declared.place.LinePlace.{LinePlace}
use Rattle.lin_bench.specs.declared.reason.Reason.{Reason}

abbrev pub appended : List (LinePlace × ScriptLine) → Script → Script
appended xs (Ok ys) = Ok (xs ++ ys)
appended xs (Err bad) = Err bad

pub appended-nothing : (r : Script) → appended [] r ≡ r
appended-nothing (Ok ys) = refl
appended-nothing (Err bad) = refl

pub appended-more : (xs : List (LinePlace × ScriptLine)) (x : LinePlace × ScriptLine) (r : Script) → appended (xs ++ x ∷ []) r ≡ appended xs (with_line x r)
appended-more xs x (Ok ys) = ap Ok (append_assoc xs (x ∷ []) ys)
appended-more xs x (Err bad) = refl

abbrev pub nodes_with : List ℕ → Result (List ℕ) Reason → Result (List ℕ) Reason
nodes_with ns r = r >>= (λ more. Ok (ns ++ more))

-- and the fields after the nodes
abbrev pub nodes_before : List ℕ → Result (List ℕ × List (List ℕ)) Reason → Result (List ℕ × List (List ℕ)) Reason
nodes_before ns r = r >>= (λ p. Ok (ns ++ p.0, p.1))

-- a list, by its first item and those after it
pub head-and-rest : {X : Type 0} (xs : List X) (d : X) → 1 ≤ length xs → xs ≡ slice_index_or xs 0 d ∷ take (length xs - 1) (drop 1 xs)
head-and-rest [] d h = absurd (omega arith)
head-and-rest (y ∷ ys) d h = ap (λ l. y ∷ l) (sym (all-after y ys))
