use Rattle.std.proofs.Common.{◌≡◌, ◌+◌, ◌-◌, List, ℕ, length, take, drop, sym, ap, ◌∙◌, arith}
use Rattle.std.proofs.lemmas.List.{length-drop, take_rest}
use Rattle.lin_ldf.specs.Advance.{place_behind}
use Rattle.lin_ldf.proofs.Lines.{next_line, last_line}
use Rattle.lin_ldf.proofs.lexer.advanced_by_lines.Goals as goal

pub loop-rest-preserved : goal.loop-rest-preserved
loop-rest-preserved c =
    let found = c.behind_line.result.now in
    let behind : take (length found - 1) (drop 1 found) ≡ drop 1 found = take_rest found 1 in
    let size : length (take (length found - 1) (drop 1 found)) ≡ length found - 1 = ap length behind ∙ length-drop 1 found in
    record {
      place = ap (λ (cs : List ℕ). place_behind (record { line = c.loop-rest.place.line + 1; column = 1 }) cs) behind
          ∙ sym (next_line c.loop-rest.place c.loop-rest.rest.now found c.behind_line.ensures.value c.in-len1-up.len_at_least) ∙ c.loop-rest.invariant.place;
      line = omega (arith, size);
      column = omega (arith, size);
    }

pub returns-clause-place : goal.returns-clause-place
returns-clause-place c =
    sym (last_line c.loop-rest.place c.loop-rest.rest.now c.behind_line.result.now c.behind_line.ensures.value c.in_default.len_below) ∙ c.loop-rest.invariant.place
