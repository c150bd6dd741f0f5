use Rattle.std.proofs.Common.{◌≡◌, ◌∙◌, ◌==◌, ◌++◌, ◌∷◌, [], ℕ, List, ap, map, sym}
use Rattle.std.specs.Prelude.{Option}
use Rattle.std.specs.List.{slice_split}
use Rattle.std.specs.Borrow.{Bor}
use Rattle.lin_log.specs.Judged.{lines_left}
use Rattle.lin_tool.specs.Junit.{xml_text}
use Rattle.lin_tool.specs.Separated.{with_separators}
use Rattle.lin_tool.proofs.Remaining.{none-put, put-more, same-rest}
use Rattle.lin_tool.proofs.junit.put_escaped_lines.Goals as goal

abbrev other : List ℕ
other = 10 ∷ []

-- lines that are left, by the first of them
next-line : (mark line : List ℕ) (left rest : Option (Bor (List ℕ))) → lines_left left ≡ line ∷ lines_left rest
    → with_separators mark other (map xml_text (lines_left left)) ≡ mark ++ (xml_text line ++ with_separators other other (map xml_text (lines_left rest)))
next-line mark line left rest e = ap (λ l. with_separators mark other (map xml_text l)) e

pub loop-left-init : goal.loop-left-init
loop-left-init g c =
    same-rest (ap (λ l. with_separators [] other (map xml_text (slice_split (λ b. b == 10) l))) (sym c.without_last_end.ensures)) (none-put c.args.out.now _)

pub loop-left-preserved : goal.loop-left-preserved
loop-left-preserved g c =
    let line = c.first_line.result.0.now in
    let after = c.first_line.result.1 in
    let lines : lines_left c.loop-left.left ≡ line ∷ lines_left after = ap lines_left c.in-Some.is ∙ c.first_line.ensures.lines in
    let rest = with_separators other other (map xml_text (lines_left after)) in
    put-more rest (put-more (xml_text line ++ rest) (same-rest (next-line c.loop-left.mark.now line c.loop-left.left after lines) c.loop-left.invariant) c.put.ensures) c.put_escaped.ensures
