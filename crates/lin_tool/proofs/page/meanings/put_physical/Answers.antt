use Rattle.std.proofs.Common.{◌∷◌, [], ◌++◌, ◌∙◌, List, ℕ, ap, codes, flat_map, option_map, rules, sym}
use Rattle.std.specs.Fmt.{decimal}
use Rattle.lin_export.proofs.ListedLines.{head-and-members}
use Rattle.lin_log.specs.Words.{spaced_word}
use Rattle.lin_log.proofs.Ends.{grows-ended, grows-last}
use Rattle.lin_text.proofs.Growing.{grows-more, same-growth}
use Rattle.lin_text.specs.Written.{Grows}
use Rattle.lin_values.specs.Coded.{range_of}
use Rattle.lin_values.specs.Shown.{decimal_shown}
use Rattle.lin_tool.specs.PageFields.{field}
use Rattle.lin_tool.specs.PageMeanings.{physical_range_line}
use Rattle.lin_tool.proofs.page.meanings.put_physical.Goals as goal

pub returns-in-Some : goal.returns-in-Some
returns-in-Some g c =
    let r = c.in-Some.range in
    let head : List (List ℕ) = decimal c.args.signal ∷ decimal r.min ∷ decimal r.max ∷ [] in
    let last : List (List ℕ) = field r.unit.now ∷ [] in
    let start : Grows g.W.Write.contents c.args.out.now c.put_head.new.out (codes "physical" ++ flat_map spaced_word head) = search rules in
    let is = sym c.as_range.ensures ∙ ap (option_map range_of) c.in-Some.is in
    same-growth (head-and-members (codes "physical") head (decimal_shown r.scale ∷ decimal_shown r.offset ∷ last) ∙ ap (physical_range_line c.args.signal) (sym is))
    (grows-more start (grows-more c.put_coefficient.ensures (grows-more c.put_coefficient-in-Some.ensures
    (grows-ended last (grows-last (grows-more c.put_byte.ensures c.put_field.ensures)) c.put_byte-in-Some.ensures))))
