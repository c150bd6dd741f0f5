use Rattle.std.proofs.Common.{◌∷◌, [], ◌++◌, List, ℕ, codes, flat_map, rules}
use Rattle.std.specs.Fmt.{decimal}
use Rattle.lin_export.proofs.ListedLines.{head-and-members}
use Rattle.lin_log.specs.Words.{spaced_word}
use Rattle.lin_log.proofs.Ends.{grows-ended, grows-last}
use Rattle.lin_text.proofs.Growing.{grows-more, same-growth}
use Rattle.lin_text.specs.Written.{Grows}
use Rattle.lin_tool.specs.PageFields.{field}
use Rattle.lin_tool.proofs.page.meanings.put_value.Goals as goal

pub returns : goal.returns
returns g c =
    let head : List (List ℕ) = decimal c.args.signal ∷ decimal c.args.value ∷ [] in
    let words : List (List ℕ) = field c.args.text.now ∷ [] in
    let start : Grows g.W.Write.contents c.args.out.now c.put_head.new.out (codes "logical" ++ flat_map spaced_word head) = search rules in
    same-growth (head-and-members (codes "logical") head words)
    (grows-more start (grows-ended words (grows-last (grows-more c.put_byte.ensures c.put_field.ensures)) c.put_byte-2.ensures))
