use Rattle.std.proofs.Common.{◌≡◌, ◌∙◌, false, sym}
use Rattle.lin_text.proofs.Growing.{grows-more}
use Rattle.lin_log.specs.Shown.{as_word}
use Rattle.lin_bench.specs.LineWords.{is_mark_word}
use Rattle.lin_bench.proofs.word_list.put_after.Goals as goal

pub returns-else-is_mark : goal.returns-else-is_mark
returns-else-is_mark g c =
    let no : is_mark_word (as_word c.args.word) ≡ false = sym c.is_mark.ensures ∙ c.if-is_mark.false in
    rw no (grows-more c.put_byte.ensures c.put_shown-else-is_mark.ensures)
