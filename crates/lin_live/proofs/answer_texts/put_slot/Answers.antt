use Rattle.std.proofs.Common.{◌++◌, ap}
use Rattle.std.specs.Fmt.{decimal}
use Rattle.lin_log.specs.Language.{named_language}
use Rattle.lin_log.specs.Words.{spaced_word, word_text}
use Rattle.lin_log.specs.Words.Word.{Table}
use Rattle.lin_text.proofs.Growing.{grows-more, same-growth}
use Rattle.lin_live.proofs.SaidWords.{names-spaced}
use Rattle.lin_live.proofs.answer_texts.put_slot.Goals as goal

pub returns : goal.returns
returns g c =
    let x = c.args.cluster.now in
    let table = spaced_word (word_text (named_language x) (Table c.args.table)) in
    same-growth (ap (λ t. table ++ (spaced_word (decimal c.args.entry) ++ t)) (names-spaced x c.args.table c.args.entry c.args.header))
    (grows-more c.put_table.ensures (grows-more c.put_number.ensures c.put_slot_names.ensures))
