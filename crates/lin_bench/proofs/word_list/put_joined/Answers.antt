use Rattle.std.proofs.Common.{ap, map, sym}
use Rattle.lin_text.proofs.Growing.{grows-more, same-growth}
use Rattle.lin_log.specs.Shown.{as_word}
use Rattle.lin_bench.specs.LineWords.{words_text}
use Rattle.lin_log.proofs.CallerTexts.{first-and-rest}
use Rattle.lin_bench.proofs.word_list.put_joined.Goals as goal

pub returns-in-len1-up : goal.returns-in-len1-up
returns-in-len1-up g c =
    let names = c.args.names.now in
    same-growth
    (sym (ap (λ ws. words_text (g.N.Naming.language names) (map as_word ws)) (first-and-rest c.args.words.now c.first-item.result c.in-len1-up.len_at_least c.first-item.is)))
    (grows-more c.put_shown.ensures c.put_all_after.ensures)
