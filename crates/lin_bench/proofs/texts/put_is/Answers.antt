use Rattle.std.proofs.Common.{ap, append-nil, sym}
use Rattle.std.specs.Fmt.{decimal}
use Rattle.lin_log.specs.Language.{named_language}
use Rattle.lin_text.proofs.Growing.{same-growth}
use Rattle.lin_bench.specs.Texts.{cluster_text}
use Rattle.lin_bench.proofs.LineWords.{few-words}
use Rattle.lin_bench.proofs.texts.put_is.Goals as goal

pub returns-in_default : goal.returns-in_default
returns-in_default g c =
    same-growth (ap (cluster_text c.args.cluster.now) (few-words c.args.got.now c.in_default.not-StillPending c.in_default.not-Messages))
    (rw c.got_line.ensures at c.put_word_list.ensures)

pub returns-in-Messages : goal.returns-in-Messages
returns-in-Messages g c =
    rw c.in-Messages.is (same-growth (sym (append-nil (decimal c.in-Messages.count))) c.put_number.ensures)
