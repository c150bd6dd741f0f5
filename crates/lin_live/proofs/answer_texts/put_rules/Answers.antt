use Rattle.lin_log.specs.Language.{named_language}
use Rattle.lin_text.proofs.Growing.{same-growth}
use Rattle.lin_live.proofs.SaidWords.{rules-spaced}
use Rattle.lin_live.proofs.answer_texts.put_rules.Goals as goal

pub returns-in-len1-up : goal.returns-in-len1-up
returns-in-len1-up g c =
    same-growth (rules-spaced (named_language c.args.cluster.now) c.args.lines.now c.in-len1-up.len_at_least) c.put_all_after.ensures
