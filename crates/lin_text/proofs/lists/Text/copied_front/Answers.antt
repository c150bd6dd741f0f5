use Rattle.std.proofs.Common.{◌∙◌, ap, arith, take}
use Rattle.std.proofs.lemmas.List.{take-take}
use Rattle.lin_text.proofs.lists.Text.copied_front.Goals as goal

pub returns-then-text-ge-SHORT : goal.returns-then-text-ge-SHORT
returns-then-text-ge-SHORT c =
    c.short.ensures ∙ ap (take c.args.len) c.copy_from_slice.ensures.after ∙ take-take c.args.len 14 c.args.text.now (omega arith)
