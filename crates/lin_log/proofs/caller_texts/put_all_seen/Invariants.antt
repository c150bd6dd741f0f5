use Rattle.std.proofs.Common.{flat_map, take}
use Rattle.lin_text.specs.Written.{Grows}
use Rattle.lin_log.specs.CallerTexts.{seen_after}
use Rattle.lin_log.proofs.caller_texts.put_all_seen.Given as goal

abbrev pub invariant-loop-text : goal.invariant-loop-text
invariant-loop-text g l = Grows g.W.Write.contents l.initial.out l.out (flat_map (seen_after l.gap) (take l.text-index l.texts))
