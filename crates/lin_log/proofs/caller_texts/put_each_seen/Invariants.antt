use Rattle.std.proofs.Common.{take}
use Rattle.lin_text.specs.Written.{Grows}
use Rattle.lin_log.specs.CallerTexts.{seen_text}
use Rattle.lin_log.proofs.caller_texts.put_each_seen.Given as goal

abbrev pub invariant-loop-byte : goal.invariant-loop-byte
invariant-loop-byte g l = Grows g.W.Write.contents l.initial.out l.out (seen_text (take l.byte-index l.text))
