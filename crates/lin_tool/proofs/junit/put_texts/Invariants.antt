use Rattle.std.proofs.Common.{◌∷◌, [], drop, map}
use Rattle.lin_tool.specs.Junit.{xml_text, xml_texts}
use Rattle.lin_tool.specs.Separated.{with_separators}
use Rattle.lin_tool.proofs.Remaining.{PutsUpTo}
use Rattle.lin_tool.proofs.junit.put_texts.Given as goal

abbrev pub invariant-loop-text : goal.invariant-loop-text
invariant-loop-text g l = PutsUpTo g.W.Write.contents l.initial.out l.out (xml_texts l.texts) (with_separators l.mark (10 ∷ []) (map xml_text (drop l.text-index l.texts)))
