use Rattle.std.proofs.Common.{◌≡◌, take}
use Rattle.lin_sections.specs.Texts.{latin_1}
use Rattle.lin_sections.proofs.shown_texts.latin_1.Given as goal

abbrev pub invariant-loop-byte : goal.invariant-loop-byte
invariant-loop-byte l = l.text.items ≡ latin_1 (take l.byte-index l.bytes)
