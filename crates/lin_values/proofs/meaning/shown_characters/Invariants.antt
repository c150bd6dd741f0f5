use Rattle.std.proofs.Common.{◌≡◌, map, take}
use Rattle.lin_values.specs.Meaning.{shown_character}
use Rattle.lin_values.proofs.meaning.shown_characters.Given as goal

abbrev pub invariant-loop-byte : goal.invariant-loop-byte
invariant-loop-byte l = l.letters.items ≡ map shown_character (take l.byte-index l.byte-items)
