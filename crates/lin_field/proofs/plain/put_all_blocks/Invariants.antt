use Rattle.std.proofs.Common.{map, take}
use Rattle.lin_text.specs.Written.{Grows}
use Rattle.lin_field.specs.Plain.{block_text, with_parts}
use Rattle.lin_field.proofs.plain.put_all_blocks.Given as goal

abbrev pub invariant-loop-number : goal.invariant-loop-number
invariant-loop-number g l =
    Grows g.W.Write.contents l.initial.out l.out (with_parts (block_text l.source) (map (λ p. p.now) l.parts) 0 (take l.number l.blocks))
