use Rattle.std.proofs.Common.{◌≡◌, ◌++◌, length, map}
use Rattle.lin_field.specs.Plain.{parts}
use Rattle.lin_field.proofs.plain.text_parts.parts.Given as goal

abbrev pub invariant-loop-part : goal.invariant-loop-part
invariant-loop-part l = map (λ p. p.now) l.parts.items ++ parts l.rest ≡ parts l.tokens

abbrev pub decreases-loop-part : goal.decreases-loop-part
decreases-loop-part l = length l.rest
