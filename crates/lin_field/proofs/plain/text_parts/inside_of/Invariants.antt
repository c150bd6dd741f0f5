use Rattle.std.proofs.Common.{◌≡◌, drop, map}
use Rattle.std.specs.Prelude.{find}
use Rattle.lin_field.specs.Plain.{is_section_of}
use Rattle.lin_field.proofs.plain.text_parts.inside_of.Given as goal

abbrev pub invariant-loop-part : goal.invariant-loop-part
invariant-loop-part l =
    find (is_section_of l.source l.word) (map (λ p. p.now) l.parts)
    ≡ find (is_section_of l.source l.word) (map (λ p. p.now) (drop l.part-index l.parts))
