use Rattle.lin_field.proofs.plain.text_parts.tokens_of.Goals as goal

pub returns-in_default : goal.returns-in_default
returns-in_default c = λ ts are. absurd (c.in_default.not-OutOfMemory (c.in-Err.ensures.only ts are))
