use Rattle.std.proofs.Common.{◌≡◌, ◌∙◌, [], refl, ap}
use Rattle.std.specs.Option.{option_map_or}
use Rattle.lin_ldf.specs.Stream.{ahead_at, start_of}
use Rattle.lin_ldf.specs.Symbols.{symbols_in}
use Rattle.lin_sections.specs.declared.diff.table_facts.TableLines.{TableLines}
use Rattle.lin_sections.proofs.diff.table_facts.lines_of.Goals as goal

-- an empty text has no tokens
no-symbols : symbols_in [] (start_of []).tokens ≡ []
unfolding ahead_at
no-symbols = refl

pub returns-in-None : goal.returns-in-None
returns-in-None c =
    c.new.ensures ∙ no-symbols ∙ ap (λ o. option_map_or (λ (l : TableLines). l.inside) o []) c.in-None.ensures
