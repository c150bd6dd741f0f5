use Rattle.std.proofs.Common.{◌∷◌, [], ℕ, List, ap, codes, flat_map}
use Rattle.std.specs.Prelude.{Option}
use Rattle.std.specs.Option.{option_map_or}
use Rattle.lin_parts.specs.Cluster.{signal_of}
use Rattle.lin_log.specs.Words.{Word}
use Rattle.lin_log.specs.Words.Word.{Fixed, Said}
use Rattle.lin_log.proofs.Ends.{grows-last}
use Rattle.lin_text.proofs.Growing.{grows-more, same-growth}
use Rattle.lin_values.specs.Meant.{Meant}
use Rattle.lin_values.specs.Shown.{shown}
use Rattle.lin_export.specs.Named.{named_line}
use Rattle.lin_export.proofs.named_values.put_value.Goals as goal

pub returns-in-Some : goal.returns-in-Some
returns-in-Some g c =
    let x = c.args.cluster.now in
    let words : Meant → List Word = λ m. Fixed (codes "value") ∷ Said (signal_of x c.args.signal).name ∷ Said (shown m) ∷ [] in
    let says : Option Meant → List ℕ = λ o. flat_map (named_line x) (option_map_or (λ (m : Meant). words m ∷ []) o []) in
    same-growth (ap says c.in-Some.ensures)
    (grows-last (grows-more c.put.ensures
    (grows-more (rw c.signal_name.ensures at c.put_seen.ensures) (grows-more c.put_byte.ensures (grows-more c.put_line_meaning.ensures c.put_byte-in-Some.ensures)))))
