use Rattle.std.proofs.Common.{◌∷◌, [], sym, ap}
use Rattle.std.proofs.lemmas.List.{map-append}
use Rattle.lin_log.specs.CallerTexts.{seen_byte}
use Rattle.lin_text.proofs.Growing.{grows-more, same-growth}
use Rattle.lin_export.proofs.line_meanings.put_letters.Goals as goal

pub returns : goal.returns
returns g c =
    same-growth (ap (λ l. 34 ∷ l) (sym (map-append seen_byte c.args.letters.now (34 ∷ [])))) (grows-more c.put_byte.ensures (grows-more c.put_seen.ensures c.put_byte-2.ensures))
