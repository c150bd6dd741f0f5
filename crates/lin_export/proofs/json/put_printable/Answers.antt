use Rattle.std.proofs.Common.{◌≡◌, ◌++◌, ◌∷◌, [], ap, arith, map, sym, take}
use Rattle.std.proofs.lemmas.List.{take_all}
use Rattle.lin_log.proofs.Ends.{mapped-more}
use Rattle.lin_text.proofs.Growing.{grows-more, same-growth}
use Rattle.lin_export.specs.Json.{escaped_byte, escaped_bytes, printable_byte}
use Rattle.lin_export.proofs.json.put_printable.Goals as goal

pub loop-byte-preserved : goal.loop-byte-preserved
loop-byte-preserved g c =
    same-growth (sym (mapped-more escaped_byte printable_byte c.args.text.now c.loop-byte.byte-index 0 (omega arith)))
    (grows-more c.loop-byte.invariant c.put_printable_byte.ensures)

pub returns : goal.returns
returns g c =
    let text = c.args.text.now in
    let all : take c.loop-byte.byte-index text ≡ text = take_all c.loop-byte.byte-index text (omega arith) in
    same-growth (ap (λ l. 34 ∷ (escaped_bytes (map printable_byte l) ++ 34 ∷ [])) all)
    (grows-more c.put_byte.ensures (grows-more c.loop-byte.invariant c.put_byte-2.ensures))
