use Rattle.std.proofs.Common.{◌==◌, ◌∷◌, [], sym, ◌∙◌}
use Rattle.std.proofs.Common.{lt-ltb}
use Rattle.std.specs.Prelude.{◌||◌, nat_lt}
use Rattle.hex.specs.Hex.{encode_upper}
use Rattle.lin_text.proofs.Growing.{grows-more, same-growth}
use Rattle.lin_export.proofs.ColumnNames.{if-false, if-true}
use Rattle.lin_export.proofs.json.put_escaped_byte.Goals as goal

pub returns-then-is_escaped : goal.returns-then-is_escaped
returns-then-is_escaped g c =
    let b = c.args.byte in
    same-growth (if-true (b == 34 || b == 92) (92 ∷ b ∷ []) _ (sym c.if-is_escaped.ensures)) c.put.ensures

pub returns-then-byte-lt32 : goal.returns-then-byte-lt32
returns-then-byte-lt32 g c =
    let b = c.args.byte in
    let digits = 92 ∷ 117 ∷ 48 ∷ 48 ∷ encode_upper (b ∷ []) in
    same-growth (if-true (nat_lt b 32) digits (b ∷ []) (lt-ltb _ _ c.if-byte-lt32.true) ∙ if-false (b == 34 || b == 92) (92 ∷ b ∷ []) _ (sym c.if-is_escaped.ensures))
    (grows-more c.put-then-byte-lt32.ensures c.put_hex_byte.ensures)
