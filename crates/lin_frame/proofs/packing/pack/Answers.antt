use Rattle.std.proofs.Common.{◌≡◌, ◌-◌, ◌++◌, take, drop, replicate, ap, sym, ◌∙◌, arith}
use Rattle.std.specs.Int.{to_le_bytes, w64}
use Rattle.std.proofs.lemmas.List.{take-append-drop}
use Rattle.lin_frame.specs.Bits.{frame_bit, packed_bytes}
use Rattle.lin_frame.proofs.Numbers.{bytes_of_bits, ones_after}
use Rattle.lin_frame.proofs.PlacedBits.{frame_bit-after, good-parts}
use Rattle.lin_frame.proofs.packing.pack.Goals as goal

pub returns : goal.returns
returns c =
    let layout = c.args.layout.now in
    let values = c.args.values.now in
    let w = c.frame_word.result in
    let few = (good-parts layout c.requires.good).1 in
    let bytes : packed_bytes layout values ≡ take layout.len (to_le_bytes w64 w) =
    bytes_of_bits layout.len w (frame_bit layout values) few (λ b l. sym (c.frame_word.ensures b (omega (arith, few)))) in
    let rest : drop layout.len (to_le_bytes w64 w) ≡ replicate (8 - layout.len) 255 =
    ones_after layout.len w few (λ b l h. c.frame_word.ensures b h ∙ frame_bit-after layout values b c.requires.good l) in
    c.to_le_bytes.ensures
    ∙ sym (take-append-drop layout.len (to_le_bytes w64 w))
    ∙ ap (λ xs. xs ++ drop layout.len (to_le_bytes w64 w)) (sym bytes)
    ∙ ap (λ xs. packed_bytes layout values ++ xs) rest
