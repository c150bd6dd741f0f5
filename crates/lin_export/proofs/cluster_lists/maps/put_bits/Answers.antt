use Rattle.std.proofs.Common.{◌≡◌, ℕ, ◌+◌, ◌-◌, ◌*◌, ◌∷◌, [], List, map, codes, arith}
use Rattle.std.specs.Fmt.{decimal}
use Rattle.lin_frame.specs.Words.{numbers}
use Rattle.lin_log.specs.Words.{spaced_word}
use Rattle.lin_log.proofs.Ends.{grows-ended}
use Rattle.lin_text.proofs.Growing.{grows-more, grows-nothing, same-growth}
use Rattle.lin_export.specs.Marks.{bit_mark}
use Rattle.lin_export.proofs.ListedLines.{grows-number, head-and-members}
use Rattle.lin_export.proofs.cluster_lists.maps.put_bits.Goals as goal

pub loop-bit-init : goal.loop-bit-init
loop-bit-init g c = grows-nothing c.put_head.new.out

pub loop-bit-preserved : goal.loop-bit-preserved
loop-bit-preserved g c =
    grows-number (λ j. spaced_word (bit_mark c.args.layout.now (8 * c.args.byte + (7 - j)) ∷ [])) c.loop-bit.bit c.loop-bit.invariant
    (rw (c.bit_mark.ensures, c.from-in-loop-bit.ensures) at c.put_sign.ensures)

pub returns : goal.returns
returns g c =
    let all : c.loop-bit.bit ≡ 8 = omega arith in
    let head : List (List ℕ) = decimal c.args.frame ∷ decimal c.args.byte ∷ [] in
    let marks : List (List ℕ) = map (λ j. bit_mark c.args.layout.now (8 * c.args.byte + (7 - j)) ∷ []) (numbers 8) in
    same-growth (head-and-members (codes "bits") head marks)
    (grows-more (rw (c.from.ensures, c.from-2.ensures) at c.put_head.ensures) (grows-ended marks (rw all at c.loop-bit.invariant) c.put_byte.ensures))
