use Rattle.std.proofs.Common.{◌≡◌, ◌+◌, ◌++◌, ◌∷◌, [], add-one, arith, get_or, sym, take}
use Rattle.std.proofs.Math.Seq.{take-suc}
use Rattle.lin_text.proofs.Growing.{grows-more, grows-nothing, same-growth}
use Rattle.lin_text.proofs.buffered.TextWriter.put_few.Goals as goal

pub loop-byte-init : goal.loop-byte-init
loop-byte-init g c = grows-nothing c.args.self.now

pub loop-byte-preserved : goal.loop-byte-preserved
loop-byte-preserved g c =
    let bytes = c.args.bytes.now in
    let i = c.loop-byte.byte-index in
    let next : take (i + 1) bytes ≡ take i bytes ++ (get_or bytes i 0 ∷ []) = rw (add-one) (take-suc bytes i 0 (omega arith)) in
    same-growth (sym next) (grows-more c.loop-byte.invariant c.put_byte.ensures)
