use Rattle.std.proofs.Common.{arith, ap, sym, ◌∙◌, ◌*◌}
use Rattle.std.proofs.lemmas.List.{length-set}
use Rattle.std.specs.Result.{result_ok}
use Rattle.hex.proofs.HexLemmas.{decode_of-even}
use Rattle.hex.proofs.Pairs.{decode_done, decode_err, decode_step}
use Rattle.lin_log.proofs.HexPairs.{err-then, ok-then}
use Rattle.lin_log.proofs.digits.decoded.Goals as goal

pub returns-in-None : goal.returns-in-None
returns-in-None c =
    let bad = err-then _ (c.in-None.ensures (2 * c.loop-at.at)) in
    let refused = decode_err _ c.loop-at.bytes.items c.loop-at.at bad.0 (omega (arith, c.if-digits-ne0.false)) bad.1 c.loop-at.invariant.pairs in
    sym (ap result_ok (decode_of-even _ c.if-digits-ne0.false ∙ refused))

pub loop-at-preserved : goal.loop-at-preserved
loop-at-preserved c = record {
  sized = rw (length-set c.loop-at.bytes.items c.loop-at.at c.in-Some.byte) c.loop-at.invariant.sized;
  pairs = decode_step _ c.loop-at.bytes.items c.loop-at.at _ (omega (arith, c.if-digits-ne0.false)) (omega (arith, c.if-digits-ne0.false)) (ok-then _ _ (c.in-Some.ensures (2 * c.loop-at.at))) c.loop-at.invariant.pairs;
}

pub returns : goal.returns
returns c =
    sym (ap result_ok (decode_of-even _ c.if-digits-ne0.false ∙ decode_done _ c.loop-at.bytes.items c.loop-at.at (omega (arith, c.if-digits-ne0.false)) (omega (arith, c.if-digits-ne0.false)) c.loop-at.invariant.pairs))
