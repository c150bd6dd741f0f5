use Rattle.std.proofs.Common.{◌∙◌, ◌++◌, [], refl, sym, ap, append_assoc, arith}
use Rattle.lin_text.proofs.Digits.{encode-four}
use Rattle.lin_text.proofs.Growing.{grows-more, grows-nothing, same-growth}
use Rattle.lin_text.proofs.buffered.TextWriter.put_hex.Goals as goal

pub loop-left-init : goal.loop-left-init
loop-left-init g c = ([], grows-nothing c.args.self.now, refl)

pub returns : goal.returns
returns g c =
    let (done, grown, e) = c.loop-left.invariant in
    same-growth (sym e) (grows-more grown c.put_hex_of_few.ensures)

pub loop-left-preserved : goal.loop-left-preserved
loop-left-preserved g c =
    let (done, grown, e) = c.loop-left.invariant in
    let xs = c.loop-left.left.now in
    let four = encode-four xs (omega arith) in
    (_, grows-more grown c.put_hex_of_four.ensures, e ∙ ap (λ l. done ++ l) four ∙ sym (append_assoc done _ _))
