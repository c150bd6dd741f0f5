use Rattle.std.proofs.Common.{◌≡◌, ◌==◌, false, slice_index, arith}
use Rattle.std.proofs.lemmas.Bool.Decides.{nat_tests}
use Rattle.lin_export.proofs.named.put_request.Goals as goal

pub returns-else-byte_at-eq0 : goal.returns-else-byte_at-eq0
returns-else-byte_at-eq0 g c =
    let awake : (slice_index c.args.answer.now 0 == 0) ≡ false = grind (arith, nat_tests, c.byte_at.ensures, c.if-byte_at-eq0.false) in
    rw awake c.put_transport.ensures
