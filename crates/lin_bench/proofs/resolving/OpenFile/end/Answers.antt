use Rattle.std.proofs.Common.{◌≡◌, ◌∙◌, ◌-◌, ◌==◌, Some, ap, arith, false, length, set, sym}
use Rattle.std.specs.Prelude.{slice_get}
use Rattle.std.proofs.lemmas.Bool.Decides.{nat_tests}
use Rattle.lin_bench.proofs.OpenFiles.{block-again}
use Rattle.lin_bench.proofs.resolving.OpenFile.end.Goals as goal

pub returns-else-block-eq0-clause-ended : goal.returns-else-block-eq0-clause-ended
returns-else-block-eq0-clause-ended c =
    let f = c.args.self.now in
    let bs = f.blocks.items in
    let b = c.in-Some.block in
    let found : slice_get bs (length bs - 1) ≡ Some b =
    sym (c.in-Some.ensures ∙ c.last.ensures.value ∙ ap (λ xs. slice_get xs (length xs - 1)) c.as_slice.ensures.value) in
    let at : c.len-last.result - 1 ≡ length bs - 1 = omega (arith, c.len-last.ensures, f.blocks.ok.0) in
    let more : (b.again == 0) ≡ false = grind (arith, nat_tests) in
    block-again f.file f.by f.lines.items f.next bs (set bs (c.len-last.result - 1) (record b { again = b.again - 1 })) b found more
    (ap (λ j. set bs j (record b { again = b.again - 1 })) at)
