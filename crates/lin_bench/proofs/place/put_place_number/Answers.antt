use Rattle.std.proofs.Common.{◌≡◌, ◌++◌, ◌<◌, ◌≤◌, ℕ, zero, suc, List, [], arith, refl}
use Rattle.std.specs.Prelude.{codes}
use Rattle.lin_text.specs.Written.{Grows}
use Rattle.lin_text.proofs.Growing.{grows-more, grows-nothing, same-growth}
use Rattle.lin_bench.specs.Files.{file_mark, file_name}
use Rattle.lin_bench.specs.declared.files.ScriptFile.{ScriptFile}
use Rattle.lin_bench.proofs.place.put_place_number.Goals.{then-place-gt0, else-place-gt0}
use Rattle.lin_bench.proofs.place.put_place_number.Goals as goal

named-mark : (fs : List ScriptFile) (n : ℕ) → 0 < n → file_name [] fs n ++ codes ":" ≡ file_mark fs n
named-mark fs zero h = absurd (omega (arith, h))
named-mark fs (suc n) h = refl

no-mark : (fs : List ScriptFile) (n : ℕ) → n ≤ 0 → [] ≡ file_mark fs n
no-mark fs zero h = refl
no-mark fs (suc n) h = absurd (omega (arith, h))

pub returns : goal.returns
returns g c =
    let mark : Grows g.W.Write.contents c.args.out.now c.if-place-gt0.out (file_mark c.args.files.now c.args.place.file) =
    elim c.if-place-gt0.branch [
      | then-place-gt0 w ↦
          rw w.out-is
          (same-growth (named-mark c.args.files.now c.args.place.file (omega (arith, w.if-place-gt0.true)))
          (grows-more (rw w.file_name.ensures at w.put.ensures) w.put_text.ensures))
      | else-place-gt0 w ↦
          rw w.out-is
          (same-growth (no-mark c.args.files.now c.args.place.file (omega (arith, w.if-place-gt0.false))) (grows-nothing c.args.out.now))
    ] in
    grows-more mark c.put_number.ensures
