use Rattle.std.proofs.Common.{◌≡◌, ◌∙◌, Some, None, ap, cond, length, sym, true, false}
use Rattle.std.specs.Prelude.{codes}
use Rattle.std.specs.Str.{bytes_eq}
use Rattle.lin_bench.specs.OnLines.{off_at}
use Rattle.lin_bench.specs.Parts.{fields_of}
use Rattle.lin_bench.proofs.WordedLines.{off-at}
use Rattle.lin_bench.proofs.on_lines.off_at.Goals as goal

pub returns-then-eq : goal.returns-then-eq
returns-then-eq c =
    let before = fields_of c.in_ok-before.before in
    let is : bytes_eq c.in_ok-before.last.now (codes "off") ≡ true = sym (rw c.as_slice.ensures at c.if-eq.ensures) in
    sym (ap off_at c.in_ok-before.ensures ∙ off-at before c.in_ok-before.last.now ∙ ap (λ b. cond b (Some (length before)) None) is ∙ ap Some (sym c.len.ensures))

pub returns-else-eq : goal.returns-else-eq
returns-else-eq c =
    let before = fields_of c.in_ok-before.before in
    let is : bytes_eq c.in_ok-before.last.now (codes "off") ≡ false = sym (rw c.as_slice.ensures at c.if-eq.ensures) in
    sym (ap off_at c.in_ok-before.ensures ∙ off-at before c.in_ok-before.last.now ∙ ap (λ b. cond b (Some (length before)) None) is)
