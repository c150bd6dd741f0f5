use Rattle.std.proofs.Common.{◌≡◌, ◌==◌, true, length, sym, ap, ◌∙◌, List, ℕ}
use Rattle.lin_parts.specs.Cluster.{frames_with}
use Rattle.lin_text.proofs.Growing.{grows-more}
use Rattle.lin_tool.proofs.page.data.put_alone.Goals as goal

pub returns-then-is_empty : goal.returns-then-is_empty
returns-then-is_empty g c =
    let alone : (length (frames_with c.args.cluster.now c.args.signal) == 0) ≡ true =
    ap (λ (fs : List ℕ). length fs == 0) (sym c.frames_with.ensures.frames) ∙ sym c.is_empty.ensures ∙ c.if-is_empty.true in
    rw alone (grows-more c.put_text.ensures (grows-more c.put_number.ensures (grows-more (rw c.initial.ensures at c.put_value.ensures) c.put_byte.ensures)))
