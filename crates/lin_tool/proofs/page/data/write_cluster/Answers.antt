use Rattle.std.proofs.Common.{◌∙◌, List, [], ℕ, Option, Ok, ap, refl, sym, append-nil}
use Rattle.lin_text.specs.Written.{WritesText}
use Rattle.lin_export.proofs.Puttings.{writes-nothing, written-short, written-same}
use Rattle.lin_tool.specs.Page.{cluster_lines}
use Rattle.lin_tool.specs.PageFields.{guarded_text}
use Rattle.lin_tool.proofs.page.data.write_cluster.Goals as goal

pub returns-in_err-lines : goal.returns-in_err-lines
returns-in_err-lines g c = written-short {F = Unit} (guarded_text (cluster_lines c.args.cluster.now)) c.from_residual.ensures.0 refl (writes-nothing _)

pub returns-in_err-write_guarded : goal.returns-in_err-write_guarded
returns-in_err-write_guarded g c =
    let is = ap guarded_text (c.as_slice.ensures.value ∙ c.in_ok-lines.ensures) in
    written-short [] c.from_residual-in_err-write_guarded.ensures.0 (sym (append-nil _)) (written-same is c.write_guarded.ensures)

-- after Ok
done : {E F : Type 0} {a b : Option (List ℕ)} {s : List ℕ} (u : Unit) → WritesText {E = F} a b (Ok u) s → WritesText {E = E} a b (Ok tt) s
done u h = record { part = h.part; rest = h.rest; written = h.written; whole = h.whole; all = h.all }

pub returns : goal.returns
returns g c =
    let is = ap guarded_text (c.as_slice.ensures.value ∙ c.in_ok-lines.ensures) in
    done c.in_ok-write_guarded.field-0 (written-same is (rw c.in_ok-write_guarded.was at c.write_guarded.ensures))
