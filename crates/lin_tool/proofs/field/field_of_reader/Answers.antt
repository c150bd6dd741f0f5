use Rattle.std.proofs.Common.{◌≡◌, ap, ◌∙◌, List, Some, true}
use Rattle.lin_ldf.specs.Stream.{start_of}
use Rattle.lin_ldf.specs.Symbols.{symbols_in}
use Rattle.lin_parts.specs.declared.description.Name.{Name}
use Rattle.lin_tool.specs.Coding.{sections_read}
use Rattle.lin_tool.specs.declared.coding.ExtraSections.{ExtraSections}
use Rattle.lin_tool.proofs.FieldTexts.{all_lent, checked, not_both}
use Rattle.lin_tool.proofs.field.field_of_reader.Goals as goal
use Rattle.lin_tool.proofs.field.field_of_reader.Goals.{then-not-extras, else-not-extras}

pub returns : goal.returns
returns g c =
    let (is, short) = c.in_ok-bytes.ensures in
    let both = rw c.as_mut_slice.ensures.value at c.in_ok-settled.ensures in
    let left : c.as_slice-left.result.now ≡ c.settled_noted.new.bytes =
    c.as_slice-left.ensures.value ∙ all_lent _ c.settled_noted.new.bytes _ (c.settled_noted.auto.bytes ∙ c.as_mut_slice.ensures.len) in
    let settled = c.in_ok-settled.settled in
    let read : List Name → ExtraSections =
    λ wide. sections_read (Some wide) c.args.extras settled.description (symbols_in c.as_slice-left.result.now (start_of c.as_slice-left.result.now).tokens) in
    let says = c.in_ok-sections.ensures.read ∙ ap read c.as_slice-wide.ensures
    ∙ ap (λ bytes. sections_read (Some settled.wide) c.args.extras settled.description (symbols_in bytes (start_of bytes).tokens)) left in
    let same : c.args.extras.is_configured ≡ true → c.as_slice-mended.result.now ≡ c.settled_noted.new.bytes =
    λ on. elim c.if-not-extras.branch [
      | then-not-extras w ↦ not_both c.args.extras.is_configured w.if-not-extras.true on
      | else-not-extras w ↦ c.as_slice-mended.ensures.value ∙ ap (λ v. v.items) w.bytes-is
          ∙ all_lent _ c.settled_noted.new.bytes _ (c.settled_noted.auto.bytes ∙ c.as_mut_slice.ensures.len)
    ] in
    checked c.args.extras c.cluster_noted.result c.in_ok-bytes.bytes.items c.settled_noted.new.bytes c.as_slice-mended.result.now settled
    c.in_ok-sections.sections c.cluster_noted.new.notes.warnings (g.R.Read.remaining c.args.reader.now) is short both says same c.cluster_noted.ensures
