use Rattle.std.proofs.Common.{◌+◌, ◌++◌, ◌∙◌, sym, ap, append_assoc, drop, arith}
use Rattle.lin_ldf.specs.declared.token.TokenKind.TheVariants.{Semicolon}
use Rattle.lin_text.proofs.Growing.{grows-more}
use Rattle.lin_field.specs.Plain.{before_end, table_entries_text, entry_text}
use Rattle.lin_field.proofs.PlainWords.{entries-next}
use Rattle.lin_field.proofs.plain.declaration_lines.put_entries.Goals as goal

pub loop-entry-preserved : goal.loop-entry-preserved
loop-entry-preserved g c =
    let source = c.args.source.now in
    let entries = c.args.entries.now in
    let i = c.loop-entry.entry-index in
    let ts = c.loop-entry.rest.now in
    let e = c.entry-item.result in
    let before = c.loop-entry.invariant in (
      before.0 ++ entry_text source e ts,
      grows-more before.1 c.put_entry.ensures,
      before.2 ∙ ap (λ l. before.0 ++ l) (entries-next source entries i e ts c.entry-item.is (omega arith))
          ∙ sym (append_assoc before.0 (entry_text source e ts) (table_entries_text source (drop (i + 1) entries) (before_end Semicolon 0 ts).1))
          ∙ ap (λ r. (before.0 ++ entry_text source e ts) ++ table_entries_text source (drop (i + 1) entries) r) (sym c.after-rest.ensures),
    )
