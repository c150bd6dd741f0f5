use Rattle.std.proofs.Common.{◌≡◌, ◌∙◌, ◌++◌, ◌∷◌, ◌+◌, [], append_assoc, append-nil, ap, arith, drop, flat_map, refl, sym}
use Rattle.std.proofs.lemmas.Grind.{common_steps}
use Rattle.std.proofs.lemmas.List.{drop_more}
use Rattle.lin_text.proofs.Growing.{grows-more, grows-nothing, same-growth}
use Rattle.lin_log.proofs.Logs.{entry_text, text-entries}
use Rattle.lin_log.proofs.entries.put_entries.Goals as goal

pub loop-index-init : goal.loop-index-init
loop-index-init g c = ([], grows-nothing c.args.out.now, refl)

pub loop-index-preserved : goal.loop-index-preserved
loop-index-preserved g c =
    let entries = c.args.log.now.entries in
    let index = c.loop-index.index in
    let entry = c.entry.result.now in
    let so_far = c.loop-index.invariant in
    let rest = drop (index + 1) entries in
    let next : drop index entries ≡ entry ∷ rest = drop_more entries index entry (omega arith) ∙ ap (λ e. e ∷ rest) (sym c.entry.ensures) in (
      so_far.0 ++ entry_text entry,
      grows-more so_far.1 c.put_entry.ensures,
      append_assoc so_far.0 (entry_text entry) (flat_map entry_text rest) ∙ ap (λ es. so_far.0 ++ flat_map entry_text es) (sym next) ∙ so_far.2,
    )

pub returns : goal.returns
returns g c =
    let entries = c.args.log.now.entries in
    let so_far = c.loop-index.invariant in
    let none : drop c.loop-index.index entries ≡ [] = grind (arith, common_steps) in
    same-growth (sym (append-nil so_far.0) ∙ ap (λ es. so_far.0 ++ flat_map entry_text es) (sym none) ∙ so_far.2 ∙ text-entries (drop c.args.from entries)) so_far.1
