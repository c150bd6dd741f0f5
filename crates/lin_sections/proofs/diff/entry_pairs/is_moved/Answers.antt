use Rattle.std.proofs.Common.{◌≡◌, ◌∙◌, ◌+◌, ◌<◌, Some, false, get_or, length, map, ap, arith}
use Rattle.std.specs.List.{position_from}
use Rattle.std.specs.Option.{option_map_or}
use Rattle.std.specs.Str.{bytes_eq}
use Rattle.lin_sections.specs.Differences.{place_of_entry, was_moved}
use Rattle.lin_sections.specs.Numbering.{entry_id}
use Rattle.lin_sections.specs.declared.diff.fact.EntryFact.{EntryFact}
use Rattle.lin_sections.proofs.Found.{mapped-length}
use Rattle.lin_sections.proofs.Marked.{flag-at, found-below}
use Rattle.lin_sections.proofs.diff.entry_pairs.is_moved.Goals as goal

pub returns-in-Some : goal.returns-in-Some
returns-in-Some c = λ entries places are is.
    let found : Some c.in-Some.place ≡ place_of_entry entries c.args.entry.now =
    c.in-Some.ensures (map entry_id entries) are ∙ ap (λ t. position_from (λ id. bytes_eq id t) 0 (map entry_id entries)) c.id.ensures in
    let below : c.in-Some.place < 0 + length (map entry_id entries) =
    found-below (λ id. bytes_eq id (entry_id c.args.entry.now)) 0 (map entry_id entries) c.in-Some.place found in
    let within : c.in-Some.place < length entries = omega (arith, mapped-length (λ (e : EntryFact). entry_id e) entries) in
    c.flag_at.ensures
    ∙ ap (λ flags. get_or flags c.in-Some.place false) is
    ∙ flag-at (was_moved places) (length entries) c.in-Some.place within
    ∙ ap (λ o. option_map_or (was_moved places) o false) found

pub returns-in-None : goal.returns-in-None
returns-in-None c = λ entries places are is.
    ap (λ o. option_map_or (was_moved places) o false)
    (c.in-None.ensures (map entry_id entries) are ∙ ap (λ t. position_from (λ id. bytes_eq id t) 0 (map entry_id entries)) c.id.ensures)
