use Rattle.std.proofs.Common.{◌≡◌, ◌∷◌, ◌∙◌, ℕ, List, [], ap, flat_map, map, refl, sym}
use Rattle.std.specs.Prelude.{Option, Some, None}
use Rattle.std.specs.Fmt.{decimal}
use Rattle.std.specs.Option.{option_to_list}
use Rattle.lin_parts.specs.Cluster.{named_table}
use Rattle.lin_core.specs.History.{good, seen_of}
use Rattle.lin_core.specs.Tables.{look_of, look_word}
use Rattle.lin_log.specs.CallerTexts.{seen_text}
use Rattle.lin_log.specs.Language.{Language, named_language}
use Rattle.lin_log.specs.Words.{hex_word, spaced_word, word_text}
use Rattle.lin_log.specs.Words.Word.{Hex}
use Rattle.lin_text.proofs.Growing.{grows-more, same-growth}
use Rattle.lin_export.specs.Open.{tracked_slot}
use Rattle.lin_export.specs.Shown.{data_of, slot_name}
use Rattle.lin_export.proofs.Rows.{flat-append}
use Rattle.lin_export.proofs.last_slot.put_slot.Goals as goal

data-texts : (l : Language) (o : Option (List ℕ)) → map (word_text l) (map (λ answer. Hex (data_of answer)) (option_to_list o)) ≡ map (λ answer. hex_word (data_of answer)) (option_to_list o)
data-texts l None = refl
data-texts l (Some answer) = refl

pub returns : goal.returns
returns g c =
    let x = c.args.cluster.now in
    let t = c.args.track.now in
    let s = tracked_slot c.args.slot.now in
    let how = seen_text (look_word (look_of (seen_of s))) in
    let texts : List (List ℕ) → List (List ℕ) = λ bytes.
    decimal t.slots ∷ decimal t.time ∷ seen_text (named_table x s.table).name ∷ decimal s.entry ∷ seen_text (slot_name x s) ∷ how ∷ bytes in
    let bytes = map (λ answer. hex_word (data_of answer)) (option_to_list (good s)) in
    same-growth
    (sym (ap (λ bs. flat_map spaced_word (texts bs)) (data-texts (named_language x) (good s)) ∙ flat-append spaced_word (texts []) bytes))
    (grows-more
    (rw (c.slots.ensures, c.time.ensures, c.table_name.ensures, c.table.ensures, c.from.ensures, c.entry.ensures, c.slot_name.ensures, c.word.ensures ∙ ap look_word (c.kind.ensures ∙ ap look_of c.look.ensures)) at c.put_words.ensures)
    c.put_data.ensures)
