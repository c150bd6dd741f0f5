use Rattle.std.proofs.Common.{◌≤◌, ◌+◌, ℕ, List, length, take, flat_map, sym, ap, ◌∙◌, arith}
use Rattle.std.proofs.lemmas.List.{length-append, take_all}
use Rattle.lin_frame.specs.declared.layout.Place.{Place}
use Rattle.lin_text.proofs.Growing.{grows-more, same-growth}
use Rattle.lin_export.specs.Json.{with_commas}
use Rattle.lin_export.specs.Jsonl.{meaning_members, place_meanings}
use Rattle.lin_export.proofs.ListedLines.{no_place}
use Rattle.lin_export.proofs.Objects.{joined-meaning, meaning-one}
use Rattle.lin_export.proofs.Places.{places_of, said-more}
use Rattle.lin_export.proofs.slot_meanings.put_frame_meanings.Goals as goal

pub loop-place-preserved : goal.loop-place-preserved
loop-place-preserved g c =
    let x = c.args.cluster.now in
    let k = c.args.coded.now in
    let column = c.args.column in
    let i = c.loop-place.place in
    let answer = c.args.answer.now in
    let ps = places_of x c.args.frame in
    let v = c.value_at-signal.result in
    let more = said-more (meaning_members column x k) answer ps i v (omega arith) (c.value_at-signal.ensures.value no_place) in
    let before : List (List ℕ) = flat_map (place_meanings column x k answer) (take i ps) in
    let text = rw c.meaning-meaning.ensures at c.put_meaning-members.ensures.text in
    let number = rw c.meaning-meaning.ensures at c.put_meaning-members.ensures.number in
    let one : length (meaning_members column x k v.0 v.1) ≤ 1 = meaning-one column x k v.0 v.1 in
    record {
      text =
          same-growth (sym (ap with_commas more ∙ joined-meaning column x k v.0 v.1 before _ c.loop-place.invariant.number))
          (grows-more c.loop-place.invariant.text text);
      number =
          number ∙ ap (λ n. n + length (meaning_members column x k v.0 v.1)) c.loop-place.invariant.number
          ∙ sym (length-append before _) ∙ ap (λ (ms : List (List ℕ)). length ms) (sym more);
      few = let before = c.loop-place.invariant.few in omega arith;
    }

pub returns : goal.returns
returns g c =
    let x = c.args.cluster.now in
    same-growth
    (ap (λ (ps : List (ℕ × Place)). with_commas (flat_map (place_meanings c.args.column x c.args.coded.now c.args.answer.now) ps))
    (take_all c.loop-place.place (places_of x c.args.frame) (omega arith)))
    c.loop-place.invariant.text
