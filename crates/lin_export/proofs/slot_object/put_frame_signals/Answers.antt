use Rattle.std.proofs.Common.{ℕ, List, take, map, if◌then◌else◌, ◌==◌, ◌++◌, [], sym, ap, ◌∙◌, arith}
use Rattle.std.proofs.lemmas.List.{take_all}
use Rattle.lin_frame.specs.declared.layout.Place.{Place}
use Rattle.lin_frame.specs.declared.value.Value.{Value}
use Rattle.lin_parts.specs.Cluster.{signal_of}
use Rattle.lin_text.proofs.Growing.{grows-more, same-growth}
use Rattle.lin_export.specs.Csv.{after_comma}
use Rattle.lin_export.specs.Json.{with_commas, member}
use Rattle.lin_export.specs.Jsonl.{signal_member, signal_value}
use Rattle.lin_export.proofs.ListedLines.{no_place}
use Rattle.lin_export.proofs.Objects.{joined-more}
use Rattle.lin_export.proofs.Places.{places_of}
use Rattle.lin_export.proofs.slot_object.put_frame_signals.Goals as goal

pub loop-place-preserved : goal.loop-place-preserved
loop-place-preserved g c =
    let x = c.args.cluster.now in
    let i = c.loop-place.place in
    let answer = c.args.answer.now in
    let pairs = places_of x c.args.frame in
    let before : List ℕ → List ℕ = λ l. with_commas (map (signal_member x answer) (take i pairs)) ++ ((if i == 0 then [] else after_comma []) ++ l) in
    same-growth
    (sym (joined-more (signal_member x answer) pairs i (0, no_place) (omega arith)
    ∙ ap (λ (v : ℕ × Value). before (member (signal_of x v.0).name (signal_value v.1))) (sym (c.value_at-signal.ensures.value no_place))))
    (grows-more c.loop-place.invariant (grows-more c.put_separator.ensures (rw c.signal_name.ensures at c.put_signal.ensures)))

pub returns : goal.returns
returns g c =
    let x = c.args.cluster.now in
    same-growth
    (ap (λ (ps : List (ℕ × Place)). with_commas (map (signal_member x c.args.answer.now) ps)) (take_all c.loop-place.place (places_of x c.args.frame) (omega arith)))
    c.loop-place.invariant
