use Rattle.std.proofs.Common.{◌∷◌, [], ℕ, List, take, flat_map, sym, ap, ◌∙◌, arith}
use Rattle.std.proofs.lemmas.List.{take_all}
use Rattle.lin_frame.specs.declared.layout.Place.{Place}
use Rattle.lin_frame.specs.declared.value.Value.{Value}
use Rattle.lin_parts.specs.Cluster.{signal_of}
use Rattle.lin_log.specs.Words.{Word}
use Rattle.lin_log.specs.Words.Word.{Raw, Said}
use Rattle.lin_text.proofs.Growing.{grows-more, same-growth}
use Rattle.lin_export.specs.Named.{named_words, signal_words}
use Rattle.lin_export.proofs.ListedLines.{no_place}
use Rattle.lin_export.proofs.Places.{places_of, said-more}
use Rattle.lin_export.proofs.Lines.{named-append}
use Rattle.lin_export.proofs.named.put_signals.Goals as goal

pub loop-place-preserved : goal.loop-place-preserved
loop-place-preserved g c =
    let x = c.args.cluster.now in
    let answer = c.args.answer.now in
    let ps = places_of x c.args.frame in
    let i = c.loop-place.place in
    let words : ℕ → Value → List Word = λ s v. Said (signal_of x s).name ∷ Raw v ∷ [] in
    let more = said-more words answer ps i c.value_at-signal.result (omega arith) (c.value_at-signal.ensures.value no_place) in
    same-growth (sym (ap (named_words x) more ∙ named-append x (flat_map (signal_words x answer) (take i ps)) _))
    (grows-more c.loop-place.invariant (rw c.signal_name-name.ensures at c.put_words.ensures))

pub returns : goal.returns
returns g c =
    let x = c.args.cluster.now in
    same-growth
    (ap (λ (ps : List (ℕ × Place)). named_words x (flat_map (signal_words x c.args.answer.now) ps))
    (take_all c.loop-place.place (places_of x c.args.frame) (omega arith)))
    c.loop-place.invariant
