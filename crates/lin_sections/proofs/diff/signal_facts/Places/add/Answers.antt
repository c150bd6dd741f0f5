use Rattle.std.proofs.Common.{◌≡◌, ◌<◌, ◌≤◌, ◌∙◌, List, ℕ, [], length, get_or, set, ap, arith}
use Rattle.std.proofs.Math.ListN.{length-set}
use Rattle.std.proofs.lemmas.List.{get_or_default}
use Rattle.lin_sections.specs.SignalPlaces.{number_among, places_under}
use Rattle.lin_sections.specs.SortedTexts.{insert_text}
use Rattle.lin_sections.proofs.PlacesOfSignals.{place-added, place-left}
use Rattle.lin_sections.proofs.diff.signal_facts.Places.add.Goals as goal

pub returns-then-len-number : goal.returns-then-len-number
returns-then-len-number c = λ names places are.
    let all = c.args.self.now.all.items in
    let is : c.number_of-number.result ≡ number_among names c.args.signal.now = c.number_of-number.ensures names are.numbers are.size in
    let size : length all ≡ length names = are.size in
    let past : length names ≤ number_among names c.args.signal.now = omega arith in
    record {
      numbers = are.numbers;
      size = are.size;
      each = place-left names all places c.args.signal.now c.args.place past are.each;
    }

pub returns : goal.returns
returns c = λ names places are.
    let all : List (List (List ℕ)) = c.args.self.now.all.items in
    let n : ℕ = c.number_of-number.result in
    let is : n ≡ number_among names c.args.signal.now = c.number_of-number.ensures names are.numbers are.size in
    let size : length all ≡ length names = are.size in
    let within : n < length all = omega arith in
    let inserted : c.insert_sorted.new.texts ≡ insert_text (get_or all n []) c.args.place =
    c.in_ok-insert_sorted.ensures ∙ ap (λ ps. insert_text ps c.args.place) (c.index_mut.ensures.value ∙ get_or_default all n c.index_mut.result.now [] within) in
    record {
      numbers = are.numbers;
      size = length-set all n c.insert_sorted.new.texts ∙ size;
      each = λ q among. ap (λ ps. places_under names (set all n ps) q) inserted
          ∙ place-added names all places c.args.signal.now c.args.place n is size (omega arith) are.each q among;
    }
