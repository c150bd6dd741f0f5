use Rattle.std.proofs.Common.{◌≡◌, ◌<◌, ◌∙◌, List, ℕ, [], length, get_or, ap, arith}
use Rattle.std.specs.Str.{bytes_eq}
use Rattle.std.proofs.lemmas.List.{get_or_default}
use Rattle.lin_cluster.proofs.NamesFound.{any-within}
use Rattle.lin_sections.specs.SignalPlaces.{number_among}
use Rattle.lin_sections.proofs.diff.signal_facts.Places.of.Goals as goal

pub returns-then-len-number : goal.returns-then-len-number
returns-then-len-number c = λ names places are among.
    let is : c.number_of-number.result ≡ number_among names c.args.signal.now = c.number_of-number.ensures names are.numbers are.size in
    let size : length c.args.self.now.all.items ≡ length names = are.size in
    let within : number_among names c.args.signal.now < length names = any-within (λ t. bytes_eq t c.args.signal.now) names among in
    absurd (omega arith)

pub returns : goal.returns
returns c = λ names places are among.
    let all : List (List (List ℕ)) = c.args.self.now.all.items in
    let is : c.number_of-number.result ≡ number_among names c.args.signal.now = c.number_of-number.ensures names are.numbers are.size in
    let within : c.number_of-number.result < length all = omega arith in
    c.as_slice.ensures ∙ c.index.ensures
    ∙ get_or_default all c.number_of-number.result c.index.result.now [] within
    ∙ ap (λ n. get_or all n []) is ∙ are.each c.args.signal.now among
