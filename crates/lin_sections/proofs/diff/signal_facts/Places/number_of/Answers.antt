use Rattle.std.proofs.Common.{◌≡◌, ◌∙◌, length, arith}
use Rattle.std.specs.Str.{bytes_eq}
use Rattle.lin_cluster.proofs.NamesFound.{none_numbered, number_found}
use Rattle.lin_sections.proofs.diff.signal_facts.Places.number_of.Goals as goal

pub returns-in-Some : goal.returns-in-Some
returns-in-Some c = λ names are size. number_found (λ t. bytes_eq t c.args.signal.now) names c.in-Some.number (c.in-Some.ensures names are)

pub returns-in-None : goal.returns-in-None
returns-in-None c = λ names are size.
    let count : c.len.result ≡ length c.args.self.now.all.items = omega arith in
    count ∙ size ∙ none_numbered (λ t. bytes_eq t c.args.signal.now) names (c.in-None.ensures names are)
