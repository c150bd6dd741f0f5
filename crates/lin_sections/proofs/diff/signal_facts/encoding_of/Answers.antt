use Rattle.std.proofs.Common.{◌≡◌, ◌∙◌, ℕ, List, ap}
use Rattle.std.specs.Prelude.{find, option_and_then, option_map, slice_get, Option, Some}
use Rattle.lin_cluster.proofs.NamesFound.{lent-at}
use Rattle.lin_values.specs.Coded.{is_named, named_in}
use Rattle.lin_values.specs.Gathered.{encoding_in, type_number}
use Rattle.lin_values.specs.declared.codings.Codings.{Codings}
use Rattle.lin_sections.proofs.SignalEncodings.{coding-at, no-coding}
use Rattle.lin_sections.proofs.diff.signal_facts.encoding_of.Goals as goal

pub returns-in-Some : goal.returns-in-Some
returns-in-Some c =
    let k : Codings = c.args.facts.now.ldf.codings.now in
    let q : List ℕ = c.args.signal.now.name.text in
    let number : ℕ = c.in-Some.number in
    let is : Some number ≡ option_and_then (λ e. e) (option_map (λ p. type_number k.types p.1) (find (is_named q) (named_in k.lines))) =
    c.in-Some.ensures ∙ ap (encoding_in c.args.facts.now.codings.map) c.as_slice.ensures ∙ ap (option_and_then (λ (e : Option ℕ). e)) (c.requires.codings q) in
    lent-at c.as_slice-in-Some.result.now number c.get.result c.get.ensures.lookup
    ∙ ap (λ ts. slice_get ts number) c.as_slice-in-Some.ensures
    ∙ coding-at k.types (find (is_named q) (named_in k.lines)) number is

pub returns-in-None : goal.returns-in-None
returns-in-None c =
    let k : Codings = c.args.facts.now.ldf.codings.now in
    let q : List ℕ = c.args.signal.now.name.text in
    no-coding k.types (find (is_named q) (named_in k.lines))
    (c.in-None.ensures ∙ ap (encoding_in c.args.facts.now.codings.map) c.as_slice.ensures ∙ ap (option_and_then (λ (e : Option ℕ). e)) (c.requires.codings q))
