use Rattle.std.proofs.Common.{◌≡◌, ◌++◌, ◌∙◌, true, false, List, map, append-nil, ap, sym}
use Rattle.std.proofs.lemmas.Result.{on_ok_weaker}
use Rattle.lin_parts.specs.declared.description.Signal.{Signal}
use Rattle.lin_sections.specs.NewNames.{has_in, is_among, keyed_name, KeyedName}
use Rattle.lin_sections.specs.Renames.{signal_key}
use Rattle.lin_sections.proofs.PlacesOfSignals.{key-kept, key-left}
use Rattle.lin_sections.proofs.diff.signal_facts.add_key_if_alone.Goals as goal

pub returns-then-has : goal.returns-then-has
returns-then-has c = λ names all are among.
    let s : Signal = c.args.signal.now in
    let olds : List KeyedName = map keyed_name c.args.keys.now.items in
    let there : has_in c.args.others.now.map s.name.text ≡ true =
    ap (has_in c.args.others.now.map) (sym c.as_slice-name.ensures) ∙ sym c.has.ensures ∙ c.if-has.true in
    sym (ap (λ ks. olds ++ ks) (key-left (has_in c.args.others.now.map) s (all s.name.text) there) ∙ append-nil olds)

pub returns : goal.returns
returns c =
    let s : Signal = c.args.signal.now in
    let olds : List KeyedName = map keyed_name c.args.keys.now.items in
    let free : has_in c.args.others.now.map s.name.text ≡ false =
    ap (has_in c.args.others.now.map) (sym c.as_slice-name.ensures) ∙ sym c.has.ensures ∙ c.if-has.false in
    on_ok_weaker c.add_key.result
    (λ is names all are among.
    let found : c.of.result.now ≡ all c.as_slice-name.result.now =
    c.of.ensures names all are (ap (λ t. is_among names t) c.as_slice-name.ensures ∙ among free) in
    is ∙ ap (λ ps. olds ++ signal_key s ps) (found ∙ ap all c.as_slice-name.ensures)
    ∙ ap (λ ks. olds ++ ks) (sym (key-kept (has_in c.args.others.now.map) s (all s.name.text) free)))
    c.add_key.ensures
