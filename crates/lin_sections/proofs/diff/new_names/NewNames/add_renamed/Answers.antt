use Rattle.std.proofs.Common.{◌≡◌, ◌+◌, List, [], ◌∷◌, ◌++◌, map, option_map, take, refl, ap, sym, ◌∙◌}
use Rattle.std.specs.Prelude.{find}
use Rattle.std.specs.Option.{option_or}
use Rattle.std.specs.Str.{bytes_eq}
use Rattle.std.proofs.lemmas.List.{map_more, take_all}
use Rattle.lin_sections.specs.NewNames.{keyed_name, known_by, new_name_of, KeyedName}
use Rattle.lin_sections.specs.declared.diff.new_names.Keyed.{Keyed}
use Rattle.lin_sections.proofs.NewNameSteps.{renamed-more}
use Rattle.lin_sections.proofs.diff.new_names.NewNames.add_renamed.Goals as goal

pub loop-old-preserved : goal.loop-old-preserved
loop-old-preserved c = λ q.
    let olds : List KeyedName = map keyed_name c.args.olds.now in
    let news : List KeyedName = map keyed_name c.args.news.now in
    let old : KeyedName = keyed_name c.old-item.result in
    let before : List KeyedName = map keyed_name (take c.loop-old.old-index c.args.olds.now) in
    let more : map keyed_name (take (c.loop-old.old-index + 1) c.args.olds.now) ≡ before ++ old ∷ [] =
    map_more keyed_name c.args.olds.now c.loop-old.old-index c.old-item.result c.loop-old-test.true
    ∙ ap (λ (k : Keyed). before ++ keyed_name k ∷ []) (sym c.old-item.is) in
    renamed-more (new_name_of olds news) before old q c.old-item.result.name.now c.new_name-new.result.now (known_by c.args.self.now q) (known_by c.loop-old.self q) (known_by c.put.new.self q) refl
    (c.new_name-new.ensures olds news (c.in_ok-old_names.ensures old.key) (c.in_ok-new_names.ensures old.key)) (c.loop-old.invariant q) (c.in_ok-put.ensures q)
    ∙ ap (λ ks. option_or (known_by c.args.self.now q) (option_map (new_name_of olds news) (find (λ (k : KeyedName). bytes_eq k.name q) ks))) (sym more)

pub returns : goal.returns
returns c = λ q.
    c.loop-old.invariant q
    ∙ ap (λ (ks : List Keyed). option_or (known_by c.args.self.now q) (option_map (new_name_of (map keyed_name c.args.olds.now) (map keyed_name c.args.news.now)) (find (λ (k : KeyedName). bytes_eq k.name q) (map keyed_name ks))))
    (take_all c.loop-old.old-index c.args.olds.now c.loop-old-test.false)
