use Rattle.std.proofs.Common.{◌≡◌, ◌∙◌, ◌++◌, ◌∷◌, [], ℕ, Bool, List, map, ap, sym}
use Rattle.std.specs.Prelude.{not}
use Rattle.std.proofs.Math.Path.{fun_ext}
use Rattle.std.proofs.lemmas.List.Elements.{filter-append}
use Rattle.lin_sections.specs.NewNames.{alone, has_in, keyed_name, KeyedName}
use Rattle.lin_sections.specs.Renames.{all_responder_keys, commander_key, node_keys}
use Rattle.lin_sections.specs.Things.{compared_data}
use Rattle.lin_sections.specs.declared.diff.new_names.Keyed.{Keyed}
use Rattle.lin_sections.proofs.diff.node_facts.keys.Goals as goal

pub returns : goal.returns
returns c =
    let d = c.args.facts.now.ldf.description.now in
    let has : List ℕ → Bool = has_in c.in_ok-others.others.map in
    let none : c.new-keys.result.items ≡ [] = cc in
    c.in_ok-add_responder_keys.ensures
    ∙ (λ j. c.in_ok-add_commander_key.ensures j ++ alone has (all_responder_keys (c.attributes-attributes.ensures j) (c.slaves.ensures.value j)))
    ∙ ap (λ (ks : List Keyed). (map keyed_name ks ++ alone has (commander_key d ∷ [])) ++ alone has (all_responder_keys d.attributes d.slaves)) none
    ∙ sym (filter-append (λ (k : KeyedName). not (has k.name)) (commander_key d ∷ []) (all_responder_keys d.attributes d.slaves))
    ∙ ap (λ (h : List ℕ → Bool). alone h (node_keys (compared_data c.args.facts.now.ldf))) (fun_ext c.in_ok-others.ensures)
