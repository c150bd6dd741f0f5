-- Each block that is drafted is a node's.
use Rattle.std.proofs.Common.{◌≡◌, Bool, true, false, cond, List, [], ◌∷◌, get_or, map, refl, ap, Some, None}
use Rattle.std.specs.Prelude.{All, ◌||◌, ◌&&◌, is_none}
use Rattle.std.specs.List.{flat_map}
use Rattle.std.proofs.lemmas.List.Elements.{All-nil, All-cons, All-head, All-tail, All-append}
use Rattle.std.proofs.lemmas.List.Folds.{list_any_at}
use Rattle.lin_cluster.specs.FindingsNames.{same_name}
use Rattle.lin_cluster.proofs.NamesFound.{text-same}
use Rattle.lin_parts.specs.declared.description.Attributes.{Attributes}
use Rattle.lin_parts.specs.declared.description.Name.{Name}
use Rattle.lin_field.specs.Names.{is_loose_node, is_slave, node_list}
use Rattle.lin_field.specs.Attributes.{Elsewhere, told_nad, draft, new_draft, as_list, has_block, new_drafts, node_blocks, drafts}
use Rattle.lin_field.specs.declared.loose.LooseAttributes.{LooseAttributes}
use Rattle.lin_field.specs.declared.loose.LooseNodes.{LooseNodes}

either : (a b : Bool) → b ≡ true → (a || b) ≡ true
either true b e = refl
either false b e = e

same-name : (a : Name) → same_name a a ≡ true
same-name a = text-same a.text a.text refl

listed-nodes : (n : LooseNodes) → All (λ x. is_loose_node n x ≡ true) (node_list n)
listed-nodes n =
    All-cons (λ x. is_loose_node n x ≡ true) n.master n.slaves (ap (λ b. b || is_slave n n.master) (same-name n.master))
    (λ k d lt.
    let x = get_or n.slaves k d
    in either (same_name n.master x) (is_slave n x) (list_any_at (λ m. same_name m x) n.slaves k d lt (same-name x)))

module _ (e : Elsewhere) where
  abbrev IsNodes : Attributes → Type 0
  IsNodes a = is_loose_node e.nodes a.node ≡ true

  kept : (bs : List LooseAttributes) → All IsNodes (map (draft e) (node_blocks e bs))
  kept [] = All-nil IsNodes
  kept (b ∷ bs) =
      elim (is_loose_node e.nodes b.block.node) as (λ t. is_loose_node e.nodes b.block.node ≡ t → All IsNodes (map (draft e) (cond t (b ∷ node_blocks e bs) (node_blocks e bs)))) [
        | true ↦ λ is. All-cons IsNodes (draft e b) (map (draft e) (node_blocks e bs)) is (kept bs)
        | false ↦ λ _. kept bs
      ] refl

  of-new : (x : Name) → is_loose_node e.nodes x ≡ true → All IsNodes (as_list (new_draft e x))
  of-new x known =
      elim (is_none e.version && is_none (told_nad e x)) as (λ t. All IsNodes (as_list (cond t None (Some (record { node = x; protocol = e.version; configured_nad = told_nad e x; response_error = None }))))) [
        | true ↦ All-nil IsNodes
        | false ↦ All-cons IsNodes (record { node = x; protocol = e.version; configured_nad = told_nad e x; response_error = None }) [] known (All-nil IsNodes)
      ]

  new : (bs : List LooseAttributes) (x : Name) → is_loose_node e.nodes x ≡ true → All IsNodes (new_drafts e bs x)
  new bs x known =
      elim (has_block bs x) as (λ t. All IsNodes (cond t [] (as_list (new_draft e x)))) [
        | true ↦ All-nil IsNodes
        | false ↦ of-new x known
      ]

  each : (bs : List LooseAttributes) (xs : List Name) → All (λ x. is_loose_node e.nodes x ≡ true) xs → All IsNodes (flat_map (new_drafts e bs) xs)
  each bs [] all = All-nil IsNodes
  each bs (x ∷ xs) all =
      All-append IsNodes (new_drafts e bs x) (flat_map (new_drafts e bs) xs)
      (new bs x (All-head (λ y. is_loose_node e.nodes y ≡ true) x xs all)) (each bs xs (All-tail (λ y. is_loose_node e.nodes y ≡ true) x xs all))

  pub are_drafted_nodes : (bs : List LooseAttributes) → All (λ a. is_loose_node e.nodes a.node ≡ true) (drafts e bs)
  are_drafted_nodes bs =
      All-append IsNodes (map (draft e) (node_blocks e bs)) (flat_map (new_drafts e bs) (node_list e.nodes))
      (kept bs) (each bs (node_list e.nodes) (listed-nodes e.nodes))
