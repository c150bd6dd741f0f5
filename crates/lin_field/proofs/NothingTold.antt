-- Where nothing is told of nodes outside of their blocks, no block is new.
use Rattle.std.proofs.Common.{◌≡◌, ℕ, suc, true, false, cond, List, [], ◌∷◌, ◌++◌, length, Option, Some, None, refl, sym, ap, ◌∙◌, arith}
use Rattle.std.specs.Prelude.{◌==◌, ◌&&◌, is_none, if◌then◌else◌}
use Rattle.std.specs.List.{flat_map}
use Rattle.std.proofs.lemmas.Bool.{eqb-true}
use Rattle.lin_parts.specs.declared.description.Attributes.{Attributes}
use Rattle.lin_parts.specs.declared.description.Name.{Name}
use Rattle.lin_parts.specs.declared.description.Number.{Number}
use Rattle.lin_field.specs.Names.{is_loose_responder, node_list}
use Rattle.lin_field.specs.Attributes.{Elsewhere, elsewhere_of, line_nad, told_nad, new_draft, as_list, has_block, new_drafts}
use Rattle.lin_field.specs.declared.loose.LooseAttributes.{LooseAttributes}
use Rattle.lin_field.specs.declared.loose.LooseNodes.{LooseNodes}
use Rattle.lin_field.specs.declared.loose.NodeAddress.{NodeAddress}

abbrev nothing : LooseNodes → Elsewhere
nothing nodes = elsewhere_of nodes [] None

no_nad : (nodes : LooseNodes) (node : Name) → told_nad (nothing nodes) node ≡ None
no_nad nodes node = elim (is_loose_responder nodes node) as (λ b. cond b (line_nad (nothing nodes) node) None ≡ None) [ true ↦ refl | false ↦ refl ]

abbrev made : Name → Option Number → List Attributes
made node nad = as_list (if is_none nad then None else Some (record { node = node; protocol = None; configured_nad = nad; response_error = None }))

no_draft : (nodes : LooseNodes) (blocks : List LooseAttributes) (node : Name) → new_drafts (nothing nodes) blocks node ≡ []
no_draft nodes blocks node = elim (has_block blocks node) as (λ b. cond b [] (as_list (new_draft (nothing nodes) node)) ≡ []) [
  | true ↦ refl
  | false ↦ ap (made node) (no_nad nodes node)
]

no_drafts : (nodes : LooseNodes) (blocks : List LooseAttributes) (names : List Name) → flat_map (new_drafts (nothing nodes) blocks) names ≡ []
no_drafts nodes blocks [] = refl
no_drafts nodes blocks (n ∷ ns) = ap (λ ys. ys ++ flat_map (new_drafts (nothing nodes) blocks) ns) (no_draft nodes blocks n) ∙ no_drafts nodes blocks ns

by_parts : (nodes : LooseNodes) (lines : List NodeAddress) (version : Option (List ℕ)) (blocks : List LooseAttributes) → (is_none version && (length lines == 0)) ≡ true
    → [] ≡ flat_map (new_drafts (elsewhere_of nodes lines version) blocks) (node_list nodes)
by_parts nodes [] None blocks h = sym (no_drafts nodes blocks (node_list nodes))
by_parts nodes (l ∷ ls) None blocks h = let none : suc (length ls) ≡ 0 = eqb-true (suc (length ls)) 0 h in absurd (omega arith)
by_parts nodes lines (Some v) blocks h = absurd cc

pub no_new_drafts : (e : Elsewhere) (blocks : List LooseAttributes) → (is_none e.version && (length e.lines == 0)) ≡ true → [] ≡ flat_map (new_drafts e blocks) (node_list e.nodes)
no_new_drafts e blocks h = by_parts e.nodes e.lines e.version blocks h
