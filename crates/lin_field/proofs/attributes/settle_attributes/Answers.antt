use Rattle.std.proofs.Common.{◌≡◌, ℕ, List, length, take, ◌++◌, sym, subst, ap, ◌∙◌, append_assoc, map, rules, true}
use Rattle.std.specs.Prelude.{All}
use Rattle.std.specs.List.{flat_map}
use Rattle.std.proofs.Math.Seq.{take-append_seam}
use Rattle.lin_parts.specs.declared.description.Attributes.{Attributes}
use Rattle.lin_field.specs.Names.{is_loose_node}
use Rattle.lin_field.specs.Attributes.{draft_nad_warnings, draft_warnings, drafts, line_warnings, responder_nads, settled_draft}
use Rattle.lin_field.specs.declared.loose.LooseNodes.{LooseNodes}
use Rattle.lin_field.proofs.DraftedNodes.{are_drafted_nodes}
use Rattle.lin_field.proofs.attributes.settle_attributes.Goals as goal

three_more : {A : Type 0} (before one two more a b c : List A) → one ≡ before ++ a → two ≡ one ++ b → more ≡ two ++ c → more ≡ before ++ (a ++ b ++ c)
three_more before one two more a b c first second third =
    third ∙ ap (λ l. l ++ c) (second ∙ ap (λ l. l ++ b) first ∙ append_assoc before a b) ∙ append_assoc before (a ++ b) c

all-lent : {X : Type 0} (n : ℕ) (xs ys : List X) → length xs ≡ n → take n (xs ++ ys) ≡ xs
all-lent n xs ys long = ap (λ k. take k (xs ++ ys)) (sym long) ∙ take-append_seam xs ys

pub responder_nads-requires : goal.responder_nads-requires
responder_nads-requires c =
    let told = c.args.told.now
    in subst (λ (n : LooseNodes). All (λ (a : Attributes). is_loose_node n a.node ≡ true) c.as_slice.result.now) (ap (λ t. t.nodes) (sym c.told.view_is))
    (subst (λ (ds : List Attributes). All (λ (a : Attributes). is_loose_node told.nodes a.node ≡ true) ds)
    (sym (c.as_slice.ensures.value ∙ c.in_ok-drafts.ensures.drafts)) (are_drafted_nodes told c.args.attributes))

pub settle_drafts-requires : goal.settle_drafts-requires
settle_drafts-requires c =
    let told = c.args.told.now
    in subst (λ (ds : List Attributes). All (λ (a : Attributes). is_loose_node told.nodes a.node ≡ true) ds)
    (sym (c.as_mut_slice.ensures.value ∙ c.in_ok-drafts.ensures.drafts)) (are_drafted_nodes told c.args.attributes)

pub returns-clause-settled : goal.returns-clause-settled
returns-clause-settled c =
    let told = c.args.told.now in
    let made : c.in_ok-drafts.drafts.items ≡ drafts told c.args.attributes = c.in_ok-drafts.ensures.drafts in
    let nads : c.in_ok-nads.nads ≡ responder_nads told.nodes (drafts told c.args.attributes) = search rules in
    c.new-2.ensures ∙ (all-lent _ c.settle_drafts.new.drafts _ (c.settle_drafts.auto.drafts ∙ c.as_mut_slice.ensures.len) ∙ c.in_ok-settle_drafts.ensures.settled ∙ (λ i. map (settled_draft told (nads i)) ((c.as_mut_slice.ensures.value ∙ made) i)))

pub returns-clause-warned : goal.returns-clause-warned
returns-clause-warned c =
    let told = c.args.told.now in
    let made : c.in_ok-drafts.drafts.items ≡ drafts told c.args.attributes = c.in_ok-drafts.ensures.drafts in
    let nads : c.in_ok-nads.nads ≡ responder_nads told.nodes (drafts told c.args.attributes) = search rules in
    let warnings : flat_map (draft_nad_warnings told c.in_ok-nads.nads) c.as_mut_slice.result.now ≡ flat_map (draft_nad_warnings told (responder_nads told.nodes (drafts told c.args.attributes))) (drafts told c.args.attributes) =
    λ i. flat_map (draft_nad_warnings told (nads i)) ((c.as_mut_slice.ensures.value ∙ made) i) in
    three_more c.args.warned.now.items c.warn_of_lines.new.warned.items c.drafts.new.warned.items c.settle_drafts.new.warned.items
    (line_warnings told) (flat_map (draft_warnings told) c.args.attributes) _
    c.in_ok-warn_of_lines.ensures c.in_ok-drafts.ensures.warned (c.in_ok-settle_drafts.ensures.warned ∙ ap (λ l. c.drafts.new.warned.items ++ l) warnings)
