use Rattle.std.proofs.Common.{◌≡◌, ◌<◌, ◌+◌, ℕ, ◌∙◌, List, [], ◌∷◌, ◌++◌, length, get_or, take, sym, ap, append-nil, Option, Some, None}
use Rattle.std.specs.Prelude.{filter_map}
use Rattle.std.specs.List.{cons_option}
use Rattle.std.proofs.lemmas.List.{take_more}
use Rattle.std.proofs.lemmas.List.Elements.{filter_map-append}
use Rattle.lin_field.specs.Attributes.{responder_nad}
use Rattle.lin_field.proofs.attributes.responder_nads.Goals as goal
use Rattle.lin_field.proofs.attributes.responder_nads.Goals.{in-Some+in_ok-push-in-Some, in-None}

more : {X Y : Type 0} (h : X → Option Y) (xs : List X) (i : ℕ) (x : X) (o : Option Y) (old new : List Y) → i < length xs → old ≡ filter_map h (take i xs) → x ≡ get_or xs i x → h x ≡ o
    → new ≡ old ++ cons_option o [] → new ≡ filter_map h (take (i + 1) xs)
more h xs i x o old new lt so here is put =
    put ∙ (λ t. so t ++ cons_option (sym is t) []) ∙ ap (λ y. filter_map h (take i xs) ++ cons_option (h y) []) here
    ∙ sym (ap (filter_map h) (take_more xs i x lt) ∙ filter_map-append h (take i xs) (get_or xs i x ∷ []))

pub loop-draft-preserved : goal.loop-draft-preserved
loop-draft-preserved c =
    let h = responder_nad c.args.nodes.now
    in elim c.match-responder_nad.branch [
      | in-Some+in_ok-push-in-Some w ↦ more h c.args.drafts.now c.loop-draft.draft-index c.draft-item.result (Some w.in-Some.nad) c.loop-draft.nads.items c.match-responder_nad.nads.items c.loop-draft-test.true c.loop-draft.invariant c.draft-item.is (sym c.responder_nad.ensures ∙ w.in-Some.is) (ap (λ v. v.items) w.nads-is ∙ w.in_ok-push-in-Some.ensures.items)
      | in-None w ↦ more h c.args.drafts.now c.loop-draft.draft-index c.draft-item.result None c.loop-draft.nads.items c.match-responder_nad.nads.items c.loop-draft-test.true c.loop-draft.invariant c.draft-item.is (sym c.responder_nad.ensures ∙ w.in-None.is) (ap (λ v. v.items) w.nads-is ∙ sym (append-nil c.loop-draft.nads.items))
    ]
