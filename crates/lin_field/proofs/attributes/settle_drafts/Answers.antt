use Rattle.std.proofs.Common.{◌≡◌, ◌<◌, ◌+◌, ℕ, ◌∙◌, List, ◌++◌, get_or, length, map, take, drop, set, sym, ap, arith}
use Rattle.std.specs.List.{flat_map}
use Rattle.std.proofs.lemmas.List.{flat_map_more, drop_more, take_more, get_or_at, length-map, length-take}
use Rattle.std.proofs.lemmas.List.Edits.{map_over_more}
use Rattle.lin_field.specs.Attributes.{settled_draft, draft_nad_warnings}
use Rattle.lin_field.proofs.attributes.settle_drafts.Goals as goal

-- what isn't changed yet is as it was
unchanged : {X : Type 0} (f : X → X) (xs ys : List X) (i : ℕ) (x : X) → i < length xs → ys ≡ map f (take i xs) ++ drop i xs → get_or ys i x ≡ get_or xs i x
unchanged f xs ys i x lt is =
    let front = map f (take i xs)
    in let long : length front ≡ i = length-map (take i xs) f ∙ omega (arith, length-take i xs)
    in ap (λ l. get_or l i x) (is ∙ ap (λ l. front ++ l) (drop_more xs i x lt)) ∙ get_or_at front _ _ x i long

warned-more : {X A : Type 0} (f : X → X) (g : X → List A) (xs ys : List X) (i : ℕ) (x : X) (before old new : List A) → i < length xs → ys ≡ map f (take i xs) ++ drop i xs
    → old ≡ before ++ flat_map g (take i xs) → new ≡ old ++ g (get_or ys i x) → new ≡ before ++ flat_map g (take (i + 1) xs)
warned-more f g xs ys i x before old new lt is so here =
    here ∙ (λ t. so t ++ g (unchanged f xs ys i x lt is t))
    ∙ flat_map_more g before (take i xs) (get_or xs i x)
    ∙ ap (λ l. before ++ flat_map g l) (sym (take_more xs i x lt))

pub loop-draft-preserved : goal.loop-draft-preserved
loop-draft-preserved c =
    let told = c.args.told.now
    in let nads = c.args.nads.now
    in let i = c.loop-draft.draft-index
    in let x = c.draft-item.result
    in let lt : i < length c.args.drafts.now = omega (arith, c.loop-draft-test.true, c.loop-draft.auto.drafts)
    in record {
      settled =
          ap (set c.loop-draft.drafts i) (c.in_ok-settle_draft.ensures.settled ∙ ap (settled_draft told nads) (sym c.draft-item.is))
          ∙ map_over_more (settled_draft told nads) c.args.drafts.now c.loop-draft.drafts i x lt c.loop-draft.invariant.settled c.draft-item.is;
      warned =
          warned-more (settled_draft told nads) (draft_nad_warnings told nads) c.args.drafts.now c.loop-draft.drafts i x c.args.warned.now.items c.loop-draft.warned.items c.settle_draft.new.warned.items
          lt c.loop-draft.invariant.settled c.loop-draft.invariant.warned c.in_ok-settle_draft.ensures.warned;
    }
