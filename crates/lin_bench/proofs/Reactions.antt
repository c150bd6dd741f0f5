-- Forms that call for steps, one more at a time.
use Rattle.std.proofs.Common.{◌≡◌, ◌∙◌, ℕ, Bool, true, false, cond, List, [], ◌∷◌, ◌++◌, sym, ap, append_assoc, append-nil, filter, map}
use Rattle.std.proofs.lemmas.List.{map-append}
use Rattle.std.proofs.lemmas.List.Elements.{filter-append}
use Rattle.lin_parts.specs.declared.parts.Parts.{Parts}
use Rattle.lin_core.specs.declared.log.LogEntry.{LogEntry}
use Rattle.lin_core.specs.declared.port.PortId.{PortId}
use Rattle.lin_core.specs.declared.step.Step.{Step}
use Rattle.lin_bench.specs.Ons.{calls, holds, looked_now, reaction, reactions_of}
use Rattle.lin_bench.specs.declared.rules.Watched.{Watched}

reactions-more : (c : Parts) (past : List LogEntry) (offs : List ℕ) (front : List Watched) (w : Watched) (b : Bool) → calls offs w (holds c past w.on.form) ≡ b
    → reactions_of c past offs (front ++ w ∷ []) ≡ reactions_of c past offs front ++ map reaction (cond b (w ∷ []) [])
reactions-more c past offs front w b is =
    let p : Watched → Bool = λ w. calls offs w (holds c past w.on.form) in
    ap (map reaction) (filter-append p front (w ∷ [])) ∙ map-append reaction (filter p front) (filter p (w ∷ []))
    ∙ ap (λ b. reactions_of c past offs front ++ map reaction (cond b (w ∷ []) [])) is

-- it calls for its step
pub called-more : (c : Parts) (past : List LogEntry) (offs : List ℕ) (front : List Watched) (w : Watched) (held : Bool) (step : Step) (first now more : List (PortId × Step))
    → held ≡ holds c past w.on.form → calls offs w held ≡ true → step ≡ w.on.step → now ≡ first ++ reactions_of c past offs front
    → more ≡ now ++ (w.on.by, step) ∷ [] → more ≡ first ++ reactions_of c past offs (front ++ w ∷ [])
called-more c past offs front w held step first now more holds called same so-far pushed =
    let is = ap (calls offs w) (sym holds) ∙ called in
    pushed ∙ ap (λ s. now ++ (w.on.by, s) ∷ []) same ∙ ap (λ l. l ++ reaction w ∷ []) so-far
    ∙ append_assoc first (reactions_of c past offs front) (reaction w ∷ [])
    ∙ ap (λ l. first ++ l) (sym (reactions-more c past offs front w true is))

-- it doesn't
pub no-more-called : (c : Parts) (past : List LogEntry) (offs : List ℕ) (front : List Watched) (w : Watched) (held : Bool) (first now : List (PortId × Step))
    → held ≡ holds c past w.on.form → calls offs w held ≡ false → now ≡ first ++ reactions_of c past offs front
    → now ≡ first ++ reactions_of c past offs (front ++ w ∷ [])
no-more-called c past offs front w held first now holds uncalled so-far =
    let is = ap (calls offs w) (sym holds) ∙ uncalled in
    so-far ∙ ap (λ l. first ++ l) (sym (reactions-more c past offs front w false is ∙ append-nil (reactions_of c past offs front)))

-- what is kept of a look at it
pub looked-more : (c : Parts) (past : List LogEntry) (front : List Watched) (w one : Watched) (ons more : List Watched) → ons ≡ map (looked_now c past) front
    → one ≡ looked_now c past w → more ≡ ons ++ one ∷ [] → more ≡ map (looked_now c past) (front ++ w ∷ [])
looked-more c past front w one ons more so-far is pushed =
    pushed ∙ ap (λ l. l ++ one ∷ []) so-far ∙ ap (λ o. map (looked_now c past) front ++ o ∷ []) is ∙ sym (map-append (looked_now c past) front (w ∷ []))
