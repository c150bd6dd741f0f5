use Rattle.std.proofs.Common.{◌≡◌, ◌≢◌, ◌⊎◌, ap, sym, ◌∙◌, subst, true, false}
use Rattle.std.specs.Prelude.{IfSome}
use Rattle.lin_frame.specs.declared.value.Value.{Value}
use Rattle.lin_values.specs.Raws.{count_of, has, RawsData}
use Rattle.lin_values.proofs.OnlyRaw.{none-first, none-or-two, only-of-none}
use Rattle.lin_values.proofs.raws.Raws.only.Goals as goal

pub returns-then-count-ne1-clause-other : goal.returns-then-count-ne1-clause-other
returns-then-count-ne1-clause-other c = λ e.
    subst (λ (r : RawsData). ((v : Value) → has r v ≡ false) ⊎ ((v : Value) × (w : Value) × (v ≢ w) × (has r v ≡ true) × (has r w ≡ true))) c.self.view_is
    (none-or-two c.self.inside.spans c.self.inside.coded c.self.invariant (λ h. c.if-count-ne1.true (c.count.ensures.count ∙ ap (λ (r : RawsData). count_of r.spans r.coded) (sym c.self.view_is) ∙ h)))

pub returns-in-None-clause-only : goal.returns-in-None-clause-only
returns-in-None-clause-only c = λ v.
    subst (λ (r : RawsData). IfSome c.self.inside.coded (λ w. has r v ≡ true → v ≡ w)) c.self.view_is
    (only-of-none c.self.inside.spans c.self.inside.coded v (sym c.as_slice.ensures ∙ none-first c.as_slice.result.now (sym c.in-None.ensures.value)))
