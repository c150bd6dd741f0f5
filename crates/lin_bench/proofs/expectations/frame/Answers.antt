use Rattle.std.proofs.Common.{◌≡◌, ◌∙◌, ℕ, false, List, [], ◌∷◌, ap, refl, subst, sym}
use Rattle.lin_parts.specs.declared.parts.Parts.{Parts}
use Rattle.lin_log.specs.Said.{no_fields}
use Rattle.lin_bench.specs.Expectations.{frame_form, frame_with}
use Rattle.lin_bench.specs.Parts.{fields_of}
use Rattle.lin_bench.specs.Read.{Gives}
use Rattle.lin_bench.proofs.expectations.frame.Goals as goal

with-bytes : (c : Parts) (all : List (List ℕ)) (f : List ℕ) (fs : List (List ℕ)) → no_fields fs ≡ false → frame_with c f fs ≡ frame_form c all (f ∷ fs)
with-bytes c all f [] h = absurd (cc)
with-bytes c all f (g ∷ fs) h = refl

pub returns : goal.returns
returns c =
    let all = fields_of c.args.all in
    subst (Gives (λ w. w) c.frame_with.result)
    (with-bytes c.args.cluster.now all c.in-Some.name.now (fields_of c.in-Some.rows) (sym c.if-is_empty.ensures) ∙ ap (frame_form c.args.cluster.now all) (sym c.in-Some.ensures.split))
    c.frame_with.ensures
