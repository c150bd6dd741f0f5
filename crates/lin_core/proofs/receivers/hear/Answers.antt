use Rattle.std.proofs.Common.{◌≡◌, refl, ap, ◌∙◌, List, length}
use Rattle.std.specs.Prelude.{OnErr, Result, Ok, Err, Some, slice_get, slice_set}
use Rattle.std.proofs.lemmas.Option.{slice_get_read}
use Rattle.lin_core.specs.declared.receivers.Receivers.{Receivers}
use Rattle.lin_core.proofs.kept.Places.{set-same}
use Rattle.lin_core.proofs.receivers.hear.Goals as goal

on-error : {X Y A B : Type 0} → (r : Result X Y) → (A → B) → OnErr r A → OnErr r B
on-error (Ok x) f h = tt
on-error (Err e) f h = f h

pub returns-clause-unchanged : goal.returns-clause-unchanged
returns-clause-unchanged c =
    let xs : List Receivers = c.args.receivers.now.items in
    let was : Receivers = c.index_mut.result.now in
    let there : slice_get xs c.args.link.node ≡ Some was = slice_get_read xs (length xs) c.args.link.node was refl c.requires c.index_mut.ensures.value in
    on-error c.hear.result (λ (e : c.hear.new.self ≡ was). ap (λ (y : Receivers). slice_set xs c.args.link.node y) e ∙ set-same xs c.args.link.node was there) c.hear.ensures.unchanged
