use Rattle.std.proofs.Common.{◌+◌, sym, ◌∙◌, subst, ◌∷◌}
use Rattle.lin_schedule.specs.Excursions.{IsExcursion}
use Rattle.lin_schedule.specs.declared.excursion.Excursion.{Excursion}
use Rattle.lin_schedule.proofs.Resolving.{excursion-added, excursion-passed}
use Rattle.lin_schedule.proofs.excursion.Excursion.add.Goals as goal
use Rattle.lin_schedule.proofs.excursion.Excursion.add.Goals.{then-is_carrying+in_ok-push+in_ok-push-2, else-is_carrying}

pub returns : goal.returns
returns c = λ k line lines is delay carrying.
    let old : Excursion = c.args.self.now in
    let stands : Excursion → Type 0 =
    λ x. IsExcursion k (line ∷ lines) c.args.count (old.total + c.from.result) x.ends.items x.starts.items x.within in
    elim c.if-is_carrying.branch [
      | then-is_carrying+in_ok-push+in_ok-push-2 w ↦
          subst stands (sym w.self-is)
          (excursion-added k line lines c.args.count old.total old.ends.items old.starts.items old.within c.args.delay_us c.from.result _ _ _ is
          c.requires.some delay (carrying ∙ w.if-is_carrying.true) c.requires.delay c.from.ensures
          w.in_ok-push.ensures.items w.in_ok-push-2.ensures.items w.within_from-self.ensures)
      | else-is_carrying w ↦
          subst stands (sym w.self-is)
          (excursion-passed k line lines c.args.count old.total old.ends.items old.starts.items old.within c.args.delay_us c.from.result is
          c.requires.some delay (carrying ∙ w.if-is_carrying.false) c.requires.delay c.from.ensures)
    ]
