use Rattle.std.proofs.Common.{◌≡◌, ap, sym, ◌∙◌}
use Rattle.lin_schedule.proofs.Standings.{main_table, position-start, Stands-restart}
use Rattle.lin_schedule.proofs.Walks.{Walks-restart, unwrapped-main_table}
use Rattle.lin_schedule.proofs.walker.Walker.restart.Goals as goal

pub returns-clause-stands : goal.returns-clause-stands
returns-clause-stands c = λ cluster opening moves stands.
    let is : c.unwrap_or-current.result.0 ≡ main_table c.args.self.now =
    ap (λ p. p.0) c.unwrap_or-current.ensures ∙ unwrapped-main_table _ _ _ (ap (λ w. w.back) c.self.view_is) c.place.ensures.value in
    let started = c.self-2.view_is ∙ c.new.ensures.stands cluster ∙ sym (position-start cluster c.unwrap_or-current.result.0) in
    started ∙ rw is (Stands-restart cluster opening c.args.self.now moves stands)

pub returns-clause-walks : goal.returns-clause-walks
returns-clause-walks c = λ cluster walks.
    let is : c.unwrap_or-current.result.0 ≡ main_table c.args.self.now =
    ap (λ p. p.0) c.unwrap_or-current.ensures ∙ unwrapped-main_table _ _ _ (ap (λ w. w.back) c.self.view_is) c.place.ensures.value in
    let started = c.self-2.view_is ∙ c.new.ensures.stands cluster ∙ sym (position-start cluster c.unwrap_or-current.result.0) in
    rw (started, is) (Walks-restart cluster c.args.self.now walks)
