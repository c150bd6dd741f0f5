use Rattle.std.proofs.Common.{◌≡◌, ◌∙◌, ap, subst, sym, suc, None}
use Rattle.std.specs.Prelude.{length, nat_lt, unwrap_or, if◌then◌else◌}
use Rattle.lin_parts.specs.Cluster.{table_of}
use Rattle.lin_schedule.specs.Schedule.{resolving}
use Rattle.lin_schedule.specs.Walker.{Walks}
use Rattle.lin_schedule.proofs.Clusters.{cluster-AreWalkable}
use Rattle.lin_schedule.proofs.Standings.{Stands-main_place, Stands-next, Stands-resolving}
use Rattle.lin_schedule.proofs.Times.{next}
use Rattle.lin_schedule.proofs.Walks.{Walks-back, Walks-on, unwrapped-next}
use Rattle.lin_schedule.proofs.walker.Walker.advance.Goals as goal

pub returns-in-Some-after-clause-walks : goal.returns-in-Some-after-clause-walks
returns-in-Some-after-clause-walks c =
    let walks = subst (Walks c.args.cluster.now) (sym c.self.view_is) c.requires.walks in
    Walks-on c.args.cluster.now _ c.in-Some-after.next walks c.in-Some-after.ensures

pub returns-in-None-after-clause-walks : goal.returns-in-None-after-clause-walks
returns-in-None-after-clause-walks c =
    let walks = subst (Walks c.args.cluster.now) (sym c.self.view_is) c.requires.walks in
    Walks-back c.args.cluster.now _ (c.in-Some.former, c.in-Some.entry) walks c.in-Some.is

pub returns-in-Some-resolving_table-clause-stands : goal.returns-in-Some-resolving_table-clause-stands
returns-in-Some-resolving_table-clause-stands c = λ opening moves stands.
    let cluster = c.args.cluster.now in
    let table = c.self.inside.table in
    let entry = c.self.inside.entry in
    let walks = subst (Walks cluster) (sym c.self.view_is) c.requires.walks in
    let next_is : c.unwrap_or-next.result ≡ next (table_of cluster table) entry =
    c.unwrap_or-next.ensures ∙ ap (λ o. unwrap_or o 0) c.entry_after-after.ensures
    ∙ unwrapped-next (nat_lt (suc entry) (length (table_of cluster table))) entry in
    let is = sym c.in-Some-resolving_table.is ∙ c.resolving_table.ensures ∙ ap (λ e. if c.args.clash then resolving cluster e else None) c.entry.ensures in
    Stands-resolving cluster (cluster-AreWalkable cluster c.sound.ensures.rules) opening moves c.args.clash table entry walks.place.0
    (Stands-main_place cluster opening moves (c.self.inside.table, c.self.inside.entry) c.self.inside.back c.args.self.now c.in-None.is c.self.view_is stands)
    c.in-Some-resolving_table.resolving c.unwrap_or-next.result is next_is

pub returns-in-None-resolving_table-clause-stands : goal.returns-in-None-resolving_table-clause-stands
returns-in-None-resolving_table-clause-stands c = λ opening moves stands.
    let cluster = c.args.cluster.now in
    let table = c.self.inside.table in
    let entry = c.self.inside.entry in
    let walks = subst (Walks cluster) (sym c.self.view_is) c.requires.walks in
    let next_is : c.unwrap_or-next.result ≡ next (table_of cluster table) entry =
    c.unwrap_or-next.ensures ∙ ap (λ o. unwrap_or o 0) c.entry_after-after.ensures
    ∙ unwrapped-next (nat_lt (suc entry) (length (table_of cluster table))) entry in
    let is = sym c.in-None-resolving_table.is ∙ c.resolving_table.ensures ∙ ap (λ e. if c.args.clash then resolving cluster e else None) c.entry.ensures in
    rw c.in-None.is
    (Stands-next cluster (cluster-AreWalkable cluster c.sound.ensures.rules) opening moves c.args.clash table entry walks.place.0
    (Stands-main_place cluster opening moves (c.self.inside.table, c.self.inside.entry) c.self.inside.back c.args.self.now c.in-None.is c.self.view_is stands)
    c.unwrap_or-next.result is next_is)
