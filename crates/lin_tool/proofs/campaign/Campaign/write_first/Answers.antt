use Rattle.std.proofs.Common.{◌≡◌, ◌∙◌, false, true, refl, sym, append-nil}
use Rattle.lin_export.proofs.Puttings.{writes-more, written-all, written-short}
use Rattle.lin_tool.specs.campaign.Steps.{shows_calm}
use Rattle.lin_tool.proofs.campaign.Campaign.write_first.Goals as goal

pub returns-in_err-write_head : goal.returns-in_err-write_head
returns-in_err-write_head g c = written-short _ c.from_residual.ensures.0 refl c.write_head.ensures

pub returns-then-not-shows_calm : goal.returns-then-not-shows_calm
returns-then-not-shows_calm g c =
    let none : shows_calm c.args.self.now.format c.args.table.now ≡ false = sym c.shows_calm.ensures ∙ c.if-not-shows_calm.true in
    rw none (written-all (sym (append-nil _)) (rw c.in_ok-write_head.was at c.write_head.ensures))

pub returns : goal.returns
returns g c =
    let one : shows_calm c.args.self.now.format c.args.table.now ≡ true = sym c.shows_calm.ensures ∙ c.if-not-shows_calm.false in
    rw one (writes-more (rw c.in_ok-write_head.was at c.write_head.ensures) c.write_row.ensures)
