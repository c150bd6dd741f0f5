use Rattle.std.proofs.Common.{◌≡◌, ◌∙◌, ◌++◌, ◌∷◌, [], Bool, false, ◌&&◌, if◌then◌else◌, ap}
use Rattle.lin_bench.specs.declared.faults.FaultKind.TheVariants.{Damage}
use Rattle.lin_tool.specs.campaign.Singles.{single_fault}
use Rattle.lin_tool.specs.declared.campaign.singles.Single.{Single}
use Rattle.lin_tool.specs.declared.campaign.finished_slots.KeptSlot.{KeptSlot}
use Rattle.lin_tool.proofs.CampaignSingles.{of-slot}
use Rattle.lin_tool.proofs.campaign.singles.add_of_slot.Goals.{then-kinds, else-kinds}
use Rattle.lin_tool.proofs.campaign.singles.add_of_slot.Goals as goal

pub returns : goal.returns
returns c = λ s is.
    let x = c.args.cluster.now in
    let n = c.args.number in
    let k = c.args.slot.now in
    let old = c.args.singles.now.items in
    let whole = c.is_intact-is_intact.result in
    let damage : Single = record {
      slot = n;
      table = k.table;
      entry = k.entry;
      frame = c.frame.result;
      kind = Damage;
      goes_on = false;
    } in
    let made : damage ≡ single_fault x n s Damage false =
    ap (λ (y : KeptSlot). record { slot = n; table = y.table; entry = y.entry; frame = c.frame.result; kind = Damage; goes_on = false }) is
    ∙ ap (λ f. record { slot = n; table = s.table; entry = s.entry; frame = f; kind = Damage; goes_on = false }) (c.frame.ensures s is) in
    let wanted : c.if-kinds.add_if ≡ (c.args.kinds.damage && whole) =
    elim c.if-kinds.branch [ then-kinds w ↦ rw w.if-kinds.true w.add_if-is | else-kinds w ↦ rw w.if-kinds.false (w.add_if-is ∙ w.if-kinds.false) ] in
    let first : c.add_if.new.singles.items ≡ old ++ (if c.args.kinds.damage && whole then damage ∷ [] else []) =
    (rw c.in_ok-add_if.was at c.add_if.ensures) ∙ ap (λ (b : Bool). old ++ (if b then damage ∷ [] else [])) wanted in
    of-slot x c.args.kinds n s k damage whole old c.add_if.new.singles.items c.add_absent.new.singles.items c.add_absent-2.new.singles.items is made (c.is_intact-is_intact.ensures s is) first
    (rw c.in_ok-add_absent.was at c.add_absent.ensures) (rw c.in_ok-add_absent-2.was at c.add_absent-2.ensures)
