use Rattle.std.proofs.Common.{◌∙◌, ◌∷◌, ◌++◌, [], ap, append-nil, arith, sym}
use Rattle.lin_tool.proofs.CampaignSingles.{fault-next, fault-none}
use Rattle.lin_tool.proofs.campaign.singles.add_fault.Goals as goal

pub returns-then-place-singles : goal.returns-then-place-singles
returns-then-place-singles c =
    sym (append-nil c.args.faults.now.items) ∙ ap (λ l. c.args.faults.now.items ++ l) (sym (fault-none c.args.singles.now c.args.place [] (omega arith)))

pub returns : goal.returns
returns c =
    c.in_ok-push.ensures.items
    ∙ ap (λ l. c.args.faults.now.items ++ l) (ap (λ f. f ∷ []) c.fault.ensures ∙ sym (fault-next c.args.singles.now c.args.place [] _ (omega arith)))
