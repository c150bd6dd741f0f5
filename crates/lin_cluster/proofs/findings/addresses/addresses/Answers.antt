use Rattle.std.proofs.Common.{Vec, Global, ap, sym, ◌∙◌, ◌++◌, [], append-nil}
use Rattle.lin_parts.specs.declared.description.Number.{Number}
use Rattle.std.specs.List.{cons_option}
use Rattle.lin_cluster.specs.Addresses.{block_address}
use Rattle.lin_cluster.proofs.FindingsLists.{kept_step}
use Rattle.lin_cluster.proofs.findings.addresses.addresses.Goals as goal
use Rattle.lin_cluster.proofs.findings.addresses.addresses.Goals.{in-Some+in_ok-push, in_default}

pub loop-block-preserved : goal.loop-block-preserved
loop-block-preserved c =
    let kept = c.loop-block.addresses.items in
    kept_step (block_address c.args.known.now) c.args.blocks.now c.loop-block.block-index c.block-item.result kept c.match-address.addresses.items c.loop-block-test.true c.block-item.is c.loop-block.invariant
    (elim c.match-address.branch [
      | in-Some+in_ok-push w ↦ ap (λ (a : Vec Number Global). a.items) w.addresses-is ∙ w.in_ok-push.ensures.items ∙ ap (λ o. kept ++ cons_option o []) (sym w.in-Some.is ∙ c.address.ensures)
      | in_default w ↦ ap (λ (a : Vec Number Global). a.items) w.addresses-is ∙ sym (append-nil kept) ∙ ap (λ o. kept ++ cons_option o []) (sym w.in_default.is ∙ c.address.ensures)
    ])
