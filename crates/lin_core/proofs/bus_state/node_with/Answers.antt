use Rattle.std.proofs.Common.{◌≡◌, ◌+◌, ℕ, suc, Bool, sym, ◌∙◌, ap, arith}
use Rattle.std.specs.Prelude.{false, find, ◌==◌, Option, Some, None, if◌then◌else◌}
use Rattle.std.specs.Option.{option_map_or}
use Rattle.lin_frame.specs.Words.{numbers}
use Rattle.lin_parts.specs.Cluster.{nad}
use Rattle.lin_core.proofs.kept.Bus.{find-more}
use Rattle.lin_core.proofs.bus_state.node_with.Goals.{After-first-found}
use Rattle.lin_core.proofs.bus_state.node_with.Goals as goal

abbrev has : (c : After-first-found) → ℕ → Bool
has c n = option_map_or (λ own. own == c.args.address) (nad c.args.cluster.now n) false

pub loop-node-preserved : goal.loop-node-preserved
loop-node-preserved c =
    let next : suc c.loop-node.node ≡ c.loop-node.node + 1 = omega arith in
    c.first-found.ensures
    ∙ ap (λ (b : Bool). option_map_or Some c.loop-node.found (if b then Some c.loop-node.node else None)) c.has_address.ensures
    ∙ ap (λ (o : Option ℕ). option_map_or Some o (if has c c.loop-node.node then Some c.loop-node.node else None)) c.loop-node.invariant
    ∙ sym (find-more (has c) (numbers c.loop-node.node) c.loop-node.node) ∙ ap (λ (k : ℕ). find (has c) (numbers k)) next
