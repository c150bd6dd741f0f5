use Rattle.std.proofs.Common.{◌≡◌, ◌<◌, ℕ, length, refl, ap, subst, arith}
use mathlib.Core.List.{IsPrefix}
use Rattle.lin_threads.specs.Lanes.{steps_from_ring}
use Rattle.lin_threads.specs.Ports.{puts}
use Rattle.lin_threads.proofs.PortLemmas.{from_same, one_port, same_port_wiring}
use Rattle.lin_threads.proofs.SettleLemmas.{all_popped, some_left}
use Rattle.lin_threads.proofs.ports.lane.Lane.settle.Goals as goal

pub returns-then-is_whole-clause-settles : goal.returns-then-is_whole-clause-settles
returns-then-is_whole-clause-settles c =
    let r = c.args.receipt in
    let n = r.number in
    let left = c.left_beside-left.ensures in
    let rest = left.fifo n in
    let told = c.slots_beside.ensures in
    let one = (one_port n c.args.self.now.number r.steps c.args.self.now.steps (ap (λ w. w.port) c.requires)).0 in (
      record {
        wiring = same_port_wiring n r.steps c.left_beside-left.new.put r.notes c.slots_beside.new.self (left.port n) left.ring (from_same r.notes c.slots_beside.new.self told.looked.0);
        put = left.puts n;
        took = told.looked.1;
      },
      (_, told.fifo),
      subst (λ (k : ℕ). steps_from_ring k c.left_beside-left.new.self ≡ puts n c.left_beside-left.new.put) one (all_popped _ rest.0 _ _ rest.1 rest.2 c.if-is_whole.true),
      refl,
    )

pub returns-else-is_whole-clause-settles : goal.returns-else-is_whole-clause-settles
returns-else-is_whole-clause-settles c =
    let r = c.args.receipt in
    let n = r.number in
    let left = c.left_beside-left.ensures in
    let rest = left.fifo n in
    let told = c.slots_beside.ensures in
    let one = (one_port n c.args.self.now.number r.steps c.args.self.now.steps (ap (λ w. w.port) c.requires)).0 in
    let some = c.if-is_whole.false in (
      record {
        wiring = same_port_wiring n r.steps c.left_beside-left.new.put r.notes c.slots_beside.new.self (left.port n) left.ring (from_same r.notes c.slots_beside.new.self told.looked.0);
        put = left.puts n;
        took = told.looked.1;
      },
      (_, told.fifo),
      subst (λ (k : ℕ). length (steps_from_ring k c.left_beside-left.new.self) < length (puts n c.left_beside-left.new.put)) one (some_left _ rest.0 _ _ rest.1 rest.2 (omega arith)),
      subst (λ (k : ℕ). IsPrefix (steps_from_ring k c.left_beside-left.new.self) (puts n c.left_beside-left.new.put)) one (rest.0, rest.1),
    )
