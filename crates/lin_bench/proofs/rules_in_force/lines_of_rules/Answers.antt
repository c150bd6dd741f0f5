use Rattle.std.proofs.Common.{refl}
use Rattle.lin_bench.proofs.rules_in_force.lines_of_rules.Goals as goal

pub returns : goal.returns
returns c =
    rw (
      c.in_ok-add_offs.ensures,
      c.in_ok-add_states.ensures,
      c.in_ok-add_ons.ensures,
      c.in_ok-add_everies.ensures,
      c.in_ok-add_switches.ensures,
      c.in_ok-add_own_limits.ensures,
      c.in_ok-add_timeouts.ensures,
      c.in_ok-add_whens.ensures,
      c.new-lines.ensures.items,
      c.as_slice.ensures,
      c.as_slice-2.ensures,
      c.as_slice-3.ensures,
      c.as_slice-4.ensures,
      c.as_slice-5.ensures,
      c.as_slice-6.ensures,
    ) refl
