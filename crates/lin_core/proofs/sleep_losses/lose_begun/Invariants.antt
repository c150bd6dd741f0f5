use Rattle.std.proofs.Common.{◌≡◌, ◌<◌, ◌≤◌, ◌+◌, ◌++◌, ℕ, length, vec_capacity}
use Rattle.std.specs.Prelude.{flat_map, option_map, slice_get}
use Rattle.lin_frame.specs.Words.{numbers}
use Rattle.lin_core.specs.kept.Hosts.{losses_of, host_after_sleep}
use Rattle.lin_core.proofs.sleep_losses.lose_begun.Given as goal

abbrev pub invariant-loop-host : goal.invariant-loop-host
invariant-loop-host l = record {
  count : length l.hosts.items ≡ length l.fn.hosts.items;
  before : (h : ℕ) → h < l.host → slice_get l.hosts.items h ≡ option_map host_after_sleep (slice_get l.fn.hosts.items h);
  after : (h : ℕ) → l.host ≤ h → slice_get l.hosts.items h ≡ slice_get l.fn.hosts.items h;
  told : l.events.items ≡ l.fn.events.items ++ flat_map (losses_of l.fn.hosts.items) (numbers l.host);
  room : length l.events.items + length l.fn.hosts.items ≤ vec_capacity l.events + l.host;
}
