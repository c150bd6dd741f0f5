-- Which steps of a script are each host's.
use Rattle.std.specs.Prelude.{◌≡◌, ℕ, ◌<◌, List, [], length, map, take, Option, Some, None}
use Rattle.std.specs.Prelude.{if◌then◌else◌, Result, Ok, Err}
use Rattle.std.specs.Global.{Vec}
use Rattle.std.specs.List.{All, filter_map, slice_get}
use Rattle.std.specs.Option.{option_map_or}
use Rattle.lin_core.specs.declared.port.PortId.{PortId}
use Rattle.lin_core.specs.declared.port.PortId.TheVariants.{Host}
use Rattle.lin_core.specs.declared.step.Step.{Step}
use Rattle.lin_threads.specs.Steps.{host_step, same_port}
use Rattle.lin_threads.specs.declared.ports.steps.HostStep.{HostStep}
use Rattle.lin_threads.specs.declared.splitting.SplitFault.{SplitFault}
use Rattle.lin_threads.specs.declared.splitting.SplitFault.TheVariants.{NotHost, OutOfMemory}

-- the step is a send, a write or a close of the host whose port gives it, and that is one of the
-- first hosts
pub record IsOfHost (hosts : ℕ) (given : PortId × Step) : Type 0 where
  pub host : ℕ
  pub below : host < hosts
  pub port : given.0 ≡ Host host
  pub step : HostStep
  pub same : given.1 ≡ host_step host step

-- the step, where this port gives it
abbrev pub step_given : PortId → PortId × Step → Option Step
step_given port given = if same_port given.0 port then Some given.1 else None

-- the steps that this port gives, in their order
abbrev pub given_by : List (PortId × Step) → PortId → List Step
given_by steps port = filter_map (step_given port) steps

-- the list at this place
abbrev pub list_at : ℕ → List (Vec HostStep) → List HostStep
list_at host lists = option_map_or (λ list. list.items) (slice_get lists host) []

-- each step is a host's, and each host has a list of just the steps that its port gives, in their
-- order
pub record IsSplit (hosts : ℕ) (steps : List (PortId × Step))
    (lists : List (Vec HostStep)) : Type 0 where
  pub all : All (IsOfHost hosts) steps
  pub count : length lists ≡ hosts
  pub each : (host : ℕ) → host < hosts
      → map (host_step host) (list_at host lists) ≡ given_by steps (Host host)

-- the step at this place is no host's, and all before it are
pub record IsFirstOther (hosts : ℕ) (steps : List (PortId × Step)) (index : ℕ) : Type 0 where
  pub before : All (IsOfHost hosts) (take index steps)
  pub other : PortId × Step
  pub there : slice_get steps index ≡ Some other
  pub no_host : IsOfHost hosts other → ⊥

-- what splitting answers
abbrev pub Splits : ℕ → List (PortId × Step) → Result (Vec (Vec HostStep)) SplitFault → Type 0
Splits hosts steps (Ok lists) = IsSplit hosts steps lists.items
Splits hosts steps (Err (NotHost index)) = IsFirstOther hosts steps index
Splits hosts steps (Err OutOfMemory) = Unit {0}
