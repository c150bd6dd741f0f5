-- What the transport over a cluster rests on: addresses and identifiers that tell their frames
-- apart.
use Rattle.std.specs.Prelude.{◌≡◌, ◌≢◌, ◌≤◌, ◌<◌, ℕ, Some, None}
use Rattle.lin_parts.specs.Cluster.{nad, frame_of, event_of}
use Rattle.lin_parts.specs.declared.parts.Parts.{Parts}

-- neither of the two protected identifiers of diagnostic frames (ISO 17987-3: master request, slave
-- response)
pub record IsSignalPid (pid : ℕ) : Type 0 where
  pub request : pid ≢ 0x3C
  pub response : pid ≢ 0x7D

-- no two nodes have one address, no address is the functional one (126, ISO 17987-2) and no node has
-- its number, the commander has none, and no signals' frame has a diagnostic identifier
pub record IsSound (c : Parts) : Type 0 where
  pub apart : (j k n : ℕ) → nad c j ≡ Some n → nad c k ≡ Some n → j ≡ k
  pub some : (k n : ℕ) → nad c k ≡ Some n → 1 ≤ n
  pub most : (k n : ℕ) → nad c k ≡ Some n → n ≤ 125
  pub few : (k n : ℕ) → nad c k ≡ Some n → k < 16
  pub commander : nad c 0 ≡ None
  pub frames : (f : ℕ) → IsSignalPid (frame_of c f).pid
  pub events : (e : ℕ) → IsSignalPid (event_of c e).pid
