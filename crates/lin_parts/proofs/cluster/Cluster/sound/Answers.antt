use Rattle.std.proofs.Common.{subst, length, ◌+◌, ◌≤◌}
use Rattle.lin_parts.specs.Sound.{IsSound}
use Rattle.lin_parts.proofs.Limits.{few-identifiers}
use Rattle.lin_parts.proofs.SoundClusters.{sound-clusters}
use Rattle.lin_parts.proofs.cluster.Cluster.sound.Goals as goal

pub returns-clause-sound : goal.returns-clause-sound
returns-clause-sound c = subst (λ parts. IsSound parts) c.self.view_is (sound-clusters c.self.inside.parts c.self.invariant.0)

pub returns-clause-identifiers : goal.returns-clause-identifiers
returns-clause-identifiers c = subst (λ parts. length parts.frames + length parts.events ≤ 60) c.self.view_is (few-identifiers c.self.inside.parts c.self.invariant.0.identifiers)
