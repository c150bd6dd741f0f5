-- What the things of an LDF are looked up by.
use Rattle.std.specs.Prelude.{◌≡◌, ℕ, List}
use Rattle.lin_cluster.specs.Names.{NumbersFirst}
use Rattle.lin_sections.specs.NewNames.{has_in}
use Rattle.lin_sections.specs.Things.{is_event_member, IsReadOf}
use Rattle.lin_sections.specs.declared.diff.frame_facts.FrameLookups.{FrameLookups}
use Rattle.lin_sections.specs.declared.diff.node_facts.Blocks.{Blocks}

-- the attributes of nodes, by the names of the nodes
pub record AreBlocks (b : Blocks) : Type 0 where
  pub facts : IsReadOf b.facts.now
  pub declared : NumbersFirst (λ a. a.node) b.facts.now.ldf.description.now.attributes b.declared.map
  pub read : NumbersFirst (λ a. a.node) b.facts.now.blocks b.read.map

-- the signals by their names, and the frames that event-triggered frames list
pub record AreFrameLookups (f : FrameLookups) : Type 0 where
  pub signals : NumbersFirst (λ s. s.name) f.facts.now.ldf.description.now.signals f.signals.map
  pub members : (q : List ℕ) → has_in f.members.map q ≡ is_event_member f.facts.now.ldf.description.now.events q
