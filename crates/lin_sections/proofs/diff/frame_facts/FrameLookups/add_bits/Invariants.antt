use Rattle.std.proofs.Common.{◌≡◌, ◌++◌, map, take}
use Rattle.lin_sections.specs.Things.{bits_in}
use Rattle.lin_sections.proofs.diff.frame_facts.FrameLookups.add_bits.Given as goal

abbrev pub invariant-loop-placed : goal.invariant-loop-placed
invariant-loop-placed l =
    l.taken.items ≡ l.initial.taken.items ++ map (bits_in l.self.facts.now.ldf.description.now) (take l.placed-index l.all)
