use Rattle.std.proofs.Common.{◌≡◌, ◌++◌, ℕ, List, drop, take}
use Rattle.lin_text.specs.Written.{Grows}
use Rattle.lin_export.proofs.Tellings.{before}
use Rattle.lin_export.specs.Jsonl.{IsObjectTrackOf, objects_of}
use Rattle.lin_export.specs.WhereTold.{given_coding}
use Rattle.lin_export.proofs.jsonl.ObjectTrack.put_entries.Given as goal

-- what was put, and the objects of the entries that are left, are those of all
abbrev pub invariant-loop-index : goal.invariant-loop-index
invariant-loop-index g l = record {
  told : (put : List ℕ) × Grows g.W.Write.contents l.initial.out l.out put
      × (put ++ objects_of l.fn.cluster (given_coding l.fn.coded) (before (take l.fn.range.end l.fn.range.log.now.entries) l.index) (drop l.index (take l.fn.range.end l.fn.range.log.now.entries))
      ≡ objects_of l.fn.cluster (given_coding l.fn.coded) (before (take l.fn.range.end l.fn.range.log.now.entries) l.fn.range.from) (drop l.fn.range.from (take l.fn.range.end l.fn.range.log.now.entries)));
  kept : IsObjectTrackOf l.fn.cluster (before (take l.fn.range.end l.fn.range.log.now.entries) l.index) l.self;
}
