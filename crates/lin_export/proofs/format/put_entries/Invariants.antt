use Rattle.std.proofs.Common.{◌≡◌, ◌++◌, ℕ, List, drop}
use Rattle.lin_text.specs.Written.{Grows}
use Rattle.lin_export.proofs.Tellings.{before}
use Rattle.lin_export.specs.Telling.{each_entry}
use Rattle.lin_export.specs.Track.{track_of}
use Rattle.lin_export.proofs.format.put_entries.Given as goal

-- what was put, and what the entries say that are left, is what all say
abbrev pub invariant-loop-index : goal.invariant-loop-index
invariant-loop-index g l = record {
  told : (put : List ℕ) × Grows g.W.Write.contents l.initial.out l.out put
      × (put ++ each_entry (g.F.EntryFormat.text l.fn.format l.fn.cluster).says (before l.fn.log.entries l.index) (drop l.index l.fn.log.entries)
      ≡ each_entry (g.F.EntryFormat.text l.fn.format l.fn.cluster).says (before l.fn.log.entries l.fn.from) (drop l.fn.from l.fn.log.entries));
  kept : l.track ≡ track_of l.fn.cluster (before l.fn.log.entries l.index);
  same : g.F.EntryFormat.text l.format ≡ g.F.EntryFormat.text l.fn.format;
  fits : g.F.EntryFormat.fits l.format l.fn.cluster;
  keeps : g.F.EntryFormat.keeps l.format l.fn.cluster (before l.fn.log.entries l.index);
}
