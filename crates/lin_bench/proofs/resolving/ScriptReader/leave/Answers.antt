use Rattle.std.proofs.Common.{◌≡◌, arith, length}
use Rattle.lin_bench.specs.Files.{source_data}
use Rattle.lin_bench.specs.Resolving.{open_file_of}
use Rattle.lin_bench.proofs.Readings.{all-read, left-file, no-items}
use Rattle.lin_bench.proofs.resolving.ScriptReader.leave.Goals as goal

pub returns-in-Some-clause-leaves : goal.returns-in-Some-clause-leaves
returns-in-Some-clause-leaves c =
    let r = c.args.self.now in
    left-file r.left (source_data r.source) r.room r.sets (open_file_of r.file) r.outer.items c.pop.new.self.items c.in-Some.file c.requires.0 c.requires.1 c.in-Some.ensures.items

pub returns-in-None-clause-leaves : goal.returns-in-None-clause-leaves
returns-in-None-clause-leaves c =
    let r = c.args.self.now in
    let none : length r.outer.items ≡ 0 = omega (arith, c.in-None.ensures.cases, r.outer.ok.0) in
    all-read r.left (source_data r.source) r.room r.sets (open_file_of r.file) r.outer.items c.requires.0 c.requires.1 (no-items r.outer.items none)
