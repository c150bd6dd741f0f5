use Rattle.std.proofs.Common.{◌≡◌, ◌++◌, drop, length, rules}
use Rattle.lin_bench.specs.Played.{on_line}
use Rattle.lin_bench.specs.Strict.{left_out, strictly}
use Rattle.lin_bench.proofs.Runs.{strictly-fails, strictly-played}
use Rattle.lin_bench.proofs.playing.play_strictly.Goals as goal

pub returns-in-Err : goal.returns-in-Err
returns-in-Err c =
    strictly-fails c.args.bench.now c.play_line.new.bench c.args.judgements.now.items c.play_line.new.judgements.items (c.args.place, c.args.line) c.args.is_told c.in-Err.fault
    (rw c.in-Err.is at c.play_line.ensures)

pub returns : goal.returns
returns c =
    let mid = c.play_line.new.judgements.items in
    let old = c.args.bench.now.core.log in
    let new = c.play_line.new.bench.core.log in
    let judged : c.strictly-judged.result ≡ strictly (left_out c.args.line) c.args.is_told (drop (length old) new) = search rules in
    let more : c.add.new.judgements.items ≡ mid ++ on_line c.args.place (length new) c.strictly-judged.result = search rules in
    strictly-played c.args.bench.now c.play_line.new.bench c.args.judgements.now.items mid c.add.new.judgements.items c.args.place c.args.line c.args.is_told
    (rw c.in-Ok.is at c.play_line.ensures) (rw judged at more)
