use Rattle.std.proofs.Common.{◌≡◌, ◌++◌, ◌+◌, List, [], None, length}
use Rattle.std.specs.Option.{option_to_list}
use Rattle.std.specs.Vec.Iter.{into_iter_items, into_iter_len}
use Rattle.lin_bench.specs.Bench.{state_of}
use Rattle.lin_bench.specs.Played.{bench_after}
use Rattle.lin_bench.specs.Plays.{ends_on, judged_on}
use Rattle.lin_bench.specs.declared.line.ScriptLine.{ScriptLine}
use Rattle.lin_bench.specs.declared.place.LinePlace.{LinePlace}
use Rattle.lin_bench.proofs.Runs.{HasCome, IsPlaying}
use Rattle.lin_bench.proofs.playing.play_on.Given as goal

abbrev pub invariant-loop-next : goal.invariant-loop-next
invariant-loop-next l = record {
  come : (before : List (LinePlace × ScriptLine))
      × (before ++ (option_to_list l.next ++ into_iter_items l.rest) ≡ l.fn.lines.items)
      × HasCome l.fn.bench before l.bench;
  playing :
      IsPlaying l.is_strict l.silent.items l.fn.bench l.judgements.items l.ends.items l.bench (option_to_list l.next ++ into_iter_items l.rest)
      (l.fn.judgements.items ++ judged_on l.is_strict l.fn.bench l.fn.lines.items)
      (l.fn.ends.items ++ ends_on l.fn.bench l.fn.lines.items)
      (bench_after l.fn.bench.core.cluster l.fn.bench.core.opening l.fn.bench.core.capacity (state_of l.fn.bench) l.fn.lines.items);
  over : l.next ≡ None → into_iter_items l.rest ≡ [];
}

abbrev pub decreases-loop-next : goal.decreases-loop-next
decreases-loop-next l = length (option_to_list l.next) + into_iter_len l.rest
