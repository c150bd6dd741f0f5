use Rattle.std.proofs.Common.{◌≡◌, drop, fold}
use Rattle.lin_bench.specs.Hints.{texts_in, with_text_of}
use Rattle.lin_bench.proofs.hints.texts_in.Given as goal

abbrev pub invariant-loop-one : goal.invariant-loop-one
invariant-loop-one l =
    texts_in l.coded l.signal l.items ≡ fold (with_text_of l.coded l.signal) l.texts.items (drop l.one-index l.items)
