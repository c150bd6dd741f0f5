use Rattle.std.proofs.Common.{◌≡◌, ◌∙◌, [], ◌∷◌, ◌++◌, ap, sym, append_assoc, append-nil, length, rules, None}
use Rattle.std.specs.Option.{option_to_list}
use Rattle.std.specs.Vec.Iter.{into_iter_items}
use Rattle.lin_bench.specs.Played.{nothing_expected}
use Rattle.lin_bench.specs.Strict.{speaks_of_last}
use Rattle.lin_bench.proofs.Runs.{come-first, come-more, next-left, none-left, playing-done, playing-fails, playing-first, playing-more}
use Rattle.lin_bench.proofs.playing.play_on.Goals as goal

pub loop-next-init : goal.loop-next-init
loop-next-init c =
    let whole = sym c.next-next.ensures.items ∙ c.into_iter-rest.ensures.rest in
    record {
      come = ([], whole, come-first c.args.bench.now);
      playing =
          playing-first c.args.is_strict c.in_ok-silent.silent.items c.args.bench.now c.args.judgements.now.items c.args.ends.now.items
          (option_to_list c.next-next.result ++ into_iter_items c.next-next.new.self) c.args.lines.items whole (rw c.as_slice.ensures.value at c.in_ok-silent.ensures);
      over = none-left c.next-next.result c.into_iter-rest.result c.next-next.new.self c.next-next.ensures.cases;
    }

pub loop-next-preserved : goal.loop-next-preserved
loop-next-preserved c =
    let at = c.loop-next in
    let line = c.in-Some.line in
    let rest = option_to_list c.next-next-in-Some.result ++ into_iter_items c.next-next-in-Some.new.self in
    let left : option_to_list at.next ++ into_iter_items at.rest ≡ line ∷ rest =
    ap (λ o. option_to_list o ++ into_iter_items at.rest) c.in-Some.is ∙ ap (λ r. line ∷ r) c.next-next-in-Some.ensures.items in
    let before = at.invariant.come.0 in
    let has = at.invariant.come.2 in
    let over = none-left c.next-next-in-Some.result at.rest c.next-next-in-Some.new.self c.next-next-in-Some.ensures.cases in
    let plays = rw c.in-Ok.is at c.play_placed.ensures in
    let told = ap speaks_of_last (next-left c.next-next-in-Some.result (into_iter_items c.next-next-in-Some.new.self) over) ∙ sym c.speaks_of_last-is_told.ensures in
    record {
      come = (
        before ++ line ∷ [],
        append_assoc before (line ∷ []) rest ∙ ap (λ r. before ++ r) (sym left) ∙ at.invariant.come.1,
        come-more c.args.bench.now at.bench c.play_placed.new.bench before line has plays.0 plays.2,
      );
      playing =
          playing-more c.args.is_strict c.in_ok-silent.silent.items c.args.bench.now at.bench c.play_placed.new.bench at.judgements.items c.play_placed.new.judgements.items _
          at.ends.items c.add_end.new.ends.items _ _ line rest c.speaks_of_last-is_told.result has.alike (rw left at at.invariant.playing) told plays.0 plays.1 (search rules);
      over = over;
    }

pub returns-in-Err : goal.returns-in-Err
returns-in-Err c =
    let at = c.loop-next in
    let line = c.in-Some.line in
    let rest = option_to_list c.next-next-in-Some.result ++ into_iter_items c.next-next-in-Some.new.self in
    let left : option_to_list at.next ++ into_iter_items at.rest ≡ line ∷ rest =
    ap (λ o. option_to_list o ++ into_iter_items at.rest) c.in-Some.is ∙ ap (λ r. line ∷ r) c.next-next-in-Some.ensures.items in
    let before = at.invariant.come.0 in
    playing-fails c.args.is_strict c.speaks_of_last-is_told.result c.in_ok-silent.silent.items c.args.bench.now at.bench c.play_placed.new.bench c.args.judgements.now.items at.judgements.items
    c.play_placed.new.judgements.items c.args.ends.now.items at.ends.items before rest c.args.lines.items line c.in-Err.fault
    (ap (λ r. before ++ r) (sym left) ∙ at.invariant.come.1) at.invariant.come.2 (rw left at at.invariant.playing) (rw c.in-Err.is at c.play_placed.ensures)

pub returns : goal.returns
returns c =
    let at = c.loop-next in
    let none : at.next ≡ None = search rules in
    let left : option_to_list at.next ++ into_iter_items at.rest ≡ [] = ap (λ o. option_to_list o ++ into_iter_items at.rest) none ∙ at.invariant.over none in
    let added : c.add_silent.new.judgements.items ≡ at.judgements.items ++ nothing_expected (length at.bench.core.log) c.in_ok-silent.silent.items = search rules in
    playing-done c.args.is_strict c.in_ok-silent.silent.items c.args.bench.now at.bench c.args.judgements.now.items at.judgements.items c.add_silent.new.judgements.items c.args.ends.now.items at.ends.items
    at.invariant.come.0 (option_to_list at.next ++ into_iter_items at.rest) c.args.lines.items left at.invariant.come.1 at.invariant.come.2 at.invariant.playing added
