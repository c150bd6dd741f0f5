use Rattle.std.proofs.Common.{◌≡◌, ◌∙◌, option_map, rules, sym}
use Rattle.lin_bench.specs.Files.{source_data}
use Rattle.lin_bench.specs.Read.{item_text_read}
use Rattle.lin_bench.specs.Resolving.{item_of, items_left}
use Rattle.lin_bench.specs.Scripts.{bad_lines}
use Rattle.lin_bench.proofs.BadLines.{bad-more, first-bad, flag-more, item-given, why-given}
use Rattle.lin_bench.proofs.script.bad_lines.Goals as goal

pub loop-bad-preserved-in-Some : goal.loop-bad-preserved-in-Some
loop-bad-preserved-in-Some c =
    let cl = c.args.cluster.now in
    let k = option_map (λ k. k.now) c.args.coded in
    let limits = c.args.limits.now in
    let item = c.in-Some.item in
    let place = c.in-Some.place in
    let why = c.in-Some-2.reason in
    let old = items_left c.loop-bad.script in
    let left = items_left c.next.new.self in
    let bad = c.loop-bad.bad.items in
    let new = c.push.new.self.items in
    let given = item-given c.in_ok-place.field-0 (place, item) old left c.in_ok-place.ensures c.in-Some.is in
    let is_bad = why-given (item_text_read cl k limits item) c.in_ok-reason.field-0 why c.in_ok-reason.ensures c.in-Some-2.is in
    let other = sym (c.loop-bad.invariant.flags place) ∙ sym c.has.ensures ∙ c.if-not-has.true in
    record {
      same = bad-more cl k limits bad new old left place (item_of item) why _ given is_bad other c.in_ok-push.ensures.items c.loop-bad.invariant.same;
      flags = λ q. flag-more bad new place why q _ _ c.in_ok-push.ensures.items (c.in_ok-add.ensures q) (c.loop-bad.invariant.flags q);
    }

pub returns-clause-first : goal.returns-clause-first
returns-clause-first c =
    let all : c.loop-bad.bad.items ≡ bad_lines c.args.cluster.now (option_map (λ k. k.now) c.args.coded) c.args.limits.now (source_data c.args.source) = search rules in
    rw all (first-bad c.args.cluster.now (option_map (λ k. k.now) c.args.coded) c.args.limits.now (source_data c.args.source))
