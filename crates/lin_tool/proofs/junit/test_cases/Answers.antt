use Rattle.std.proofs.Common.{◌≡◌, ◌∙◌, ◌+◌, ◌<◌, ◌^◌, ◌∷◌, ◌++◌, [], ap, arith, length, length-take, sym, take}
use Rattle.std.proofs.lemmas.List.{take_all, take_more}
use Rattle.lin_tool.specs.Junit.{test_cases}
use Rattle.lin_tool.specs.Placing.{moment_of}
use Rattle.lin_tool.proofs.TestCases.{all-lent}
use Rattle.lin_tool.proofs.junit.test_cases.Goals as goal

pub loop-one-init : goal.loop-one-init
loop-one-init c = record {
  cases = c.in_ok-cases.ensures c.args.names.script.now c.args.names.files.now c.args.cluster.now c.args.log.now.entries;
  told = c.new-moment.ensures c.args.cluster.now;
  time = rw (c.new-moment.ensures c.args.cluster.now) (omega arith);
  count = rw (c.new-moment.ensures c.args.cluster.now) (omega arith);
  few = omega arith;
}

pub loop-one-preserved : goal.loop-one-preserved
loop-one-preserved c =
    let log = c.args.log.now.entries in
    let js = c.args.judgements.now in
    let i = c.loop-one.one-index in
    let told = c.at-moment.ensures.told ∙ ap (moment_of c.args.cluster.now) c.within-entries.ensures.same in
    let few : length (take i js) + 1 < 2 ^ 63 = omega (arith, length-take i js) in
    let added = rw c.in_ok-add_check.was at (c.add_check.ensures log told c.args.tests (take i js) few (c.as_mut_slice.ensures.value ∙ c.loop-one.invariant.cases)) in
    record {
      cases =
          all-lent _ c.add_check.new.cases _ (c.add_check.auto.cases ∙ c.as_mut_slice.ensures.len) ∙ added
          ∙ ap (test_cases c.args.names.script.now c.args.names.files.now c.args.cluster.now log 1 c.args.tests)
          (ap (λ j. take i js ++ j ∷ []) c.one-item.is ∙ sym (take_more js i c.one-item.result (omega arith)));
      told = c.at-moment.ensures.told;
      time = c.at-moment.ensures.time;
      count = c.at-moment.ensures.count;
      few = c.within-entries.ensures.there;
    }

pub returns : goal.returns
returns c =
    c.loop-one.invariant.cases
    ∙ ap (test_cases c.args.names.script.now c.args.names.files.now c.args.cluster.now c.args.log.now.entries 1 c.args.tests) (take_all c.loop-one.one-index c.args.judgements.now (omega arith))
