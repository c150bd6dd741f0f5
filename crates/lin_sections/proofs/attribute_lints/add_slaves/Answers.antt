use Rattle.std.specs.Option.{option_map}
use Rattle.lin_sections.specs.AttributeLints.{no_response_error}
use Rattle.lin_sections.proofs.AttributeSteps.{flat-all-of, flat-step-of}
use Rattle.lin_sections.proofs.attribute_lints.add_slaves.Goals as goal

pub loop-slave-preserved : goal.loop-slave-preserved
loop-slave-preserved c =
    flat-step-of (no_response_error c.args.nodes.now (option_map (λ v. v.now) c.args.version) c.args.blocks.now) c.slaves-slave-items.result.now c.args.nodes.now.slaves c.loop-slave.slave-index c.slave-item.result c.args.found.now.items c.loop-slave.found.items c.add_slave.new.found.items c.slaves-slave-items.ensures c.loop-slave-test.true c.slave-item.is c.loop-slave.invariant c.in_ok-add_slave.ensures

pub returns : goal.returns
returns c =
    flat-all-of (no_response_error c.args.nodes.now (option_map (λ v. v.now) c.args.version) c.args.blocks.now) c.slaves-slave-items.result.now c.args.nodes.now.slaves c.loop-slave.slave-index c.args.found.now.items c.loop-slave.found.items c.slaves-slave-items.ensures c.loop-slave-test.false c.loop-slave.invariant
