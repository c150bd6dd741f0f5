use Rattle.std.proofs.Common.{refl, sym, ap, ◌∙◌, ◌++◌, false}
use Rattle.std.specs.Prelude.{nat_eq}
use Rattle.std.specs.List.{flat_map}
use Rattle.std.specs.Option.{option_map, option_map_or}
use Rattle.indexmap.specs.IndexSet.{contains}
use Rattle.lin_cluster.specs.Findings.{in_event_member}
use Rattle.lin_cluster.specs.FindingsNames.{frame_named, is_any_frame}
use Rattle.lin_cluster.specs.FindingsNodes.{number_of_node, is_node_number}
use Rattle.lin_cluster.specs.Known.{frame_facts}
use Rattle.lin_cluster.proofs.FindingsLists.{each_step_at, each_all}
use Rattle.lin_cluster.proofs.FindingsMaps.{seen_more}
use Rattle.lin_cluster.proofs.Made.{member_same, publisher_same}
use Rattle.lin_cluster.proofs.findings.members.members_in_order.Goals as goal

pub loop-member-preserved : goal.loop-member-preserved
loop-member-preserved c =
    let d = c.args.judged.now in
    let members = c.args.members.now in
    let i = c.loop-member.member-index in
    let member = c.member-item.result in
    let facts = option_map (frame_facts d) (frame_named d member) in
    record {
      found = each_step_at (in_event_member d members) members i member c.args.found.now.items c.loop-member.found.items c.add_member.new.found.items c.loop-member-test.true (sym c.member-item.is) c.loop-member.invariant.found
          (c.in_ok-add_member.ensures.found
          ∙ ap (λ fs. c.loop-member.found.items ++ fs)
          (member_same d members i member c.first_frame-first.result facts (contains nat_eq c.loop-member.publishers.numbers) (is_any_frame d member)
          c.first_frame-first.ensures refl refl c.loop-member.invariant.publishers));
      publishers = λ q.
          seen_more (λ m. option_map_or (λ g. is_node_number q (number_of_node d g.publisher)) (frame_named d m) false) members i member _ _ _ c.loop-member-test.true
          (publisher_same d q member facts refl ∙ ap (λ m. option_map_or (λ g. is_node_number q (number_of_node d g.publisher)) (frame_named d m) false) c.member-item.is) (c.loop-member.invariant.publishers q) (c.in_ok-add_member.ensures.publishers q);
    }

pub returns : goal.returns
returns c = c.loop-member.invariant.found ∙ ap (λ xs. c.args.found.now.items ++ flat_map (in_event_member c.args.judged.now c.args.members.now) xs) (each_all c.args.members.now c.loop-member.member-index c.loop-member-test.false)
