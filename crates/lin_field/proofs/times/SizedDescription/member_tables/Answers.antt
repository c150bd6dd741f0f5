use Rattle.std.proofs.Common.{◌≡◌, ◌<◌, List, ap, sym, subst, ◌∙◌, ◌++◌, [], ◌∷◌, length, get_or, map, Vec, Global}
use Rattle.std.specs.Prelude.{find}
use Rattle.std.specs.Option.{option_map}
use Rattle.lin_cluster.specs.FindingsNames.{same_name}
use Rattle.lin_parts.specs.declared.description.Description.{Description}
use Rattle.lin_parts.specs.declared.description.EventFrame.{EventFrame}
use Rattle.lin_parts.specs.declared.description.Table.{Table}
use Rattle.lin_parts.specs.declared.description.TableEntry.{TableEntry}
use Rattle.lin_field.specs.Tables.{is_members_name}
use Rattle.lin_field.specs.Times.{first_delay, member_table, member_table_by}
use Rattle.lin_field.specs.declared.times.Call.{Call}
use Rattle.lin_field.proofs.Walked.{first-made, made-kept, filter-drops}
use Rattle.lin_field.proofs.times.SizedDescription.member_tables.Goals as goal
use Rattle.lin_field.proofs.times.SizedDescription.member_tables.Goals.{then-is_members_name+in_ok-member_table+in_ok-push, else-is_members_name}

pub loop-event-preserved : goal.loop-event-preserved
loop-event-preserved c =
    let d = c.args.self.now in
    let tables = c.args.tables.now in
    let test = λ (e : EventFrame). is_members_name e.table in
    let at = c.loop-event in
    let event = c.event-item.result in
    let more = c.if-is_members_name.made.items in
    let named = λ (e : TableEntry). same_name e.name event.name in
    let events : c.events-event-items.result.now ≡ d.events = c.events-event-items.ensures ∙ ap (λ (x : Description). x.events) c.self.view_is in
    let within : at.event-index < length d.events = subst (λ (es : List EventFrame). at.event-index < length es) events c.loop-event-test.true in
    let is : event ≡ get_or d.events at.event-index event = subst (λ (es : List EventFrame). event ≡ get_or es at.event-index event) events c.event-item.is in
    elim c.if-is_members_name.branch [
      | then-is_members_name+in_ok-member_table+in_ok-push w ↦
          let delay : w.first_delay-delay.result ≡ first_delay tables event.name =
          w.first_delay-delay.ensures ∙ first-made (λ (k : Call). k.entry.now) (λ e. e.delay) named w.as_slice-then-is_members_name.result.now
          ∙ ap (λ (ks : List Call). option_map (λ (e : TableEntry). e.delay) (find named (map (λ k. k.entry.now) ks))) w.as_slice-then-is_members_name.ensures.value
          ∙ ap (λ es. option_map (λ (e : TableEntry). e.delay) (find named es)) c.in_ok-calls.ensures in
          made-kept (member_table d tables) test d.events at.event-index event at.made.items more within is
          (sym c.is_members_name.ensures ∙ w.if-is_members_name.true) at.invariant
          (ap (λ (v : Vec Table Global). v.items) w.made-is ∙ w.in_ok-push.ensures.items
          ∙ ap (λ t. at.made.items ++ t ∷ []) (w.in_ok-member_table.ensures ∙ ap (λ o. member_table_by d o event) delay))
      | else-is_members_name w ↦
          ap (λ (v : Vec Table Global). v.items) w.made-is ∙ at.invariant
          ∙ ap (map (member_table d tables))
          (sym (filter-drops test d.events at.event-index event within is (sym c.is_members_name.ensures ∙ w.if-is_members_name.false)))
    ]
