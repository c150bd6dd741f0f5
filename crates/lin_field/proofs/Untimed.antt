-- Tables of which no delay is 0, where no event-triggered frame names a table of its members.
use Rattle.std.proofs.Common.{◌≡◌, Bool, false, List, [], ◌++◌, map, sym, ap, ◌∙◌, append-nil}
use Rattle.std.specs.Prelude.{◌&&◌, is_some, if◌then◌else◌}
use Rattle.std.specs.List.{flat_map, list_any}
use Rattle.lin_cluster.specs.FindingsNames.{at_number, when}
use Rattle.lin_cluster.specs.declared.finding.Finding.{Finding}
use Rattle.lin_cluster.specs.declared.finding.FindingKind.TheVariants.{ZeroDelay}
use Rattle.lin_parts.specs.declared.description.Description.{Description}
use Rattle.lin_parts.specs.declared.description.EventFrame.{EventFrame}
use Rattle.lin_parts.specs.declared.description.Table.{Table}
use Rattle.lin_parts.specs.declared.description.TableEntry.{TableEntry}
use Rattle.lin_field.specs.Tables.{is_members_name}
use Rattle.lin_field.specs.Times.{all_tables, delay_warnings, has_no_delay, is_timed, member_table, member_tables, rounded_delay, timed_by, timed_entry, timed_table, timed_tables, timing_warnings}
use Rattle.lin_field.proofs.Walked.{map-same, neither, none-found, none-pass}

abbrev lacks_delays : Table → Bool
lacks_delays t = list_any has_no_delay t.entries

same-entry : (d : Description) (e : TableEntry) → has_no_delay e ≡ false → timed_entry d e ≡ e
same-entry d e h = ap (λ (b : Bool). if b then timed_by e (rounded_delay d e) else e) h

no-warning : (d : Description) (e : TableEntry) → has_no_delay e ≡ false → delay_warnings d e ≡ []
no-warning d e h = ap (λ b. when (b && is_some (rounded_delay d e)) (at_number ZeroDelay e.delay)) h

same-table : (d : Description) (t : Table) → lacks_delays t ≡ false → timed_table d t ≡ t
same-table d t h =
    ap (λ (es : List TableEntry). record { name = t.name; entries = es }) (map-same (timed_entry d) has_no_delay (same-entry d) t.entries h)

no-table-warning : (d : Description) (t : Table) → lacks_delays t ≡ false → flat_map (delay_warnings d) t.entries ≡ []
no-table-warning d t h = none-found (delay_warnings d) has_no_delay (no-warning d) t.entries h

same-tables : (d : Description) (ts : List Table) → list_any lacks_delays ts ≡ false → timed_tables d ts ≡ ts
same-tables d ts h = map-same (timed_table d) lacks_delays (same-table d) ts h

no-members : (d : Description) (ts : List Table) → list_any (λ (e : EventFrame). is_members_name e.table) d.events ≡ false → member_tables d ts ≡ []
no-members d ts h = ap (map (member_table d ts)) (none-pass (λ (e : EventFrame). is_members_name e.table) d.events h)

-- these tables stay
pub untimed-tables : (d : Description) (ts : List Table) → is_timed d.events ts ≡ false → ts ≡ all_tables d ts
untimed-tables d ts h =
    let parts = neither (list_any (λ (e : EventFrame). is_members_name e.table) d.events) (list_any lacks_delays ts) h in
    sym (append-nil ts) ∙ sym (ap (λ ms. timed_tables d ts ++ ms) (no-members d (timed_tables d ts) parts.0) ∙ ap (λ us. us ++ []) (same-tables d ts parts.1))

-- without a warning
pub untimed-warnings : (d : Description) (ts : List Table) (warned : List Finding) → is_timed d.events ts ≡ false → warned ≡ warned ++ timing_warnings d ts
untimed-warnings d ts warned h =
    let parts = neither (list_any (λ (e : EventFrame). is_members_name e.table) d.events) (list_any lacks_delays ts) h in
    sym (append-nil warned)
    ∙ sym (ap (λ ws. warned ++ ws) (none-found (λ (t : Table). flat_map (delay_warnings d) t.entries) lacks_delays (no-table-warning d) ts parts.1))
