-- Entries of a table, and members of an event-triggered frame, by sets of names.
use Rattle.std.proofs.Common.{◌≡◌, ℕ, Bool, false, List, [], ◌∷◌, ◌++◌, refl, sym, ap, ◌∙◌}
use Rattle.std.specs.Prelude.{◌||◌, ◌&&◌, not, flat_map, Some, None}
use Rattle.std.specs.List.{list_any}
use Rattle.lin_cluster.specs.FindingsNames.{at_name, carries_frame, table_named, when}
use Rattle.lin_cluster.specs.Lint.{of_entry, off_time_base, unresolved_member}
use Rattle.lin_cluster.specs.LintNames.{has_entry, has_event_of, has_sporadic_of, is_among_names, is_frame, is_resolving}
use Rattle.lin_cluster.specs.declared.finding.Finding.{Finding}
use Rattle.lin_cluster.specs.declared.finding.FindingKind.TheVariants.{EventMemberBeside, SporadicMemberBeside, UnresolvedMember, ResolvingEntry}
use Rattle.lin_parts.specs.declared.description.Description.{Description}
use Rattle.lin_parts.specs.declared.description.EventFrame.{EventFrame}
use Rattle.lin_parts.specs.declared.description.Name.{Name}
use Rattle.lin_parts.specs.declared.description.Sporadic.{Sporadic}
use Rattle.lin_parts.specs.declared.description.Table.{Table}
use Rattle.lin_parts.specs.declared.description.TableEntry.{TableEntry}

-- the members of event-triggered frames with an entry, added to none
pub events_added : (d : Description) (t : Table) (entries : List ℕ → Bool) (none one : Bool) (vs : List EventFrame) (q : List ℕ) → ((r : List ℕ) → entries r ≡ has_entry t r) → none ≡ false → one ≡ (none || list_any (λ v. entries v.name.text && is_among_names v.members q) vs) → vs ≡ d.events → one ≡ has_event_of d t q
events_added d t entries none one vs q same empty is all =
    is ∙ ap (λ b. b || list_any (λ (v : EventFrame). entries v.name.text && is_among_names v.members q) vs) empty
    ∙ ap (list_any (λ (v : EventFrame). entries v.name.text && is_among_names v.members q)) all
    ∙ (λ i. list_any (λ (v : EventFrame). same v.name.text i && is_among_names v.members q) d.events)

-- those of sporadic frames
pub sporadic_added : (d : Description) (t : Table) (entries : List ℕ → Bool) (none one : Bool) (fs : List Sporadic) (q : List ℕ) → ((r : List ℕ) → entries r ≡ has_entry t r) → none ≡ false → one ≡ (none || list_any (λ f. entries f.name.text && is_among_names f.members q) fs) → fs ≡ d.sporadic → one ≡ has_sporadic_of d t q
sporadic_added d t entries none one fs q same empty is all =
    is ∙ ap (λ b. b || list_any (λ (f : Sporadic). entries f.name.text && is_among_names f.members q) fs) empty
    ∙ ap (list_any (λ (f : Sporadic). entries f.name.text && is_among_names f.members q)) all
    ∙ (λ i. list_any (λ (f : Sporadic). same f.name.text i && is_among_names f.members q) d.sporadic)

-- what is warned of an entry, by the members
abbrev entry_by : Description → (List ℕ → Bool) → (List ℕ → Bool) → Bool → TableEntry → List Finding
entry_by d events sporadic resolves e =
    when (carries_frame e && events e.name.text) (at_name EventMemberBeside e.name)
    ++ when (carries_frame e && sporadic e.name.text) (at_name SporadicMemberBeside e.name)
    ++ when (resolves && not (carries_frame e && is_frame d e.name.text)) (at_name ResolvingEntry e.name)
    ++ off_time_base d e

pub entries_found : (d : Description) (t : Table) (events sporadic : List ℕ → Bool) (resolves : Bool) (es : List TableEntry) → ((q : List ℕ) → events q ≡ has_event_of d t q) → ((q : List ℕ) → sporadic q ≡ has_sporadic_of d t q) → resolves ≡ is_resolving d t → es ≡ t.entries → flat_map (entry_by d events sporadic resolves) es ≡ flat_map (of_entry d t) t.entries
entries_found d t events sporadic resolves es own listed is all =
    ap (flat_map (entry_by d events sporadic resolves)) all
    ∙ (λ i. flat_map (entry_by d (λ q. own q i) (λ q. listed q i) (is i)) t.entries)

-- the members without an entry, where the table is declared
pub members_found : (d : Description) (v : EventFrame) (t : Table) (entries : List ℕ → Bool) (ms : List Name) → Some t ≡ table_named d v.table → ((q : List ℕ) → entries q ≡ has_entry t q) → ms ≡ v.members → flat_map (λ (m : Name). when (not (entries m.text)) (at_name UnresolvedMember m)) ms ≡ flat_map (unresolved_member (table_named d v.table)) v.members
members_found d v t entries ms found same all =
    ap (flat_map (λ (m : Name). when (not (entries m.text)) (at_name UnresolvedMember m))) all
    ∙ (λ i. flat_map (λ (m : Name). when (not (same m.text i)) (at_name UnresolvedMember m)) v.members)
    ∙ ap (λ o. flat_map (unresolved_member o) v.members) found

none_of : (ms : List Name) → flat_map (unresolved_member None) ms ≡ []
none_of [] = refl
none_of (m ∷ ms) = none_of ms

-- where it isn't
pub none_found : (d : Description) (v : EventFrame) → None ≡ table_named d v.table → [] ≡ flat_map (unresolved_member (table_named d v.table)) v.members
none_found d v none = sym (none_of v.members) ∙ ap (λ o. flat_map (unresolved_member o) v.members) none
