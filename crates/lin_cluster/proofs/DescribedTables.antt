-- The schedule tables of a description without findings keep the rules of clusters.
use Rattle.std.proofs.Common.{◌≡◌, ◌≤◌, Bool, true, false, nat_lt, if◌then◌else◌, length, get_or, refl, ◌∙◌, arith}
use Rattle.std.specs.Prelude.{All, codes}
use Rattle.std.specs.Str.{bytes_eq}
use Rattle.std.proofs.lemmas.Bool.{ltb-true}
use Rattle.std.proofs.lemmas.List.{length-map}
use Rattle.std.proofs.lemmas.List.Elements.{All-map}
use Rattle.std.proofs.lemmas.List.FromFn.{length-enumerate_from}
use Rattle.std.specs.List.{enumerate_from}
use Rattle.lin_parts.specs.declared.description.Description.{Description}
use Rattle.lin_parts.specs.declared.description.Name.{Name}
use Rattle.lin_parts.specs.declared.description.TableEntry.{TableEntry}
use Rattle.lin_cluster.specs.Described.{frame_number, sporadic_number, event_number, frame_entry, described_frame, described_event, described_entry, described_line, described_sporadic, described_table, parts_of}
use Rattle.lin_parts.specs.Rules.{AreTables, IsEntry, IsDelay}
use Rattle.lin_parts.specs.declared.parts.Entry.{Entry}
use Rattle.lin_parts.specs.declared.parts.Entry.TheVariants.{MasterReq, SlaveResp, Quiet}
use Rattle.lin_parts.specs.declared.parts.Line.{Line}
use Rattle.lin_parts.specs.declared.parts.Parts.{Parts}
use Rattle.lin_parts.specs.declared.parts.Table.{Table}
use Rattle.lin_cluster.proofs.GoodParts.{good-tables, some-tables, within-limits}
use Rattle.lin_cluster.proofs.NothingElse.{NothingElse}

pub frames-count : (d : Description) → length (parts_of d).frames ≡ length d.frames
frames-count d = length-map (enumerate_from 0 d.frames) (described_frame d) ∙ length-enumerate_from 0 d.frames

sporadic-count : (d : Description) → length (parts_of d).sporadic ≡ length d.sporadic
sporadic-count d = length-map d.sporadic (described_sporadic d)

events-count : (d : Description) → length (parts_of d).events ≡ length d.events
events-count d = length-map d.events (described_event d)

-- what an entry names by a number in range is there
choice : (c : Parts) (b : Bool) (x y : Entry) → (b ≡ true → IsEntry c x) → IsEntry c y → IsEntry c (if b then x else y)
choice c true x y here there = here refl
choice c false x y here there = there

frame-entry-there : (d : Description) (name : Name) → IsEntry (parts_of d) (frame_entry d name)
frame-entry-there d name =
    let c = parts_of d
    in choice c (nat_lt (frame_number d name) (length d.frames)) _ _
    (λ e. rw (frames-count d) (ltb-true (frame_number d name) (length d.frames) e))
    (choice c (nat_lt (sporadic_number d name) (length d.sporadic)) _ _
    (λ e. rw (sporadic-count d) (ltb-true (sporadic_number d name) (length d.sporadic) e))
    (choice c (nat_lt (event_number d name) (length d.events)) _ _
    (λ e. rw (events-count d) (ltb-true (event_number d name) (length d.events) e)) tt))

entry-there : (d : Description) (x : TableEntry) → IsEntry (parts_of d) (described_entry d x)
entry-there d x =
    let c = parts_of d
    in choice c x.has_group Quiet _ (λ e. tt)
    (choice c (bytes_eq x.name.text (codes "MasterReq")) MasterReq _ (λ e. tt)
    (choice c (bytes_eq x.name.text (codes "SlaveResp")) SlaveResp _ (λ e. tt) (frame-entry-there d x.name)))

pub described-tables : (d : Description) → NothingElse d → AreTables (parts_of d)
described-tables d none =
    let good = good-tables d none
    in let count = length-map d.tables (described_table d)
    in record {
      number = (omega (arith, count, some-tables d none), omega (arith, count, (within-limits d none).tables));
      lengths = All-map (λ (t : Table). (1 ≤ length t.lines) × (length t.lines ≤ 1024)) (described_table d) d.tables
          (λ k t lt. let here = get_or d.tables k t in let same = length-map here.entries (described_line d) in (omega (arith, same, (good k t lt).some), omega (arith, same, (good k t lt).few)));
      delays = All-map (λ (t : Table). All (λ (line : Line). IsDelay line.delay_us) t.lines) (described_table d) d.tables
          (λ k t lt. let here = get_or d.tables k t in All-map (λ (line : Line). IsDelay line.delay_us) (described_line d) here.entries (λ i x in'. ((((good k t lt).lines) i x in').some, (((good k t lt).lines) i x in').few)));
      entries = All-map (λ (t : Table). All (λ (line : Line). IsEntry (parts_of d) line.entry) t.lines) (described_table d) d.tables
          (λ k t lt. let here = get_or d.tables k t in All-map (λ (line : Line). IsEntry (parts_of d) line.entry) (described_line d) here.entries (λ i x in'. entry-there d (get_or here.entries i x)));
    }
