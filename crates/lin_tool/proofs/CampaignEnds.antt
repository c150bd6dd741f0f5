-- What is written of a campaign, part by part, up to its end.
use Rattle.std.proofs.Common.{◌≡◌, ◌∙◌, ℕ, suc, Bool, true, false, ◌==◌, ◌||◌, ◌&&◌, if◌then◌else◌, ◌+◌, ◌-◌, ◌<◌, ◌≤◌, List, [], ◌∷◌, ◌++◌, Option, Some, None, Result, Ok, Err, refl, sym, ap, ap₂, arith, append_assoc, append-nil, flat_map, length, length-append, map, max, subst}
use Rattle.std.specs.Prelude.{IfOk, nat_lt, option_map}
use Rattle.std.specs.Option.{option_map_or}
use Rattle.std.specs.Io.KnownBytes.{Appends, Keeps}
use Rattle.std.proofs.KnownBytes.{Appends-nil, Appends-trans}
use Rattle.std.proofs.lemmas.List.{length_push, map-append}
use Rattle.lin_parts.specs.declared.parts.Parts.{Parts}
use Rattle.lin_core.specs.Core.{CoreData}
use Rattle.lin_text.specs.Written.{WritesText}
use Rattle.lin_bench.specs.Plays.{OverfillsUnder}
use Rattle.lin_bench.specs.Played.{some_unmet}
use Rattle.lin_bench.specs.declared.faults.SlotFault.{SlotFault}
use Rattle.lin_bench.specs.declared.files.ScriptFile.{ScriptFile}
use Rattle.lin_bench.specs.declared.got.Judgement.{Judgement}
use Rattle.lin_bench.specs.declared.line.ScriptLine.{ScriptLine}
use Rattle.lin_bench.specs.declared.place.LinePlace.{LinePlace}
use Rattle.lin_export.proofs.Rows.{flat-append}
use Rattle.lin_export.specs.declared.fault.ExportFault.{ExportFault}
use Rattle.lin_export.specs.declared.fault.ExportFault.TheVariants as export
use Rattle.lin_tool.specs.Formats.{Begins, export_fault}
use Rattle.lin_tool.specs.Playing.{WritesTextOrPart}
use Rattle.lin_tool.specs.campaign.Played.{IsUnfinished, PlaysRow}
use Rattle.lin_tool.specs.campaign.Rows.{IsPart, bound, part_of, places_of, rows}
use Rattle.lin_tool.specs.campaign.Shown.{RowData}
use Rattle.lin_tool.specs.campaign.Singles.{faults_at, only_single, singles}
use Rattle.lin_tool.specs.campaign.Steps.{AreTableRows, AreRowsOf, BreaksOff, CountsMore, IsCampaignBegun, IsTableRow, IsPlanned, IsTable, WritesRow, WritesRows, calm_row, cases_of, counts_text, disturbed_row, end_part_row, first_disturbed, head_with_calm, first_part_row, is_page, row_of_play, stage_of, worst_places}
use Rattle.lin_tool.specs.campaign.Summary.{AreCountsOf, RowCountsData, NumberedRow, is_denied, lines_broken, lines_text, numbers_text, rows_of, worse, worst_after, worst_of}
use Rattle.lin_tool.specs.campaign.Written.{AreRowsFrom, Ends, IsRowOf, PlaysOfCampaign, SomeRowOverfills, PlaySetup, WritesPlays, is_full, text_before_rows, text_after_rows, rows_with_faults, counts, denies, plays_in_output, numbered_row, numbered_rows, row_as, row_in_output, rows_in_output, campaign_output}
use Rattle.lin_tool.specs.declared.campaign.Campaign.{Campaign}
use Rattle.lin_tool.specs.declared.campaign.plan.CampaignPlan.{CampaignPlan}
use Rattle.lin_tool.specs.declared.campaign.Play.{Play}
use Rattle.lin_tool.specs.declared.campaign.plan.RowFormat.{RowFormat}
use Rattle.lin_tool.specs.declared.campaign.row_source.RowSource.{RowSource}
use Rattle.lin_tool.specs.declared.campaign.row.LostMessage.{LostMessage}
use Rattle.lin_tool.specs.declared.campaign.row.RefusedStep.{RefusedStep}
use Rattle.lin_tool.specs.declared.campaign.row.Row.{Row}
use Rattle.lin_tool.specs.declared.campaign.rows.CampaignPart.{CampaignPart}
use Rattle.lin_tool.specs.declared.campaign.rows.Rows.{Rows}
use Rattle.lin_tool.specs.declared.campaign.singles.Single.{Single}
use Rattle.lin_tool.specs.declared.fault.Fault.{Fault}
use Rattle.lin_tool.specs.declared.fault.Fault.TheVariants.{LogFull, OutOfMemory, WriteFailed}
use Rattle.lin_tool.proofs.CampaignRows.{bound-more, bound-within, count-rows}
use Rattle.lin_tool.proofs.PlayedScripts.{writes-after}
use Rattle.lin_tool.proofs.CampaignWholes.{a-row, all-rows, rows-append, rows-push, some-rows}

-- ---- beginnings of texts
pub begins-nothing : (old : Option (List ℕ)) (text : List ℕ) → Begins old old text
begins-nothing old text = ([], text, refl, Appends-nil old)

-- a text whole, and then a beginning of another one
pub begins-behind : (old mid new : Option (List ℕ)) (first second : List ℕ) → Appends old mid first → Begins mid new second → Begins old new (first ++ second)
begins-behind old mid new first second h k =
    (first ++ k.0, k.1, ap (λ l. first ++ l) k.2 ∙ sym (append_assoc first k.0 k.1), Appends-trans old mid new first k.0 h k.3)

-- a beginning of a text is one of a longer text
pub begins-longer : (old new : Option (List ℕ)) (first second : List ℕ) → Begins old new first → Begins old new (first ++ second)
begins-longer old new first second h = (h.0, h.1 ++ second, ap (λ l. l ++ second) h.2 ∙ append_assoc h.0 h.1 second, h.3)

pub begins-whole : (old new : Option (List ℕ)) (text : List ℕ) → Appends old new text → Begins old new text
begins-whole old new text h = (text, [], sym (append-nil text), h)

pub text-begins : {E : Type 0} {r : Result Unit E} {old new : Option (List ℕ)} {text : List ℕ} → WritesText old new r text → Begins old new text
text-begins h = (h.part, h.rest, h.whole, h.written)

pub text-whole : {E : Type 0} {u : Unit} {old new : Option (List ℕ)} {text : List ℕ} → WritesText {E = E} old new (Ok u) text → Appends old new text
text-whole {old = old} {new = new} h = subst (λ l. Appends old new l) h.all h.written

-- ---- one row
-- the play of a row
pub row-played : (on : Campaign) (c : Parts) (ls : List (LinePlace × ScriptLine)) (ss : List Single) (n : ℕ) (places : List ℕ) (fs : List SlotFault) (one : Option Single) (p : Play) (js : List Judgement)
    → fs ≡ faults_at ss places → one ≡ only_single ss places → js ≡ p.judgements → PlaysRow on c fs ls (Ok p)
    → IsRowOf (stage_of on c ls) ss n places (record { number = n; faults = fs; single = one; row = p.row; log = p.core.log; judgements = js })
row-played on c ls ss n places fs one p js faults single judged h = record {
  it = h.it;
  comes = rw faults at h.comes;
  number = refl;
  faults = faults;
  single = single;
  row = h.is.row;
  log = ap (λ k. k.log) h.is.core;
  judgements = judged ∙ h.is.judgements;
}

-- the same, where the places are those of the row
abbrev pub played_data : ℕ → List SlotFault → Option Single → Play → List Judgement → RowData
played_data n fs one p js = record {
  number = n;
  faults = fs;
  single = one;
  row = p.row;
  log = p.core.log;
  judgements = js;
}

pub is-row : (on : Campaign) (t : RowSource) (c : Parts) (ls : List (LinePlace × ScriptLine)) (n : ℕ) (places : List ℕ) (fs : List SlotFault) (one : Option Single) (p : Play) (js : List Judgement)
    → places ≡ places_of t.rows.now n → fs ≡ faults_at t.singles.now places → one ≡ only_single t.singles.now places → js ≡ p.judgements → PlaysRow on c fs ls (Ok p)
    → IsRowOf (stage_of on c ls) t.singles.now n (places_of t.rows.now n) (played_data n fs one p js)
is-row on t c ls n places fs one p js at faults single judged h =
    subst (λ l. IsRowOf (stage_of on c ls) t.singles.now n l (played_data n fs one p js)) at (row-played on c ls t.singles.now n places fs one p js faults single judged h)

-- its row was written whole and counted
pub row-done : (on : Campaign) (t : RowSource) (c x handed : Parts) (ls : List (LinePlace × ScriptLine)) (n : ℕ) (p : RowData) (counts more : RowCountsData) (old new : Option (List ℕ))
    → IsRowOf (stage_of on c ls) t.singles.now n (places_of t.rows.now n) p → x ≡ c → Appends old new (disturbed_row on t x p) → CountsMore (p ∷ []) counts more
    → WritesRow on t c ls n (Ok handed) counts more old new
row-done on t c x handed ls n p counts more old new is same written counted = (p, is, subst (λ y. Appends old new (disturbed_row on t y p)) same written, counted)

-- a beginning of it was written
pub row-begun : (on : Campaign) (t : RowSource) (c x : Parts) (ls : List (LinePlace × ScriptLine)) (n : ℕ) (p : RowData) (fault : Fault) (counts more : RowCountsData) (old new : Option (List ℕ))
    → IsRowOf (stage_of on c ls) t.singles.now n (places_of t.rows.now n) p → x ≡ c → Begins old new (disturbed_row on t x p) → BreaksOff on t c ls fault
    → WritesRow on t c ls n (Err fault) counts more old new
row-begun on t c x ls n p fault counts more old new is same begun failed = (p, is, subst (λ y. Begins old new (disturbed_row on t y p)) same begun, failed)

pub row-fault : (on : Campaign) (t : RowSource) (c : Parts) (ls : List (LinePlace × ScriptLine)) (n : ℕ) (fault : Fault) → n < length (rows t.rows.now)
    → IsUnfinished on c (faults_at t.singles.now (places_of t.rows.now n)) ls fault → BreaksOff on t c ls fault
row-fault on t c ls n LogFull there h = (n, there, h)
row-fault on t c ls n OutOfMemory there h = tt
row-fault on t c ls n fault there h = absurd h

pub written-fault : (on : Campaign) (t : RowSource) (c : Parts) (ls : List (LinePlace × ScriptLine)) (fault : ExportFault) → BreaksOff on t c ls (export_fault fault)
written-fault on t c ls export.OutOfMemory = tt
written-fault on t c ls export.WriteFailed = tt

-- a row of which nothing was written
pub row-unbegun : (on : Campaign) (t : RowSource) (c : Parts) (ls : List (LinePlace × ScriptLine)) (n : ℕ) (fault : Fault) (counts more : RowCountsData) (old : Option (List ℕ)) → BreaksOff on t c ls fault
    → WritesRow on t c ls n (Err fault) counts more old old
row-unbegun on t c ls n fault counts more old failed =
    let p = a-row (stage_of on c ls) t.singles.now n (places_of t.rows.now n) in (p.0, p.1, begins-nothing old (disturbed_row on t c p.0), failed)

-- ---- the rows of a part
counts-same : (js : List Judgement) (counted : List NumberedRow) (counts : RowCountsData) → AreCountsOf js counted counts → AreCountsOf js (counted ++ []) counts
counts-same js counted counts h = subst (λ l. AreCountsOf js l counts) (sym (append-nil counted)) h

pub none-counted : (counts : RowCountsData) → CountsMore [] counts counts
none-counted counts = λ js counted h. counts-same js counted counts h

pub more-counted : (ps qs : List RowData) (old mid new : RowCountsData) → CountsMore ps old mid → CountsMore qs mid new → CountsMore (ps ++ qs) old new
more-counted ps qs old mid new h k = λ js counted are.
    subst (λ l. AreCountsOf js l new) (append_assoc counted (map numbered_row ps) (map numbered_row qs) ∙ ap (λ l. counted ++ l) (sym (map-append numbered_row ps qs)))
    (k js (counted ++ map numbered_row ps) (h js counted are))

-- the rows with faults up to number n were written and counted
pub record WroteUpTo (on : Campaign) (t : RowSource) (c : Parts) (ls : List (LinePlace × ScriptLine)) (n : ℕ) (counts more : RowCountsData) (old new : Option (List ℕ)) : Type 0 where
  pub ps : List RowData
  pub rows_are : AreRowsOf (stage_of on c ls) t.singles.now t.rows.now (first_disturbed (first_part_row t)) ps
  pub many : length ps + first_disturbed (first_part_row t) ≡ n
  pub written : Appends old new (flat_map (disturbed_row on t c) ps)
  pub counted : CountsMore ps counts more

pub wrote-none : (on : Campaign) (t : RowSource) (c : Parts) (ls : List (LinePlace × ScriptLine)) (n : ℕ) (counts : RowCountsData) (old : Option (List ℕ)) → first_disturbed (first_part_row t) ≡ n
    → WroteUpTo on t c ls n counts counts old old
wrote-none on t c ls n counts old e = record { ps = []; rows_are = tt; many = omega (arith, e); written = Appends-nil old; counted = none-counted counts }

pub wrote-more : (on : Campaign) (t : RowSource) (c handed : Parts) (ls : List (LinePlace × ScriptLine)) (n m : ℕ) (counts mid more : RowCountsData) (old now new : Option (List ℕ)) → m ≡ n + 1
    → WroteUpTo on t c ls n counts mid old now → WritesRow on t c ls n (Ok handed) mid more now new → WroteUpTo on t c ls m counts more old new
wrote-more on t c handed ls n m counts mid more old now new e h k = record {
  ps = h.ps ++ k.0 ∷ [];
  rows_are = rows-push (stage_of on c ls) t.singles.now t.rows.now (first_disturbed (first_part_row t)) n h.ps k.0 (sym h.many) h.rows_are k.1;
  many = omega (arith, e, h.many, length_push h.ps k.0);
  written =
      subst (λ l. Appends old new l)
      (ap (λ l. flat_map (disturbed_row on t c) h.ps ++ l) (sym (append-nil (disturbed_row on t c k.0))) ∙ sym (flat-append (disturbed_row on t c) h.ps (k.0 ∷ [])))
      (Appends-trans old now new (flat_map (disturbed_row on t c) h.ps) (disturbed_row on t c k.0) h.written k.2);
  counted = more-counted h.ps (k.0 ∷ []) counts mid more h.counted k.3;
}

-- a row broke off: the others are rows too
pub rows-broke : (on : Campaign) (t : RowSource) (c : Parts) (ls : List (LinePlace × ScriptLine)) (n : ℕ) (fault : Fault) (counts mid more : RowCountsData) (old now new : Option (List ℕ)) → n < end_part_row t
    → WroteUpTo on t c ls n counts mid old now → WritesRow on t c ls n (Err fault) mid more now new → WritesRows on t c ls (Err fault) counts more old new
rows-broke on t c ls n fault counts mid more old now new there h k =
    let on_ = stage_of on c ls in
    let row = disturbed_row on t c in
    let others = some-rows on_ t.singles.now t.rows.now (n + 1) (end_part_row t - (n + 1)) in
    let up_to : AreRowsOf on_ t.singles.now t.rows.now (first_disturbed (first_part_row t)) (h.ps ++ k.0 ∷ []) =
    rows-push on_ t.singles.now t.rows.now (first_disturbed (first_part_row t)) n h.ps k.0 (sym h.many) h.rows_are k.1 in
    let all : AreRowsOf on_ t.singles.now t.rows.now (first_disturbed (first_part_row t)) ((h.ps ++ k.0 ∷ []) ++ others.0) =
    rows-append on_ t.singles.now t.rows.now (first_disturbed (first_part_row t)) (n + 1) (h.ps ++ k.0 ∷ []) others.0 (omega (arith, h.many, length_push h.ps k.0)) up_to others.1 in
    let begun : Begins old new (flat_map row h.ps ++ (row k.0 ++ flat_map row others.0)) =
    begins-behind old now new (flat_map row h.ps) (row k.0 ++ flat_map row others.0) h.written (begins-longer now new (row k.0) (flat_map row others.0) k.2) in
    let text : flat_map row h.ps ++ (row k.0 ++ flat_map row others.0) ≡ flat_map row ((h.ps ++ k.0 ∷ []) ++ others.0) =
    sym (append_assoc (flat_map row h.ps) (row k.0) (flat_map row others.0))
    ∙ ap (λ l. (flat_map row h.ps ++ l) ++ flat_map row others.0) (sym (append-nil (row k.0)))
    ∙ ap (λ l. l ++ flat_map row others.0) (sym (flat-append row h.ps (k.0 ∷ [])))
    ∙ sym (flat-append row (h.ps ++ k.0 ∷ []) others.0) in (
      (h.ps ++ k.0 ∷ []) ++ others.0,
      all,
      omega (arith, length-append (h.ps ++ k.0 ∷ []) others.0, length_push h.ps k.0, h.many, others.2, there),
      subst (λ l. Begins old new l) text begun,
      k.3,
    )

-- all rows were written
pub rows-written : (on : Campaign) (t : RowSource) (c handed : Parts) (ls : List (LinePlace × ScriptLine)) (n : ℕ) (counts more : RowCountsData) (old new : Option (List ℕ)) → n ≡ max (end_part_row t) (first_disturbed (first_part_row t))
    → WroteUpTo on t c ls n counts more old new → WritesRows on t c ls (Ok handed) counts more old new
rows-written on t c handed ls n counts more old new e h = (h.ps, h.rows_are, omega (arith, e, h.many), h.written, h.counted)

-- ---- the worst row
abbrev IfNamed : RowSource → Option NumberedRow → Type 0
IfNamed t None = Unit {0}
IfNamed t (Some r) = IsTableRow t r

if-named : (t : RowSource) (b : Bool) (r : NumberedRow) (o : Option NumberedRow) → IsTableRow t r → IfNamed t o → IfNamed t (if b then Some r else o)
if-named t true r o h k = h
if-named t false r o h k = k

worse-named : (t : RowSource) (w : Option NumberedRow) (r : NumberedRow) → IfNamed t w → IsTableRow t r → IfNamed t (worse w r)
worse-named t None r h k = if-named t (nat_lt 0 (lines_broken r.row)) r None k tt
worse-named t (Some w) r h k = if-named t (nat_lt (lines_broken w.row) (lines_broken r.row)) r (Some w) k h

worst-named : (t : RowSource) (w : Option NumberedRow) (rs : List NumberedRow) → IfNamed t w → AreTableRows t rs → IfNamed t (worst_after w rs)
worst-named t w [] h k = h
worst-named t w (r ∷ rs) h k = worst-named t (worse w r) rs (worse-named t w r h k.0) k.1

worst-by : (t : RowSource) (w : Option NumberedRow) → IfNamed t w → option_map_or (λ (r : NumberedRow). r.faults) w [] ≡ faults_at t.singles.now (worst_places t (option_map worst_of w))
worst-by t None h = refl
worst-by t (Some r) h = h.1

worst-faults : (t : RowSource) (js : List Judgement) (rs : List NumberedRow) (counts : RowCountsData) (places : List ℕ) (fs : List SlotFault) → places ≡ worst_places t counts.worst → fs ≡ faults_at t.singles.now places
    → AreCountsOf js rs counts → AreTableRows t rs → option_map_or (λ (r : NumberedRow). r.faults) (worst_after None rs) [] ≡ fs
worst-faults t js rs counts places fs at is h named =
    worst-by t (worst_after None rs) (worst-named t None rs tt named)
    ∙ ap (λ w. faults_at t.singles.now (worst_places t w)) (sym h.worst) ∙ ap (faults_at t.singles.now) (sym at) ∙ sym is

-- faults that are read, or an error
pub worst-faults-by : {V E : Type 0} (items : V → List SlotFault) (t : RowSource) (counts : RowCountsData) (places lent : List ℕ) (r : Result V E) → places ≡ worst_places t counts.worst → lent ≡ places
    → IfOk r (λ v. items v ≡ faults_at t.singles.now lent)
    → IfOk r (λ v. (js : List Judgement) → (rs : List NumberedRow) → AreCountsOf js rs counts → AreTableRows t rs → option_map_or (λ (w : NumberedRow). w.faults) (worst_after None rs) [] ≡ items v)
worst-faults-by items t counts places lent (Ok v) at same is = λ js rs are names. worst-faults t js rs counts lent (items v) (same ∙ at) is are names
worst-faults-by items t counts places lent (Err fault) at same is = tt

-- rows of a table are named by it
pub rows-named : (on : Campaign) (t : RowSource) (c : Parts) (ls : List (LinePlace × ScriptLine)) (n : ℕ) (ps : List RowData) → AreRowsOf (stage_of on c ls) t.singles.now t.rows.now n ps
    → n + length ps ≤ length (rows t.rows.now) → AreTableRows t (map numbered_row ps)
rows-named on t c ls n [] h few = tt
rows-named on t c ls n (p ∷ ps) h few =
    let number : p.number ≡ n = h.0.number in
    let there : p.number < length (rows t.rows.now) = omega (arith, number, few) in
    ((there, h.0.faults ∙ ap (λ m. faults_at t.singles.now (places_of t.rows.now m)) (sym number)), rows-named on t c ls (suc n) ps h.1 (omega (arith, few)))

-- ---- the whole
-- the bounds of a part
bounds-order : (count : ℕ) (p : CampaignPart) → IsPart p → (bound count (p.number - 1) p.count ≤ bound count p.number p.count) × (bound count p.number p.count ≤ count)
bounds-order count p h =
    let next : p.number - 1 + 1 ≡ p.number = omega (arith, h.0) in
    let some : 1 ≤ p.count = omega (arith, h.0, h.1) in
    (subst (λ k. bound count (p.number - 1) p.count ≤ bound count k p.count) next (bound-more count (p.number - 1) p.count some), bound-within count p.number p.count some h.1)

pub part-order : (t : RowSource) → IsTable t → (first_part_row t ≤ end_part_row t) × (end_part_row t ≤ length (rows t.rows.now))
part-order t h = bounds-order (length (rows t.rows.now)) t.part h.0

-- the plays of a part, of which these have faults
pub record ArePlayed (on : Campaign) (plan : CampaignPlan) (t : RowSource) (core : CoreData) (ls : List (LinePlace × ScriptLine)) (ps : List RowData) : Type 0 where
  pub plan_is : IsPlanned on plan t core ls
  pub rows_are : AreRowsOf (stage_of on core.cluster ls) t.singles.now t.rows.now (first_disturbed (first_part_row t)) ps
  pub many : length ps ≡ cases_of t

-- what is written of these
abbrev pub text_of : Campaign → RowSource → CoreData → List RowData → List ℕ
text_of on t core ps = head_with_calm on t core.cluster (calm_row t core) ++ (flat_map (disturbed_row on t core.cluster) ps ++ text_after_rows on.format)

record HasWhole (on : Campaign) (plan : CampaignPlan) (t : RowSource) (core : CoreData) (ls : List (LinePlace × ScriptLine)) (ps : List RowData) : Type 0 where
  pub it : PlaysOfCampaign (stage_of on core.cluster ls) plan
  pub text : campaign_output on.script.now on.source.files.now on.file.now on.source.text.now it ≡ text_of on t core ps
  pub named_are : numbered_rows it.played ≡ map numbered_row ps
  pub judged : it.calm.judgements ≡ t.judgements.now
  pub singles : it.singles_are ≡ t.singles.now
  pub table : it.table ≡ t.rows.now

-- the same, with a format and a part that are the plan's
whole-text : (format : RowFormat) (script : List ℕ) (fs : List ScriptFile) (file bytes : List ℕ) (c : Parts) (calm : RowData) (t : Rows) (first : Bool) (cases : ℕ) (from to : ℕ) (ps all : List RowData) (lost : List LostMessage) (refused : List RefusedStep)
    → lost ≡ calm.row.lost → refused ≡ calm.row.refused → length (rows_with_faults all) ≡ cases
    → flat_map (row_in_output format script fs c calm) (plays_in_output format calm all)
    ≡ (if ((from == 0) && nat_lt 0 to) || is_page format then row_as format script fs c [] [] calm else []) ++ flat_map (row_as format script fs c calm.row.lost calm.row.refused) ps
    → text_before_rows format first script file bytes (length (rows_with_faults all)) t c calm ++ (rows_in_output format script fs c calm (plays_in_output format calm all) ++ text_after_rows format)
    ≡ (text_before_rows format first script file bytes cases t c calm ++ (if ((from == 0) && nat_lt 0 to) || is_page format then row_as format script fs c [] [] calm else []))
    ++ (flat_map (row_as format script fs c lost refused) ps ++ text_after_rows format)
whole-text format script fs file bytes c calm t first cases from to ps all lost refused lost-is refused-is many e =
    let start = text_before_rows format first script file bytes cases t c calm in
    let zeroth = (if ((from == 0) && nat_lt 0 to) || is_page format then row_as format script fs c [] [] calm else []) in
    let others = flat_map (row_as format script fs c calm.row.lost calm.row.refused) ps in
    ap₂ (λ n l. text_before_rows format first script file bytes n t c calm ++ (l ++ text_after_rows format)) many e
    ∙ ap (λ l. start ++ l) (append_assoc zeroth others (text_after_rows format))
    ∙ sym (append_assoc start zeroth (others ++ text_after_rows format))
    ∙ ap₂ (λ a b. (start ++ zeroth) ++ (flat_map (row_as format script fs c a b) ps ++ text_after_rows format)) (sym lost-is) (sym refused-is)

has-whole : (on : Campaign) (plan : CampaignPlan) (t : RowSource) (core : CoreData) (ls : List (LinePlace × ScriptLine)) (ps : List RowData) → IsTable t → ArePlayed on plan t core ls ps
    → HasWhole on plan t core ls ps
has-whole on plan t core ls ps is h =
    let c = core.cluster in
    let calm = calm_row t core in
    let order = part-order t is in
    let all = all-rows (stage_of on c ls) t.singles.now t.rows.now (first_part_row t) (end_part_row t) calm ps h.plan_is.undisturbed h.rows_are h.many order.0 order.1 in
    let many : length (rows_with_faults all.0) ≡ cases_of t = ap length all.1.counted_are ∙ h.many in
    let text =
    whole-text plan.format on.script.now on.source.files.now on.file.now on.source.text.now c calm t.rows.now (plan.part.number == 1) (cases_of t) (first_part_row t) (end_part_row t) ps all.0 t.calm.now.lost t.calm.now.refused refl refl
    many (all.1.text plan.format on.script.now on.source.files.now c) in
    record {
      it = record {
        calm = calm;
        undisturbed = h.plan_is.undisturbed;
        met = h.plan_is.met;
        singles_are = t.singles.now;
        all = h.plan_is.singles_are;
        table = t.rows.now;
        made = h.plan_is.table;
        played = all.0;
        rows_are =
            subst
            (λ (p : CampaignPart). AreRowsFrom (stage_of on c ls) t.singles.now (bound (length (rows t.rows.now)) (p.number - 1) p.count) (part_of p (rows t.rows.now)) all.0) h.plan_is.part
            all.1.listed_are;
      };
      text =
          text
          ∙ ap₂
          (λ (f : RowFormat) (p : CampaignPart). (text_before_rows f (p.number == 1) on.script.now on.file.now on.source.text.now (cases_of t) t.rows.now c calm
          ++ (if ((first_part_row t == 0) && nat_lt 0 (end_part_row t)) || is_page f then row_as f on.script.now on.source.files.now c [] [] calm else []))
          ++ (flat_map (row_as f on.script.now on.source.files.now c t.calm.now.lost t.calm.now.refused) ps ++ text_after_rows f))
          (sym h.plan_is.format) (sym h.plan_is.part);
      named_are = ap (map numbered_row) all.1.counted_are;
      judged = refl;
      singles = refl;
      table = refl;
    }

-- ---- the end
fault-ends : (on : Campaign) (t : RowSource) (c : Parts) (ls : List (LinePlace × ScriptLine)) (watched denied : Bool) (fault : Fault) (text told : List ℕ) (old new silent heard : Option (List ℕ))
    → BreaksOff on t c ls fault → Begins old new text → Ends watched (Err fault) denied text told old new silent heard
fault-ends on t c ls watched denied LogFull text told old new silent heard failed h = h
fault-ends on t c ls watched denied OutOfMemory text told old new silent heard failed h = h
fault-ends on t c ls watched denied WriteFailed text told old new silent heard failed h = h
fault-ends on t c ls watched denied fault text told old new silent heard failed h = absurd failed

not-true : {X : Type 0} → false ≡ true → X
not-true h = absurd (cc)

-- the row whose log is full
full-row : (on : Campaign) (plan : CampaignPlan) (t : RowSource) (c : Parts) (ls : List (LinePlace × ScriptLine)) (fault : Fault) (it : PlaysOfCampaign (stage_of on c ls) plan) → it.singles_are ≡ t.singles.now → it.table ≡ t.rows.now
    → BreaksOff on t c ls fault → is_full (Err fault) ≡ true → SomeRowOverfills it
full-row on plan t c ls LogFull it are is failed full =
    subst (λ (r : Rows). (n : ℕ) × (n < length (rows r)) × OverfillsUnder c on.table on.capacity (faults_at it.singles_are (places_of r n)) ls) (sym is)
    (subst (λ (ss : List Single). (n : ℕ) × (n < length (rows t.rows.now)) × OverfillsUnder c on.table on.capacity (faults_at ss (places_of t.rows.now n)) ls) (sym are) failed)
full-row on plan t c ls OutOfMemory it are is failed full = not-true full
full-row on plan t c ls WriteFailed it are is failed full = not-true full
full-row on plan t c ls fault it are is failed full = absurd failed

-- each campaign has plays
any-plays : (on : PlaySetup) (plan : CampaignPlan) (calm : RowData) → IsPart plan.part → IsRowOf on [] 0 [] calm → some_unmet calm.judgements ≡ false → PlaysOfCampaign on plan
any-plays on plan calm part is met =
    let ss = singles on.cluster plan.kinds calm.log in
    let t : Rows = record { singles = length ss; pairs = plan.pairs; random = plan.random } in
    let from = bound (length (rows t)) (plan.part.number - 1) plan.part.count in
    let to = bound (length (rows t)) plan.part.number plan.part.count in
    let order = bounds-order (length (rows t)) plan.part part in
    let ps = some-rows on ss t (first_disturbed from) (to - first_disturbed from) in
    let all = all-rows on ss t from to calm ps.0 is ps.1 ps.2 order.0 order.1 in
    record {
      calm = calm;
      undisturbed = is;
      met = met;
      singles_are = ss;
      all = refl;
      table = t;
      made = refl;
      played = all.0;
      rows_are = all.1.listed_are;
    }

-- a table has what the plan wants of the undisturbed play
calm-same : (calm : Play) (t : RowSource) → t.calm.now ≡ calm.row → t.judgements.now ≡ calm.judgements → calm_row t calm.core ≡ row_of_play calm
calm-same calm t row judgements =
    ap₂ (λ (r : Row) (js : List Judgement). record { number = 0; faults = []; single = None; row = r; log = calm.core.log; judgements = js }) row judgements

pub planned : (on : Campaign) (plan : CampaignPlan) (calm : Play) (t : RowSource) (ls : List (LinePlace × ScriptLine)) → IsCampaignBegun on plan calm ls → t.calm.now ≡ calm.row → t.judgements.now ≡ calm.judgements
    → t.part ≡ plan.part → t.singles.now ≡ singles calm.core.cluster plan.kinds calm.core.log
    → t.rows.now ≡ record { singles = length t.singles.now; pairs = plan.pairs; random = plan.random } → IsPlanned on plan t calm.core ls
planned on plan calm t ls h row judgements part are made = record {
  says = h.says;
  undisturbed = subst (λ (p : RowData). IsRowOf (stage_of on calm.core.cluster ls) [] 0 [] p) (sym (calm-same calm t row judgements)) h.undisturbed;
  met = ap some_unmet judgements ∙ h.met;
  format = h.format;
  part = part;
  singles_are = are;
  table = made;
}

-- a campaign of which nothing was written
pub campaign-unwritten : (on : Campaign) (plan : CampaignPlan) (calm : Play) (ls : List (LinePlace × ScriptLine)) (watched : Bool) (old silent heard : Option (List ℕ)) → IsPart plan.part → IsCampaignBegun on plan calm ls
    → WritesPlays (stage_of on calm.core.cluster ls) plan watched on.script.now on.source.files.now on.file.now on.source.text.now (Err OutOfMemory) old old silent heard
campaign-unwritten on plan calm ls watched old silent heard part h =
    let it = any-plays (stage_of on calm.core.cluster ls) plan (row_of_play calm) part h.undisturbed h.met in
    (it, (λ full. not-true full), begins-nothing old (campaign_output on.script.now on.source.files.now on.file.now on.source.text.now it))

-- a campaign of which a beginning was written
pub campaign-broke : (on : Campaign) (plan : CampaignPlan) (t : RowSource) (core : CoreData) (ls : List (LinePlace × ScriptLine)) (ps : List RowData) (watched : Bool) (fault : Fault) (old new silent heard : Option (List ℕ))
    → IsTable t → ArePlayed on plan t core ls ps → BreaksOff on t core.cluster ls fault → Begins old new (text_of on t core ps)
    → WritesPlays (stage_of on core.cluster ls) plan watched on.script.now on.source.files.now on.file.now on.source.text.now (Err fault) old new silent heard
campaign-broke on plan t core ls ps watched fault old new silent heard is h failed begun =
    let w = has-whole on plan t core ls ps is h in (
      w.it,
      full-row on plan t core.cluster ls fault w.it w.singles w.table failed,
      fault-ends on t core.cluster ls watched (denies w.it) fault (campaign_output on.script.now on.source.files.now on.file.now on.source.text.now w.it) (counts on.script.now w.it) old new silent heard failed
          (subst (λ l. Begins old new l) (sym w.text) begun),
    )

-- before its rows with faults were played
pub campaign-unplayed : (on : Campaign) (plan : CampaignPlan) (t : RowSource) (core : CoreData) (ls : List (LinePlace × ScriptLine)) (watched : Bool) (fault : Fault) (old new silent heard : Option (List ℕ))
    → IsTable t → IsPlanned on plan t core ls → BreaksOff on t core.cluster ls fault → Begins old new (head_with_calm on t core.cluster (calm_row t core))
    → WritesPlays (stage_of on core.cluster ls) plan watched on.script.now on.source.files.now on.file.now on.source.text.now (Err fault) old new silent heard
campaign-unplayed on plan t core ls watched fault old new silent heard is h failed begun =
    let ps = some-rows (stage_of on core.cluster ls) t.singles.now t.rows.now (first_disturbed (first_part_row t)) (cases_of t) in
    campaign-broke on plan t core ls ps.0 watched fault old new silent heard is (record { plan_is = h; rows_are = ps.1; many = ps.2 }) failed
    (begins-longer old new (head_with_calm on t core.cluster (calm_row t core)) (flat_map (disturbed_row on t core.cluster) ps.0 ++ text_after_rows on.format) begun)

-- a campaign that was written
pub campaign-ended : (on : Campaign) (plan : CampaignPlan) (t : RowSource) (core : CoreData) (ls : List (LinePlace × ScriptLine)) (ps : List RowData) (watched : Bool) (result : Result Unit Fault)
    (old new silent heard : Option (List ℕ)) → IsTable t → ArePlayed on plan t core ls ps → is_full result ≡ false → Appends old new (text_of on t core ps)
    → (watched ≡ false → WritesTextOrPart silent heard (counts_text on t core.cluster (map numbered_row ps)))
    → (((denied : Bool) → denied ≡ is_denied plan.denies_broken plan.denies_never t.judgements.now (rows_of (map numbered_row ps)) → (text told : List ℕ) → Appends old new text
    → (watched ≡ false → WritesTextOrPart silent heard told) → Ends watched result denied text told old new silent heard))
    → WritesPlays (stage_of on core.cluster ls) plan watched on.script.now on.source.files.now on.file.now on.source.text.now result old new silent heard
campaign-ended on plan t core ls ps watched result old new silent heard is h unfull written told ends =
    let w = has-whole on plan t core ls ps is h in
    let same : counts on.script.now w.it ≡ counts_text on t core.cluster (map numbered_row ps) =
    ap₂ (λ js rs. lines_text on.script.now core.cluster js (rows_of rs) ++ numbers_text core.cluster rs) w.judged w.named_are in (
      w.it,
      (λ full. not-true (sym unfull ∙ full)),
      ends (denies w.it) (ap₂ (λ js rs. is_denied plan.denies_broken plan.denies_never js (rows_of rs)) w.judged w.named_are)
          (campaign_output on.script.now on.source.files.now on.file.now on.source.text.now w.it) (counts on.script.now w.it) (subst (λ l. Appends old new l) (sym w.text) written)
          (λ quiet. subst (λ l. WritesTextOrPart silent heard l) (sym same) (told quiet)),
    )

-- ---- a table
pub text-after : (silent mid heard : Option (List ℕ)) (text : List ℕ) → Keeps silent mid → WritesTextOrPart mid heard text → WritesTextOrPart silent heard text
text-after silent mid heard text kept (outcome, h) = (outcome, writes-after kept h)

-- counters of which none counts
abbrev pub no_counts : RowCountsData
no_counts = record { lines = []; rows = 0; tolerated = 0; broken = 0; limited = 0; missed = 0; worst = None }

-- the rows with faults end within the table
part-fits : (t : RowSource) (ps : List RowData) → IsTable t → length ps ≡ cases_of t → first_disturbed (first_part_row t) + length ps ≤ length (rows t.rows.now)
part-fits t ps is many = let order = part-order t is in omega (arith, order.0, order.1, many, count-rows t.rows.now)

-- a row broke off
pub rows-fail : (on : Campaign) (plan : CampaignPlan) (t : RowSource) (core : CoreData) (ls : List (LinePlace × ScriptLine)) (watched : Bool) (fault : Fault) (counts more : RowCountsData) (old mid new silent heard : Option (List ℕ))
    → IsTable t → IsPlanned on plan t core ls → Appends old mid (head_with_calm on t core.cluster (calm_row t core)) → WritesRows on t core.cluster ls (Err fault) counts more mid new
    → WritesPlays (stage_of on core.cluster ls) plan watched on.script.now on.source.files.now on.file.now on.source.text.now (Err fault) old new silent heard
rows-fail on plan t core ls watched fault counts more old mid new silent heard is h first (ps, rows-are, many, begun, failed) =
    let texts = flat_map (disturbed_row on t core.cluster) ps in
    campaign-broke on plan t core ls ps watched fault old new silent heard is (record { plan_is = h; rows_are = rows-are; many = many }) failed
    (begins-behind old mid new (head_with_calm on t core.cluster (calm_row t core)) (texts ++ text_after_rows on.format) first (begins-longer mid new texts (text_after_rows on.format) begun))

-- something behind the rows failed
pub tail-fails : {E : Type 0} (on : Campaign) (plan : CampaignPlan) (t : RowSource) (core : CoreData) (handed : Parts) (ls : List (LinePlace × ScriptLine)) (watched : Bool) (fault : Fault) (r : Result Unit E) (counts more : RowCountsData)
    (old mid rest new silent heard : Option (List ℕ)) → IsTable t → IsPlanned on plan t core ls → Appends old mid (head_with_calm on t core.cluster (calm_row t core))
    → WritesRows on t core.cluster ls (Ok handed) counts more mid rest → WritesText rest new r (text_after_rows on.format) → BreaksOff on t core.cluster ls fault
    → WritesPlays (stage_of on core.cluster ls) plan watched on.script.now on.source.files.now on.file.now on.source.text.now (Err fault) old new silent heard
tail-fails on plan t core handed ls watched fault r counts more old mid rest new silent heard is h first (ps, rows-are, many, written, counted) tail failed =
    let texts = flat_map (disturbed_row on t core.cluster) ps in
    campaign-broke on plan t core ls ps watched fault old new silent heard is (record { plan_is = h; rows_are = rows-are; many = many }) failed
    (begins-behind old mid new (head_with_calm on t core.cluster (calm_row t core)) (texts ++ text_after_rows on.format) first
    (begins-behind mid rest new texts (text_after_rows on.format) written (text-begins tail)))

-- all was written
pub table-done : (on : Campaign) (plan : CampaignPlan) (t : RowSource) (core : CoreData) (handed : Parts) (ls : List (LinePlace × ScriptLine)) (watched denied : Bool) (result : Result Unit Fault)
    (counts more : RowCountsData) (old mid rest new silent quiet heard : Option (List ℕ)) → IsTable t → IsPlanned on plan t core ls → is_full result ≡ false → Appends old mid (head_with_calm on t core.cluster (calm_row t core))
    → AreCountsOf t.judgements.now [] counts → WritesRows on t core.cluster ls (Ok handed) counts more mid rest → (watched ≡ false → Keeps silent quiet)
    → Appends rest new (text_after_rows on.format)
    → ((rs : List NumberedRow) → AreCountsOf t.judgements.now rs more → AreTableRows t rs → WritesTextOrPart quiet heard (counts_text on t core.cluster rs))
    → ((js : List Judgement) → (rs : List NumberedRow) → AreCountsOf js rs more → denied ≡ is_denied plan.denies_broken plan.denies_never t.judgements.now (rows_of rs))
    → ((text told : List ℕ) → Appends old new text → (watched ≡ false → WritesTextOrPart silent heard told) → Ends watched result denied text told old new silent heard)
    → WritesPlays (stage_of on core.cluster ls) plan watched on.script.now on.source.files.now on.file.now on.source.text.now result old new silent heard
table-done on plan t core handed ls watched denied result counts more old mid rest new silent quiet heard is h unfull first none (ps, rows-are, many, written, counted) kept tail told denies-are ends =
    let c = core.cluster in
    let texts = flat_map (disturbed_row on t c) ps in
    let all : AreCountsOf t.judgements.now (map numbered_row ps) more = counted t.judgements.now [] none in
    let names : AreTableRows t (map numbered_row ps) = rows-named on t c ls (first_disturbed (first_part_row t)) ps rows-are (part-fits t ps is many) in
    let heard-all = told (map numbered_row ps) all names in
    let denied-is = denies-are t.judgements.now (map numbered_row ps) all in
    campaign-ended on plan t core ls ps watched result old new silent heard is (record { plan_is = h; rows_are = rows-are; many = many }) unfull
    (Appends-trans old mid new (head_with_calm on t c (calm_row t core)) (texts ++ text_after_rows on.format) first (Appends-trans mid rest new texts (text_after_rows on.format) written tail))
    (λ so. text-after silent quiet heard (counts_text on t c (map numbered_row ps)) (kept so) heard-all)
    (λ other e text said all-written all-told. subst (λ b. Ends watched result b text said old new silent heard) (denied-is ∙ sym e) (ends text said all-written all-told))
