-- The rows of a campaign: each has a play, they follow one another, and what is written of them is the whole.
use Rattle.std.proofs.Common.{◌≡◌, ◌≢◌, ◌⊎◌, ◌∙◌, inl, inr, eqb, ℕ, zero, suc, Bool, true, false, ◌==◌, ◌||◌, ◌&&◌, not, if◌then◌else◌, ◌+◌, ◌-◌, ◌<◌, ◌≤◌, List, [], ◌∷◌, ◌++◌, Some, None, Result, Ok, Err, refl, sym, ap, ap₂, arith, drop, drop-cons, flat_map, get_or, length, max, reverse, subst, take}
use Rattle.std.proofs.lemmas.Bool.Decides.{eqb_tells}
use Rattle.std.proofs.lemmas.Grind.{common_steps}
use Rattle.std.specs.Prelude.{count_by, nat_lt}
use Rattle.lin_parts.specs.declared.parts.Parts.{Parts}
use Rattle.lin_bench.specs.Made.{BenchState, made}
use Rattle.lin_bench.specs.Played.{bench_after, come_to_under, ends_under, first_under, in_turn, is_limit, judged_up_to, judgements_under, line_result, with_judgements}
use Rattle.lin_bench.specs.Strict.{silent_lines}
use Rattle.lin_bench.specs.Plays.{ComesUnder}
use Rattle.lin_bench.specs.declared.faults.SlotFault.{SlotFault}
use Rattle.lin_bench.specs.declared.files.ScriptFile.{ScriptFile}
use Rattle.lin_bench.specs.declared.got.Verdict.{Verdict}
use Rattle.lin_bench.specs.declared.got.Verdict.TheVariants as verdict
use Rattle.lin_bench.specs.declared.line.ScriptLine.{ScriptLine}
use Rattle.lin_bench.specs.declared.place.LinePlace.{LinePlace}
use Rattle.lin_bench.specs.declared.playing.PlayedUnder.{PlayedUnder}
use Rattle.lin_bench.proofs.Runs.{judged-whole, turns-failed}
use Rattle.lin_tool.specs.Playing.{judgements_with_meanings}
use Rattle.lin_tool.specs.campaign.Row.{row_of}
use Rattle.lin_tool.specs.campaign.Rows.{places_of, rows}
use Rattle.lin_tool.specs.campaign.Shown.{RowData}
use Rattle.lin_tool.specs.campaign.Singles.{faults_at, only_single}
use Rattle.lin_tool.specs.campaign.Steps.{AreRowsOf, is_page}
use Rattle.lin_tool.specs.campaign.Written.{AreRowsFrom, IsRowOf, PlaySetup, rows_with_faults, plays_in_output, row_as, row_in_output}
use Rattle.lin_tool.specs.declared.campaign.plan.RowFormat.{RowFormat}
use Rattle.lin_tool.specs.declared.campaign.plan.RowFormat.TheVariants.{Text, Csv, Jsonl, Junit, Html}
use Rattle.lin_tool.specs.declared.campaign.rows.Rows.{Rows}
use Rattle.lin_tool.specs.declared.campaign.singles.Single.{Single}

-- ---- each row has a play
-- where no line makes more slots than are left, all lines were played
bench-next : (c : Parts) (o cap : ℕ) (b end : BenchState) (l : LinePlace × ScriptLine) (ls : List (LinePlace × ScriptLine)) (v : Verdict) → (made c o cap b l.1).1 ≡ v
    → (in_turn c o cap (Ok (made c o cap b l.1).0) ls ≡ Ok end → bench_after c o cap (made c o cap b l.1).0 ls ≡ end)
    → in_turn c o cap (line_result l.0 (made c o cap b l.1).0 (made c o cap b l.1).1) ls ≡ Ok end → bench_after c o cap b (l ∷ ls) ≡ end
bench-next c o cap b end l ls verdict.SlotLimit f more h = let no : Err l.0 ≡ Ok end = turns-failed c o cap l.0 ls ∙ (rw f at h) in absurd (cc)
bench-next c o cap b end l ls verdict.Nothing f more h = let open_ : is_limit (made c o cap b l.1).1 ≡ false = ap is_limit f in rw open_ (more (rw f at h))
bench-next c o cap b end l ls (verdict.Met what) f more h = let open_ : is_limit (made c o cap b l.1).1 ≡ false = ap is_limit f in rw open_ (more (rw f at h))
bench-next c o cap b end l ls (verdict.Unmet what got) f more h = let open_ : is_limit (made c o cap b l.1).1 ≡ false = ap is_limit f in rw open_ (more (rw f at h))

bench-whole : (c : Parts) (o cap : ℕ) (b end : BenchState) (ls : List (LinePlace × ScriptLine)) → in_turn c o cap (Ok b) ls ≡ Ok end → bench_after c o cap b ls ≡ end
bench-whole c o cap b end [] h = cc
bench-whole c o cap b end (l ∷ ls) h = bench-next c o cap b end l ls (made c o cap b l.1).1 refl (λ k. bench-whole c o cap (made c o cap b l.1).0 end ls k) h

-- the play of these lines, whose core kept this much
play-by : (strict : Bool) (c : Parts) (o cap : ℕ) (fs : List SlotFault) (ls : List (LinePlace × ScriptLine)) (r : Result BenchState LinePlace) → come_to_under c o cap fs ls ≡ r
    → (it : PlayedUnder) × ComesUnder strict c o cap fs ls it
play-by strict c o cap fs ls (Ok b) come =
    let end = bench_after c o cap (first_under fs) ls in
    let js = judged_up_to strict (silent_lines strict ls) c o cap (first_under fs) ls in
    let same : b ≡ end = sym (bench-whole c o cap (first_under fs) b ls come) in
    let judged : js ≡ judgements_under strict c o cap fs ls = judged-whole strict (silent_lines strict ls) c o cap (first_under fs) b ls come in (
      record {
        core = record { cluster = c; opening = o; capacity = cap; log = reverse end.past; spare = 0 };
        judgements = js;
        ends = ends_under c o cap fs ls;
        missed = count_by (λ f. not f.has_struck) end.rules.faults;
        limit = None;
      },
      record {
        bench = end;
        is = refl;
        lines =
            ap (with_judgements (judgements_under strict c o cap fs ls)) (come ∙ ap (λ (k : BenchState). Ok k) same)
            ∙ ap (λ l. Ok (record { bench = end; judgements = l })) (sym judged);
        log = refl;
        judgements = refl;
        ends = refl;
        missed = refl;
        cluster = refl;
        opening_is = refl;
        capacity_is = refl;
      },
    )
play-by strict c o cap fs ls (Err n) come =
    let end = bench_after c o cap (first_under fs) ls in
    let js = judged_up_to strict (silent_lines strict ls) c o cap (first_under fs) ls in (
      record {
        core = record { cluster = c; opening = o; capacity = cap; log = reverse end.past; spare = 0 };
        judgements = js;
        ends = ends_under c o cap fs ls;
        missed = count_by (λ f. not f.has_struck) end.rules.faults;
        limit = Some n;
      },
      record {
        bench = end;
        is = refl;
        lines = ap (with_judgements (judgements_under strict c o cap fs ls)) come;
        log = refl;
        judgements = refl;
        ends = refl;
        missed = refl;
        cluster = refl;
        opening_is = refl;
        capacity_is = refl;
      },
    )

pub a-row : (on : PlaySetup) (ss : List Single) (n : ℕ) (places : List ℕ) → (p : RowData) × IsRowOf on ss n places p
a-row on ss n places =
    let fs = faults_at ss places in
    let play = play-by on.strict on.cluster on.opening on.capacity fs on.lines (come_to_under on.cluster on.opening on.capacity fs on.lines) refl in (
      record {
        number = n;
        faults = fs;
        single = only_single ss places;
        row = row_of play.0;
        log = play.0.core.log;
        judgements = judgements_with_meanings on.coded play.0.judgements;
      },
      record {
        it = play.0;
        comes = play.1;
        number = refl;
        faults = refl;
        single = refl;
        row = refl;
        log = refl;
        judgements = refl;
      },
    )

pub some-rows : (on : PlaySetup) (ss : List Single) (t : Rows) (n m : ℕ) → (ps : List RowData) × AreRowsOf on ss t n ps × (length ps ≡ m)
some-rows on ss t n zero = ([], tt, refl)
some-rows on ss t n (suc m) =
    let p = a-row on ss n (places_of t n) in
    let more = some-rows on ss t (suc n) m in (p.0 ∷ more.0, (p.1, more.1), ap suc more.2)

-- ---- rows in order
pub rows-append : (on : PlaySetup) (ss : List Single) (t : Rows) (n m : ℕ) (ps qs : List RowData) → m ≡ length ps + n → AreRowsOf on ss t n ps → AreRowsOf on ss t m qs → AreRowsOf on ss t n (ps ++ qs)
rows-append on ss t n m [] qs e h k = let same : m ≡ n = omega (arith, e) in subst (λ i. AreRowsOf on ss t i qs) same k
rows-append on ss t n m (p ∷ ps) qs e h k = (h.0, rows-append on ss t (suc n) m ps qs (omega (arith, e)) h.1 k)

pub rows-push : (on : PlaySetup) (ss : List Single) (t : Rows) (n m : ℕ) (ps : List RowData) (p : RowData) → m ≡ length ps + n → AreRowsOf on ss t n ps → IsRowOf on ss m (places_of t m) p
    → AreRowsOf on ss t n (ps ++ p ∷ [])
rows-push on ss t n m ps p e h k = rows-append on ss t n m ps (p ∷ []) e h (k, tt)

-- rows of a table are a part of its list
rows-listed : (on : PlaySetup) (ss : List Single) (t : Rows) (all : List (List ℕ)) (n : ℕ) (ps : List RowData) → all ≡ rows t → n + length ps ≤ length all → AreRowsOf on ss t n ps
    → AreRowsFrom on ss n (take (length ps) (drop n all)) ps
rows-listed on ss t all n [] e few h = tt
rows-listed on ss t all n (p ∷ ps) e few h =
    let there : n < length all = omega (arith, few) in
    rw (drop-cons all n [] there)
    (subst (λ (l : List (List ℕ)). IsRowOf on ss n (get_or l n []) p) (sym e) h.0, rows-listed on ss t all (suc n) ps e (omega (arith, few)) h.1)

pub part-listed : (on : PlaySetup) (ss : List Single) (t : Rows) (n m : ℕ) (ps : List RowData) → m ≡ length ps → n + m ≤ length (rows t) → AreRowsOf on ss t n ps
    → AreRowsFrom on ss n (take m (drop n (rows t))) ps
part-listed on ss t n m ps e few h =
    subst (λ k. AreRowsFrom on ss n (take k (drop n (rows t))) ps) (sym e) (rows-listed on ss t (rows t) n ps refl (omega (arith, e, few)) h)

-- ---- texts of rows
not-zero-by : (n : ℕ) → 1 ≤ n → ((eqb n 0 ≡ true) × (n ≡ 0)) ⊎ ((eqb n 0 ≡ false) × (n ≢ 0)) → (n == 0) ≡ false
not-zero-by n h (inl e) = let none = e.1 in absurd (omega (arith, none))
not-zero-by n h (inr e) = e.0

not-zero : (n : ℕ) → 1 ≤ n → (n == 0) ≡ false
not-zero n h = not-zero-by n h (eqb_tells n 0)

above-zero : (n : ℕ) (b : Bool) → nat_lt 0 (suc n) ≡ b → b ≡ true
above-zero n true e = refl
above-zero n false e = let none : suc n ≤ 0 = grind (arith, common_steps) in absurd (omega (arith, none))

number-not : (on : PlaySetup) (ss : List Single) (n : ℕ) (places : List ℕ) (p : RowData) → 1 ≤ n → IsRowOf on ss n places p → (p.number == 0) ≡ false
number-not on ss n places p some h = ap (λ m. m == 0) h.number ∙ not-zero n some

counted-if : (b : Bool) (p : RowData) (ps qs : List RowData) → b ≡ false → ps ≡ qs → (if not b then p ∷ ps else ps) ≡ p ∷ qs
counted-if true p ps qs e same = absurd (cc)
counted-if false p ps qs e same = ap (λ l. p ∷ l) same

pub counted-rows : (on : PlaySetup) (ss : List Single) (t : Rows) (n : ℕ) (ps : List RowData) → 1 ≤ n → AreRowsOf on ss t n ps → rows_with_faults ps ≡ ps
counted-rows on ss t n [] some h = refl
counted-rows on ss t n (p ∷ ps) some h =
    counted-if (p.number == 0) p (rows_with_faults ps) ps (number-not on ss n (places_of t n) p some h.0) (counted-rows on ss t (suc n) ps (omega arith) h.1)

shown-row : (format : RowFormat) (script : List ℕ) (fs : List ScriptFile) (c : Parts) (calm p : RowData) → (p.number == 0) ≡ false
    → row_in_output format script fs c calm p ≡ row_as format script fs c calm.row.lost calm.row.refused p
shown-row format script fs c calm p e = ap (λ b. if b then row_as format script fs c [] [] p else row_as format script fs c calm.row.lost calm.row.refused p) e

shown-rows : (on : PlaySetup) (ss : List Single) (t : Rows) (n : ℕ) (ps : List RowData) (format : RowFormat) (script : List ℕ) (fs : List ScriptFile) (c : Parts) (calm : RowData) → 1 ≤ n → AreRowsOf on ss t n ps
    → flat_map (row_in_output format script fs c calm) ps ≡ flat_map (row_as format script fs c calm.row.lost calm.row.refused) ps
shown-rows on ss t n [] format script fs c calm some h = refl
shown-rows on ss t n (p ∷ ps) format script fs c calm some h =
    ap₂ (λ a b. a ++ b) (shown-row format script fs c calm p (number-not on ss n (places_of t n) p some h.0)) (shown-rows on ss t (suc n) ps format script fs c calm (omega arith) h.1)

shown-calm : (format : RowFormat) (script : List ℕ) (fs : List ScriptFile) (c : Parts) (calm : RowData) → calm.number ≡ 0 → row_in_output format script fs c calm calm ≡ row_as format script fs c [] [] calm
shown-calm format script fs c calm e =
    ap (λ n. if n == 0 then row_as format script fs c [] [] calm else row_as format script fs c calm.row.lost calm.row.refused calm) e

listed-calm : (format : RowFormat) (calm : RowData) (ps : List RowData) → calm.number ≡ 0 → plays_in_output format calm (calm ∷ ps) ≡ calm ∷ ps
listed-calm Text calm ps e = refl
listed-calm Csv calm ps e = refl
listed-calm Jsonl calm ps e = refl
listed-calm Junit calm ps e = refl
listed-calm Html calm ps e = ap (λ n. if n == 0 then calm ∷ ps else calm ∷ calm ∷ ps) e

listed-page : (on : PlaySetup) (ss : List Single) (t : Rows) (n : ℕ) (calm : RowData) (ps : List RowData) → 1 ≤ n → AreRowsOf on ss t n ps → plays_in_output Html calm ps ≡ calm ∷ ps
listed-page on ss t n calm [] some h = refl
listed-page on ss t n calm (p ∷ ps) some h = ap (λ b. if b then p ∷ ps else calm ∷ p ∷ ps) (number-not on ss n (places_of t n) p some h.0)

-- without row 0
rest-text : (on : PlaySetup) (ss : List Single) (t : Rows) (n : ℕ) (calm : RowData) (ps : List RowData) (format : RowFormat) (script : List ℕ) (fs : List ScriptFile) (c : Parts) → calm.number ≡ 0 → 1 ≤ n → AreRowsOf on ss t n ps
    → flat_map (row_in_output format script fs c calm) (plays_in_output format calm ps)
    ≡ (if is_page format then row_as format script fs c [] [] calm else []) ++ flat_map (row_as format script fs c calm.row.lost calm.row.refused) ps
rest-text on ss t n calm ps Text script fs c e some h = shown-rows on ss t n ps Text script fs c calm some h
rest-text on ss t n calm ps Csv script fs c e some h = shown-rows on ss t n ps Csv script fs c calm some h
rest-text on ss t n calm ps Jsonl script fs c e some h = shown-rows on ss t n ps Jsonl script fs c calm some h
rest-text on ss t n calm ps Junit script fs c e some h = shown-rows on ss t n ps Junit script fs c calm some h
rest-text on ss t n calm ps Html script fs c e some h =
    ap (flat_map (row_in_output Html script fs c calm)) (listed-page on ss t n calm ps some h)
    ∙ ap₂ (λ a b. a ++ b) (shown-calm Html script fs c calm e) (shown-rows on ss t n ps Html script fs c calm some h)

-- all rows of a part, which has rows from one up to another, where these are those with faults
pub record AreAll (on : PlaySetup) (ss : List Single) (t : Rows) (from to : ℕ) (calm : RowData) (ps all : List RowData) : Type 0 where
  pub listed_are : AreRowsFrom on ss from (take (to - from) (drop from (rows t))) all
  pub counted_are : rows_with_faults all ≡ ps
  pub text : (format : RowFormat) (script : List ℕ) (fs : List ScriptFile) (c : Parts)
      → flat_map (row_in_output format script fs c calm) (plays_in_output format calm all)
      ≡ (if ((from == 0) && nat_lt 0 to) || is_page format then row_as format script fs c [] [] calm else [])
      ++ flat_map (row_as format script fs c calm.row.lost calm.row.refused) ps

undisturbed-row : (on : PlaySetup) (ss : List Single) (calm : RowData) → IsRowOf on [] 0 [] calm → IsRowOf on ss 0 [] calm
undisturbed-row on ss calm h = record {
  it = h.it;
  comes = h.comes;
  number = h.number;
  faults = h.faults;
  single = h.single;
  row = h.row;
  log = h.log;
  judgements = h.judgements;
}

pub all-rows : (on : PlaySetup) (ss : List Single) (t : Rows) (from to : ℕ) (calm : RowData) (ps : List RowData) → IsRowOf on [] 0 [] calm → AreRowsOf on ss t (max from 1) ps
    → length ps ≡ to - max from 1 → from ≤ to → to ≤ length (rows t) → (all : List RowData) × AreAll on ss t from to calm ps all
all-rows on ss t zero zero calm [] calm-is h long order few = (
  [],
  record {
    listed_are = tt;
    counted_are = refl;
    text = λ format script fs c. rest-text on ss t 1 calm [] format script fs c calm-is.number (omega arith) tt;
  },
)
all-rows on ss t zero zero calm (p ∷ ps) calm-is h long order few = absurd (omega (arith, long))
all-rows on ss t zero (suc to) calm ps calm-is h long order few =
    let first : IsRowOf on ss 0 [] calm = undisturbed-row on ss calm calm-is in
    let zeroth : (calm.number == 0) ≡ true = ap (λ n. n == 0) calm-is.number in (
      calm ∷ ps,
      record {
        listed_are = part-listed on ss t 0 (suc to - 0) (calm ∷ ps) (omega (arith, long)) (omega (arith, few)) (first, h);
        counted_are = ap (λ b. if not b then calm ∷ rows_with_faults ps else rows_with_faults ps) zeroth ∙ counted-rows on ss t 1 ps (omega arith) h;
        text = λ format script fs c.
            ap (flat_map (row_in_output format script fs c calm)) (listed-calm format calm ps calm-is.number)
            ∙ ap₂ (λ a b. a ++ b) (shown-calm format script fs c calm calm-is.number) (shown-rows on ss t 1 ps format script fs c calm (omega arith) h)
            ∙ ap
            (λ b. (if b || is_page format then row_as format script fs c [] [] calm else []) ++ flat_map (row_as format script fs c calm.row.lost calm.row.refused) ps)
            (sym (above-zero to (nat_lt 0 (suc to)) refl));
      },
    )
all-rows on ss t (suc from) to calm ps calm-is h long order few =
    let start : max (suc from) 1 ≡ suc from = omega arith in
    let rows-are : AreRowsOf on ss t (suc from) ps = subst (λ n. AreRowsOf on ss t n ps) start h in (
      ps,
      record {
        listed_are = part-listed on ss t (suc from) (to - suc from) ps (omega (arith, long)) (omega (arith, few, order)) rows-are;
        counted_are = counted-rows on ss t (suc from) ps (omega arith) rows-are;
        text = λ format script fs c.
            rest-text on ss t (suc from) calm ps format script fs c calm-is.number (omega arith) rows-are
            ∙ ap
            (λ b. (if (b && nat_lt 0 to) || is_page format then row_as format script fs c [] [] calm else []) ++ flat_map (row_as format script fs c calm.row.lost calm.row.refused) ps)
            (sym (not-zero (suc from) (omega arith)));
      },
    )
