-- Plays on a new bench, also under faults, and what they come to.
use Rattle.std.proofs.Common.{◌≡◌, ◌∙◌, ℕ, Bool, false, List, [], ◌∷◌, not, refl, sym, ap, map, Option, Some, None, Result, Ok, Err}
use Rattle.std.specs.Prelude.{count_by}
use Rattle.std.proofs.lemmas.List.{reverse-reverse}
use Rattle.lin_parts.specs.declared.parts.Parts.{Parts}
use Rattle.lin_core.specs.Core.{CoreData}
use Rattle.lin_bench.specs.Bench.{BenchData, new_bench, fresh_under, state_of}
use Rattle.lin_bench.specs.Faults.{armed_fault}
use Rattle.lin_bench.specs.Made.{BenchState, made}
use Rattle.lin_bench.specs.Played.{Run, bench_after, come_to, come_to_under, first_under, in_turn, is_limit, judged_up_to, judgements, judgements_under, line_result, played_under, with_judgements}
use Rattle.lin_bench.specs.Plays.{ComesUnder, OverfillsOn, OverfillsUnder, PlayFails, PlaysOn, PlaysUnder, limit_of, run_or_limit}
use Rattle.lin_bench.specs.Strict.{silent_lines}
use Rattle.lin_bench.specs.declared.faults.SlotFault.{SlotFault}
use Rattle.lin_bench.specs.declared.fault.PlayFault.{PlayFault}
use Rattle.lin_bench.specs.declared.fault.PlayFault.TheVariants.{SlotLimit, LogFull, OutOfMemory}
use Rattle.lin_bench.specs.declared.got.Judgement.{Judgement}
use Rattle.lin_bench.specs.declared.got.Verdict.{Verdict}
use Rattle.lin_bench.specs.declared.got.Verdict.TheVariants as verdict
use Rattle.lin_bench.specs.declared.line.ScriptLine.{ScriptLine}
use Rattle.lin_bench.specs.declared.place.LinePlace.{LinePlace}
use Rattle.lin_bench.specs.declared.playing.LineEnd.{LineEnd}
use Rattle.lin_bench.specs.declared.playing.PlayedUnder.{PlayedUnder}
use Rattle.lin_bench.proofs.Runs.{judged-whole, turns-failed}

-- a core with an empty log over a cluster
pub record IsNew (c : Parts) (o : ℕ) (cap : ℕ) (core : CoreData) : Type 0 where
  pub log : core.log ≡ []
  pub cluster : core.cluster ≡ c
  pub opening : core.opening ≡ o
  pub capacity : core.capacity ≡ cap

overfills-under : (c : Parts) (o cap : ℕ) (fs : List SlotFault) (ls : List (LinePlace × ScriptLine)) (core : CoreData) → IsNew c o cap core → OverfillsOn (fresh_under (map armed_fault fs) core) ls
    → OverfillsUnder c o cap fs ls
overfills-under c o cap fs ls core is f =
    record {
      before = f.before;
      line = f.line;
      behind = f.behind;
      all = f.all;
      bench = f.bench;
      so_far = rw (is.log, is.cluster, is.opening, is.capacity) at f.so_far;
      full = rw (is.cluster, is.opening, is.capacity) at f.full;
    }

-- ---- without faults
pub play-fails : (strict : Bool) (c : Parts) (o cap : ℕ) (ls : List (LinePlace × ScriptLine)) (core : CoreData) (new : BenchData) (js more : List Judgement) (es behind : List LineEnd) (fault : PlayFault)
    → IsNew c o cap core → PlaysOn strict (new_bench core) js es ls (Err fault) new more behind → PlayFails strict c o cap ls fault
play-fails strict c o cap ls core new js more es behind (SlotLimit n) is f =
    let come : come_to c o cap ls ≡ Err n = rw (is.log, is.cluster, is.opening, is.capacity) at f.0 in
    ap (with_judgements (judgements strict c o cap ls)) come
play-fails strict c o cap ls core new js more es behind LogFull is f = overfills-under c o cap [] ls core is f
play-fails strict c o cap ls core new js more es behind OutOfMemory is f = tt

-- ---- under faults
under-limit : (strict : Bool) (c : Parts) (o cap : ℕ) (fs : List SlotFault) (ls : List (LinePlace × ScriptLine)) (core : CoreData) (new : BenchData) (more : List Judgement) (behind : List LineEnd)
    (n : LinePlace) (it : PlayedUnder) → IsNew c o cap core → PlaysOn strict (fresh_under (map armed_fault fs) core) [] [] ls (Err (SlotLimit n)) new more behind
    → it.limit ≡ Some n → it.core ≡ new.core → it.judgements ≡ more → it.ends ≡ behind → it.missed ≡ count_by (λ f. not f.has_struck) new.rules.faults → ComesUnder strict c o cap fs ls it
under-limit strict c o cap fs ls core new more behind n it is f limit same judged ended missed =
    let come : come_to_under c o cap fs ls ≡ Err n = rw (is.log, is.cluster, is.opening, is.capacity) at f.0 in
    let run : Run = record { bench = state_of new; judgements = it.judgements } in
    record {
      bench = state_of new;
      is = rw (is.log, is.cluster, is.opening, is.capacity) at f.1;
      lines = ap (with_judgements (judgements_under strict c o cap fs ls)) come ∙ ap (run_or_limit run) (sym limit);
      log = ap (λ (k : CoreData). k.log) same ∙ sym (reverse-reverse new.core.log);
      judgements = judged ∙ (rw (is.log, is.cluster, is.opening, is.capacity) at f.2);
      ends = ended ∙ (rw (is.log, is.cluster, is.opening, is.capacity) at f.3);
      missed = missed;
      cluster = ap (λ (k : CoreData). k.cluster) same ∙ f.4.0 ∙ is.cluster;
      opening_is = ap (λ (k : CoreData). k.opening) same ∙ f.4.1 ∙ is.opening;
      capacity_is = ap (λ (k : CoreData). k.capacity) same ∙ f.4.2 ∙ is.capacity;
    }

-- where no line makes more slots than are left, all lines were played
bench-next : (c : Parts) (o cap : ℕ) (b end : BenchState) (l : LinePlace × ScriptLine) (ls : List (LinePlace × ScriptLine)) (v : Verdict) → (made c o cap b l.1).1 ≡ v
    → (in_turn c o cap (Ok (made c o cap b l.1).0) ls ≡ Ok end → bench_after c o cap (made c o cap b l.1).0 ls ≡ end)
    → in_turn c o cap (line_result l.0 (made c o cap b l.1).0 (made c o cap b l.1).1) ls ≡ Ok end → bench_after c o cap b (l ∷ ls) ≡ end
bench-next c o cap b end l ls verdict.SlotLimit f more h = let no : Err l.0 ≡ Ok end = turns-failed c o cap l.0 ls ∙ (rw f at h) in absurd (cc)
bench-next c o cap b end l ls verdict.Nothing f more h = let open_ : is_limit (made c o cap b l.1).1 ≡ false = ap is_limit f in rw open_ (more (rw f at h))
bench-next c o cap b end l ls (verdict.Met what) f more h = let open_ : is_limit (made c o cap b l.1).1 ≡ false = ap is_limit f in rw open_ (more (rw f at h))
bench-next c o cap b end l ls (verdict.Unmet what got) f more h = let open_ : is_limit (made c o cap b l.1).1 ≡ false = ap is_limit f in rw open_ (more (rw f at h))

bench-whole : (c : Parts) (o cap : ℕ) (b end : BenchState) (ls : List (LinePlace × ScriptLine)) → in_turn c o cap (Ok b) ls ≡ Ok end → bench_after c o cap b ls ≡ end
bench-whole c o cap b end [] h = cc
bench-whole c o cap b end (l ∷ ls) h = bench-next c o cap b end l ls (made c o cap b l.1).1 refl (λ k. bench-whole c o cap (made c o cap b l.1).0 end ls k) h

under-done : (strict : Bool) (c : Parts) (o cap : ℕ) (fs : List SlotFault) (ls : List (LinePlace × ScriptLine)) (core : CoreData) (new : BenchData) (more : List Judgement) (behind : List LineEnd)
    (x : Unit {0}) (it : PlayedUnder) → IsNew c o cap core → PlaysOn strict (fresh_under (map armed_fault fs) core) [] [] ls (Ok x) new more behind
    → it.limit ≡ None → it.core ≡ new.core → it.judgements ≡ more → it.ends ≡ behind → it.missed ≡ count_by (λ f. not f.has_struck) new.rules.faults → ComesUnder strict c o cap fs ls it
under-done strict c o cap fs ls core new more behind x it is f limit same judged ended missed =
    let come : come_to_under c o cap fs ls ≡ Ok (state_of new) = rw (is.log, is.cluster, is.opening, is.capacity) at f.0 in
    let told : it.judgements ≡ judged_up_to strict (silent_lines strict ls) c o cap (first_under fs) ls = judged ∙ (rw (is.log, is.cluster, is.opening, is.capacity) at f.1) in
    let whole : it.judgements ≡ judgements_under strict c o cap fs ls = told ∙ judged-whole strict (silent_lines strict ls) c o cap (first_under fs) (state_of new) ls come in
    let run : Run = record { bench = state_of new; judgements = it.judgements } in
    let came : played_under strict c o cap fs ls ≡ Ok run =
    ap (with_judgements (judgements_under strict c o cap fs ls)) come ∙ ap (λ js. with_judgements js (Ok (state_of new))) (sym whole) in
    record {
      bench = state_of new;
      is = sym (bench-whole c o cap (first_under fs) (state_of new) ls come);
      lines = came ∙ ap (run_or_limit run) (sym limit);
      log = ap (λ (k : CoreData). k.log) same ∙ sym (reverse-reverse new.core.log);
      judgements = told;
      ends = ended ∙ (rw (is.log, is.cluster, is.opening, is.capacity) at f.2);
      missed = missed;
      cluster = ap (λ (k : CoreData). k.cluster) same ∙ f.3.0 ∙ is.cluster;
      opening_is = ap (λ (k : CoreData). k.opening) same ∙ f.3.1 ∙ is.opening;
      capacity_is = ap (λ (k : CoreData). k.capacity) same ∙ f.3.2 ∙ is.capacity;
    }

-- a play whose lines were played, or that met the limit
pub under-played : (strict : Bool) (c : Parts) (o cap : ℕ) (fs : List SlotFault) (ls : List (LinePlace × ScriptLine)) (core : CoreData) (new : BenchData) (more : List Judgement) (behind : List LineEnd)
    (r : Result (Unit {0}) PlayFault) (limit : Option LinePlace) (it : PlayedUnder) → IsNew c o cap core → PlaysOn strict (fresh_under (map armed_fault fs) core) [] [] ls r new more behind → Ok limit ≡ limit_of r
    → it.limit ≡ limit → it.core ≡ new.core → it.judgements ≡ more → it.ends ≡ behind → it.missed ≡ count_by (λ f. not f.has_struck) new.rules.faults → ComesUnder strict c o cap fs ls it
under-played strict c o cap fs ls core new more behind (Ok x) limit it is f e limited same judged ended missed =
    let none : limit ≡ None = cc in under-done strict c o cap fs ls core new more behind x it is f (limited ∙ none) same judged ended missed
under-played strict c o cap fs ls core new more behind (Err (SlotLimit n)) limit it is f e limited same judged ended missed =
    let at : limit ≡ Some n = cc in under-limit strict c o cap fs ls core new more behind n it is f (limited ∙ at) same judged ended missed
under-played strict c o cap fs ls core new more behind (Err LogFull) limit it is f e limited same judged ended missed = absurd (cc)
under-played strict c o cap fs ls core new more behind (Err OutOfMemory) limit it is f e limited same judged ended missed = absurd (cc)

-- another one
pub under-failed : (strict : Bool) (c : Parts) (o cap : ℕ) (fs : List SlotFault) (ls : List (LinePlace × ScriptLine)) (core : CoreData) (new : BenchData) (more : List Judgement) (behind : List LineEnd)
    (r : Result (Unit {0}) PlayFault) (fault : PlayFault) → IsNew c o cap core → PlaysOn strict (fresh_under (map armed_fault fs) core) [] [] ls r new more behind → Err fault ≡ limit_of r
    → PlaysUnder strict c o cap fs ls (Err fault)
under-failed strict c o cap fs ls core new more behind (Ok x) fault is f e = absurd (cc)
under-failed strict c o cap fs ls core new more behind (Err (SlotLimit n)) fault is f e = absurd (cc)
under-failed strict c o cap fs ls core new more behind (Err LogFull) fault is f e =
    let same : fault ≡ LogFull = cc in rw same (overfills-under c o cap fs ls core is f)
under-failed strict c o cap fs ls core new more behind (Err OutOfMemory) fault is f e =
    let same : fault ≡ OutOfMemory = cc in rw same tt
