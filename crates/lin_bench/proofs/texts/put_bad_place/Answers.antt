use Rattle.std.proofs.Common.{◌≡◌, ◌∙◌, ◌++◌, ap, codes, refl, sym}
use Rattle.std.specs.Prelude.{List}
use Rattle.lin_text.specs.declared.lists.Text.{Text}
use Rattle.lin_text.proofs.Growing.{grows-more, grows-nothing, same-growth}
use Rattle.lin_bench.specs.Files.{place_number_text}
use Rattle.lin_bench.specs.Texts.{bad_place_text}
use Rattle.lin_bench.specs.declared.files.ScriptFile.{ScriptFile}
use Rattle.lin_bench.specs.declared.place.LinePlace.{LinePlace}
use Rattle.lin_bench.specs.declared.reason.Reason.{Reason}
use Rattle.lin_bench.specs.declared.reason.Reason.TheVariants.{LongFile, Unread}
use Rattle.lin_bench.proofs.texts.put_bad_place.Goals as goal

-- the place of a line that isn't bad because of a file
placed : (fs : List ScriptFile) (p : LinePlace) (why : Reason) → ((name : Text) → why ≡ Unread name → ⊥) → ((name : Text) → why ≡ LongFile name → ⊥)
    → bad_place_text fs p why ≡ codes "script " ++ (place_number_text fs p ++ codes " bad line: ")
placed fs p (Unread name) read short = absurd (read name refl)
placed fs p (LongFile name) read short = absurd (short name refl)
placed fs p why read short = refl

pub returns-in-Unread : goal.returns-in-Unread
returns-in-Unread g c = same-growth (ap (bad_place_text c.args.files.now c.args.place) (sym c.in-Unread.is)) (grows-nothing c.args.out.now)

pub returns-in-LongFile : goal.returns-in-LongFile
returns-in-LongFile g c = same-growth (ap (bad_place_text c.args.files.now c.args.place) (sym c.in-LongFile.is)) (grows-nothing c.args.out.now)

pub returns-in_default : goal.returns-in_default
returns-in_default g c =
    same-growth (sym (placed c.args.files.now c.args.place c.args.reason.now c.in_default.not-Unread c.in_default.not-LongFile))
    (grows-more c.put_text.ensures (grows-more c.put_place_number.ensures c.put_text-in_default.ensures))
