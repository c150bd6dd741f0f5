-- A script that is read: what is left of it after a line, a block and a file.
use Rattle.std.proofs.Common.{◌≡◌, ◌∙◌, ◌+◌, ◌-◌, ◌==◌, ℕ, zero, suc, false, List, [], ◌∷◌, ◌++◌, Option, Some, None, Ok, append_assoc, ap, arith, if◌then◌else◌, length, map, refl, reverse, sym}
use Rattle.lin_bench.specs.Files.{SourceData, source_data}
use Rattle.lin_bench.specs.Resolved.{Item, NextLine, OpenFile, Reading, act_of, at_ends, bad_item, items, items_by, items_from, items_next, next_line, place_in, too_many, unended}
use Rattle.lin_bench.specs.Resolving.{GivesItemOrEnd, TakesUnended, item_if, item_of, items_left, open_file_of, written_of}
use Rattle.lin_bench.specs.Written.{Written}
use Rattle.lin_bench.specs.declared.parameters.Parameter.{Parameter}
use Rattle.lin_bench.specs.declared.reason.Reason.TheVariants.{TooManyLines}
use Rattle.lin_bench.specs.declared.place.LinePlace.{LinePlace}
use Rattle.lin_bench.specs.declared.resolving.Item.{Item as LineItem}
use Rattle.lin_bench.specs.declared.resolving.OpenFile.{OpenFile as ReadFile}
use Rattle.lin_bench.specs.declared.resolving.ScriptReader.{ScriptReader}
use Rattle.lin_bench.specs.declared.resolving.WrittenLine.{WrittenLine}
use Rattle.lin_bench.proofs.LastItems.{last-first}

abbrev pub reading : ℕ → List Parameter → OpenFile → List OpenFile → Reading
reading room sets f fs = record { room = room; sets = sets; file = f; outer = fs }

-- ---- the end
bare : (f : OpenFile) → f.lines ≡ [] → f.blocks ≡ [] → f ≡ record f { blocks = []; lines = [] }
bare f h k = ap (λ ls. record f { lines = ls }) h ∙ ap (λ bs. record f { blocks = bs; lines = [] }) k

none-left : (n : ℕ) (s : SourceData) (room : ℕ) (sets : List Parameter) (f : OpenFile) → items_from n s (reading room sets (record f { blocks = []; lines = [] }) []) ≡ []
none-left zero s room sets f = refl
none-left (suc n) s room sets f = refl

pub stopped : (n : ℕ) (s : SourceData) (room : ℕ) (sets : List Parameter) (f g : OpenFile) → f ≡ record g { blocks = []; lines = [] }
    → items_from n s (reading room sets f []) ≡ []
stopped n s room sets f g e = ap (λ h. items_from n s (reading room sets h [])) e ∙ none-left n s room sets g

pub all-read : (n : ℕ) (s : SourceData) (room : ℕ) (sets : List Parameter) (f : OpenFile) (fs : List ReadFile) → f.lines ≡ [] → f.blocks ≡ [] → fs ≡ []
    → items_from n s (reading room sets f (reverse (map open_file_of fs))) ≡ []
all-read n s room sets f fs h k e =
    ap (λ gs. items_from n s (reading room sets f (reverse (map open_file_of gs)))) e ∙ stopped n s room sets f f (bare f h k)

-- what follows does not depend on the file that is left
next-same : (s : SourceData) (go : Reading → List Item) (room : ℕ) (sets : List Parameter) (f g : OpenFile) (fs gs : List OpenFile) (o : Option NextLine)
    → items_next s go (reading room sets f fs) o ≡ items_next s go (reading room sets g gs) o
next-same s go room sets f g fs gs None = refl
next-same s go room sets f g fs gs (Some l) = refl

leave-bare : (n : ℕ) (s : SourceData) (room : ℕ) (sets : List Parameter) (f g : OpenFile) (gs : List OpenFile)
    → items_from n s (reading room sets (record f { blocks = []; lines = [] }) (g ∷ gs)) ≡ items_from n s (reading room sets g gs)
leave-bare zero s room sets f g gs = refl
leave-bare (suc n) s room sets f g gs =
    ap (λ l. at_ends g g.lines gs ++ l) (next-same s (items_from n s) room sets (record f { blocks = []; lines = [] }) g (g ∷ gs) gs (next_line g g.lines gs))

-- the file that includes the one that is at its end
pub left-file : (n : ℕ) (s : SourceData) (room : ℕ) (sets : List Parameter) (f : OpenFile) (fs gs : List ReadFile) (g : ReadFile) → f.lines ≡ [] → f.blocks ≡ [] → fs ≡ gs ++ g ∷ []
    → items_from n s (reading room sets f (reverse (map open_file_of fs))) ≡ items_from n s (reading room sets (open_file_of g) (reverse (map open_file_of gs)))
left-file n s room sets f fs gs g h k e =
    ap (λ hs. items_from n s (reading room sets f (reverse (map open_file_of hs)))) e
    ∙ ap (λ hs. items_from n s (reading room sets f hs)) (last-first open_file_of gs g)
    ∙ ap (λ a. items_from n s (reading room sets a (open_file_of g ∷ reverse (map open_file_of gs)))) (bare f h k)
    ∙ leave-bare n s room sets f (open_file_of g) (reverse (map open_file_of gs))

-- ---- a line
line-by : (n : ℕ) (s : SourceData) (room : ℕ) (sets : List Parameter) (g : OpenFile) (fs : List OpenFile) (w : Written)
    → items_from (suc n) s (reading room sets (record g { lines = w ∷ g.lines }) fs) ≡ items_by s (items_from n s) (reading room sets g fs) w.number (act_of s.given sets w)
line-by n s room sets g fs w = refl

pub line-read : (n : ℕ) (s : SourceData) (room : ℕ) (sets : List Parameter) (f g : OpenFile) (fs : List OpenFile) (w : Written) → f ≡ record g { lines = w ∷ g.lines } → (n == 0) ≡ false
    → items_from n s (reading room sets f fs) ≡ items_by s (items_from (n - 1) s) (reading room sets g fs) w.number (act_of s.given sets w)
line-read zero s room sets f g fs w e h = absurd (cc)
line-read (suc n) s room sets f g fs w e h =
    let same : n ≡ suc n - 1 = omega arith in
    ap (λ a. items_from (suc n) s (reading room sets a fs)) e ∙ line-by n s room sets g fs w
    ∙ ap (λ k. items_by s (items_from k s) (reading room sets g fs) w.number (act_of s.given sets w)) same

pub line-too-many : (n : ℕ) (s : SourceData) (room : ℕ) (sets : List Parameter) (f g : OpenFile) (fs : List OpenFile) (w : Written) → f ≡ record g { lines = w ∷ g.lines } → n ≡ 0
    → items_from n s (reading room sets f fs) ≡ bad_item (place_in g w.number) TooManyLines ∷ []
line-too-many n s room sets f g fs w e h =
    ap (λ a. items_from n s (reading room sets a fs)) e ∙ ap (λ k. items_from k s (reading room sets (record g { lines = w ∷ g.lines }) fs)) h

-- ---- a block that is open at the end of the file
abbrev ends_outside : List OpenFile → List Item
ends_outside [] = []
ends_outside (g ∷ gs) = at_ends g g.lines gs

abbrev next_outside : List OpenFile → Option NextLine
next_outside [] = None
next_outside (g ∷ gs) = next_line g g.lines gs

nothing : OpenFile
nothing = record { file = 0; by = None; blocks = []; lines = [] }

abbrev after_file : ℕ → SourceData → ℕ → List Parameter → List OpenFile → List Item
after_file zero s room sets fs = ends_outside fs ++ too_many (next_outside fs)
after_file (suc n) s room sets fs = ends_outside fs ++ items_next s (items_from n s) (reading room sets nothing []) (next_outside fs)

at-end-bare : (n : ℕ) (s : SourceData) (room : ℕ) (sets : List Parameter) (f : OpenFile) (fs : List OpenFile)
    → items_from n s (reading room sets (record f { lines = [] }) fs) ≡ unended f ++ after_file n s room sets fs
at-end-bare zero s room sets f [] = refl
at-end-bare zero s room sets f (g ∷ gs) = append_assoc (unended f) (at_ends g g.lines gs) (too_many (next_line g g.lines gs))
at-end-bare (suc n) s room sets f [] = refl
at-end-bare (suc n) s room sets f (g ∷ gs) =
    append_assoc (unended f) (at_ends g g.lines gs) (items_next s (items_from n s) (reading room sets (record f { lines = [] }) (g ∷ gs)) (next_line g g.lines gs))
    ∙ ap (λ l. unended f ++ (at_ends g g.lines gs ++ l)) (next-same s (items_from n s) room sets (record f { lines = [] }) nothing (g ∷ gs) [] (next_line g g.lines gs))

at-end : (n : ℕ) (s : SourceData) (room : ℕ) (sets : List Parameter) (f : OpenFile) (fs : List OpenFile) → f.lines ≡ []
    → items_from n s (reading room sets f fs) ≡ unended f ++ after_file n s room sets fs
at-end n s room sets f fs h = ap (λ ls. items_from n s (reading room sets (record f { lines = ls }) fs)) h ∙ at-end-bare n s room sets f fs

pub block-left : (n : ℕ) (s : SourceData) (room : ℕ) (sets : List Parameter) (f g : OpenFile) (fs : List OpenFile) (i : Item) → f.lines ≡ [] → unended f ≡ i ∷ unended g
    → g ≡ record f { blocks = g.blocks } → items_from n s (reading room sets f fs) ≡ i ∷ items_from n s (reading room sets g fs)
block-left n s room sets f g fs i h e same =
    let empty : g.lines ≡ [] = ap (λ (a : OpenFile). a.lines) same ∙ h in
    at-end n s room sets f fs h ∙ ap (λ l. l ++ after_file n s room sets fs) e
    ∙ ap (λ l. i ∷ l) (sym (at-end n s room sets g fs empty))

pub no-items : {A : Type 0} (xs : List A) → length xs ≡ 0 → xs ≡ []
no-items [] h = refl
no-items (x ∷ xs) h = absurd (omega (arith, h))

-- ---- a reader
-- what is left before a line, if the line says this
pub after-line : (a r : ScriptReader) (f : ReadFile) (new : ScriptReader) (w : WrittenLine) (said : Option LineItem) → items_left a ≡ items_left r
    → open_file_of r.file ≡ record (open_file_of f) { lines = written_of w ∷ (open_file_of f).lines } → (r.left == 0) ≡ false
    → items_by (source_data r.source) (items_from (r.left - 1) (source_data r.source)) (reading r.room r.sets (open_file_of f) (reverse (map open_file_of r.outer.items))) w.number
    (act_of r.source.given.now r.sets (written_of w))
    ≡ item_if item_of (place_in (open_file_of f) w.number) said ++ items_left new
    → items_left a ≡ item_if item_of (place_in (open_file_of f) w.number) said ++ items_left new
after-line a r f new w said same e some does =
    same
    ∙ line-read r.left (source_data r.source) r.room r.sets (open_file_of r.file) (open_file_of f) (reverse (map open_file_of r.outer.items)) (written_of w) e some
    ∙ does

-- what is left at the end of a file
pub file-ended : (E : Type 0) (a r : ScriptReader) (f : ReadFile) (g : OpenFile) (o : Option (LinePlace × LineItem)) → items_left a ≡ items_left r
    → ((open_file_of r.file).lines ≡ []) × (g ≡ open_file_of r.file) → TakesUnended o g (open_file_of f) → GivesItemOrEnd {E = E} (Ok o) a (record r { file = f })
file-ended E a r f g None same e h =
    let here : open_file_of f ≡ open_file_of r.file = h.1 ∙ e.1 in (
      same ∙ sym (ap (λ x. items_from r.left (source_data r.source) (reading r.room r.sets x (reverse (map open_file_of r.outer.items)))) here),
      (ap (λ (x : OpenFile). x.lines) here ∙ e.0, ap (λ (x : OpenFile). x.blocks) h.1 ∙ h.0),
    )
file-ended E a r f g (Some i) same e h =
    same
    ∙ sym (ap (λ x. items_from r.left (source_data r.source) (reading r.room r.sets x (reverse (map open_file_of r.outer.items)))) e.1)
    ∙ block-left r.left (source_data r.source) r.room r.sets g (open_file_of f) (reverse (map open_file_of r.outer.items)) (i.0, item_of i.1) (ap (λ (x : OpenFile). x.lines) e.1 ∙ e.0) h.0 h.1
