-- How many lines of a script are for the play: at most as many as may be read.
use Rattle.std.proofs.Common.{◌≡◌, ◌∙◌, ◌≤◌, ◌+◌, ◌-◌, ◌==◌, ℕ, zero, suc, List, [], ◌∷◌, ◌++◌, Bool, true, false, arith, drop, length, map, reverse, Option, Some, None, Result, Ok, Err, if◌then◌else◌}
use Rattle.lin_bench.specs.Files.{SourceData}
use Rattle.lin_bench.specs.Resolved.{Act, Block, Item, NextLine, OpenFile, Reading, act_of, at_ends, bad_item, begun, ended, included, items, items_by, items_from, items_included, items_next, next_line, place_in, too_many, unended, unless_open, with_file, with_parameter}
use Rattle.lin_bench.specs.Resolved.Act.{BadEnd, BadLine, BadRepeat, EndBlock, IncludeFile, RepeatBlock, Say, SetParameter}
use Rattle.lin_bench.specs.Written.{Written, written_lines}
use Rattle.lin_bench.specs.declared.place.LinePlace.{LinePlace}
use Rattle.lin_bench.specs.declared.reason.Reason.{Reason}
use Rattle.lin_bench.specs.declared.reason.Reason.TheVariants.{IncludeDepth, RepeatWithoutEnd}

abbrev pub one_if_said : Result (List ℕ) Reason → ℕ
one_if_said (Ok text) = 1
one_if_said (Err why) = 0

abbrev pub said_count : List Item → ℕ
said_count [] = 0
said_count (i ∷ is) = one_if_said i.1 + said_count is

said-append : (is js : List Item) → said_count (is ++ js) ≡ said_count is + said_count js
said-append [] js = omega arith
said-append (i ∷ is) js = let more = said-append is js in omega (arith, more)

-- ---- what is said of blocks and at ends is bad
none-ended : (f : OpenFile) (bs : List Block) → said_count (map (λ (b : Block). bad_item (place_in f b.number) RepeatWithoutEnd) bs) ≡ 0
none-ended f [] = omega arith
none-ended f (b ∷ bs) = let more = none-ended f bs in omega (arith, more)

none-unended : (f : OpenFile) → said_count (unended f) ≡ 0
none-unended f = none-ended f (reverse f.blocks)

none-open : (p : LinePlace) (bs : List Block) → said_count (unless_open p bs) ≡ 0
none-open p [] = omega arith
none-open p (b ∷ bs) = omega arith

none-at_ends : (f : OpenFile) (ws : List Written) (fs : List OpenFile) → said_count (at_ends f ws fs) ≡ 0
none-at_ends f (w ∷ ws) fs = omega arith
none-at_ends f [] [] = none-unended f
none-at_ends f [] (g ∷ gs) =
    let here = none-unended f in
    let more = none-at_ends g g.lines gs in
    let both = said-append (unended f) (at_ends g g.lines gs) in
    omega (arith, here, more, both)

none-many : (l : Option NextLine) → said_count (too_many l) ≡ 0
none-many None = omega arith
none-many (Some l) = omega arith

-- ---- one line says at most one thing
module _ (n : ℕ) (s : SourceData) (go : Reading → List Item) (few : (r : Reading) → said_count (go r) ≤ n) where
  said-included : (r : Reading) (k : ℕ) (f : Result (ℕ × List ℕ) Reason) → said_count (items_included go r k f) ≤ n + 1
  said-included r k (Ok f) = let h = few (with_file r k f) in omega (arith, h)
  said-included r k (Err why) = omega arith

  said-include : (r : Reading) (k : ℕ) (f : Result (ℕ × List ℕ) Reason) (deep : Bool)
      → said_count (if deep then bad_item (place_in r.file k) IncludeDepth ∷ go r else items_included go r k f) ≤ n + 1
  said-include r k f true = let h = few r in omega (arith, h)
  said-include r k f false = said-included r k f

  said-by : (r : Reading) (k : ℕ) (act : Act) → said_count (items_by s go r k act) ≤ n + 1
  said-by r k (Say text) = let h = few r in omega (arith, h)
  said-by r k (SetParameter name text) = let h = few (record r { sets = with_parameter r.sets name text }) in omega (arith, h)
  said-by r k (RepeatBlock times) = let h = few (record r { file = begun r.file k (times - 1) }) in omega (arith, h)
  said-by r k EndBlock =
      let h = few (record r { file = ended r.file }) in
      let none = none-open (place_in r.file k) r.file.blocks in
      let both = said-append (unless_open (place_in r.file k) r.file.blocks) (go (record r { file = ended r.file })) in
      omega (arith, h, none, both)
  said-by r k (IncludeFile name) = said-include r k (included s r.room r.file.file name) (length r.outer == 16)
  said-by r k (BadLine why) = let h = few r in omega (arith, h)
  said-by r k (BadRepeat why) = let h = few (record r { file = begun r.file k 0 }) in omega (arith, h)
  said-by r k (BadEnd why) =
      let h = few (record r { file = record r.file { blocks = drop 1 r.file.blocks } }) in omega (arith, h)

  said-next : (r : Reading) (l : Option NextLine) → said_count (items_next s go r l) ≤ n + 1
  said-next r None = omega arith
  said-next r (Some l) = said-by (record r { file = l.file; outer = l.outer }) l.line.number (act_of s.given r.sets l.line)

-- ---- all of them
pub said-few : (n : ℕ) (s : SourceData) (r : Reading) → said_count (items_from n s r) ≤ n
said-few zero s r =
    let ends = none-at_ends r.file r.file.lines r.outer in
    let many = none-many (next_line r.file r.file.lines r.outer) in
    let both = said-append (at_ends r.file r.file.lines r.outer) (too_many (next_line r.file r.file.lines r.outer)) in
    omega (arith, ends, many, both)
said-few (suc n) s r =
    let l = next_line r.file r.file.lines r.outer in
    let ends = none-at_ends r.file r.file.lines r.outer in
    let next = said-next n s (items_from n s) (said-few n s) r l in
    let both = said-append (at_ends r.file r.file.lines r.outer) (items_next s (items_from n s) r l) in
    omega (arith, ends, next, both)

pub items-few : (s : SourceData) → said_count (items s) ≤ length (written_lines s.text) + 1000000
items-few s = said-few (length (written_lines s.text) + 1000000) s _
