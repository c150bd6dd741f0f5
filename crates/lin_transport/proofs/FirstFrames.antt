-- A piece is read as a message exactly where it begins with the message's frames, whatever the unused bytes are.
use Rattle.std.proofs.Common.{◌≡◌, ℕ, zero, suc, ◌+◌, ◌*◌, ◌%◌, ◌/◌, ◌≤◌, ◌<◌, Bool, true, false, List, [], ◌∷◌, ◌++◌, length, take, drop, map, refl, ap, ◌∙◌, subst, arith, inl, inr, append_assoc}
use Rattle.std.specs.Prelude.{Some, None, All, ◌&&◌, if◌then◌else◌, nat_le, nat_lt, slice_index_or}
use Rattle.std.specs.List.{concat, starts_with}
use Rattle.std.proofs.Math.Dec.{eqb}
use Rattle.std.proofs.Math.Seq.{take-append_seam, take-append-add}
use Rattle.std.proofs.lemmas.Bool.{and_parts}
use Rattle.std.proofs.lemmas.Bool.Decides.{nat_tests, eqb_tells}
use Rattle.std.proofs.lemmas.List.{append-nil, drop-drop, length-drop, length-take, take-append-drop}
use Rattle.std.proofs.lemmas.List.Elements.{All-tail}
use Rattle.lin_frame.specs.Words.{numbers}
use Rattle.lin_transport.specs.Words.{begin_with}
use Rattle.lin_transport.specs.Transport.{needed_frame, frame_count, length_in, message_bytes, message_in}
use Rattle.lin_transport.specs.Law.{BeginsWith, HasFirst, ReadsFirstFrames}
use Rattle.lin_transport.proofs.Frames.{eqb-self, numbers-suc, size, short, long, count-some, count-suc, six-suc, reads-by}
use Rattle.lin_transport.proofs.Partial.{is-long, map-suc, sixth}

first-by : (b x : ℕ) (bytes f : List ℕ) → eqb b x ≡ true → HasFirst bytes f → HasFirst (b ∷ bytes) (x ∷ f)
first-by b x bytes f e h = elim (eqb_tells b x) [
  | inl same ↦ (h.0, rw same.1 (ap (λ (xs : List ℕ). x ∷ xs) h.1))
  | inr differ ↦ let no : eqb b x ≡ false = differ.0 in cc
]

-- a frame that passes the test has these bytes first
has-first : (bytes f : List ℕ) → starts_with eqb f bytes ≡ true → HasFirst bytes f
has-first [] f h = (f, refl)
has-first (b ∷ bytes) [] h = cc
has-first (b ∷ bytes) (x ∷ f) h =
    let both = and_parts (eqb b x) (starts_with eqb f bytes) h
    in first-by b x bytes f both.0 (has-first bytes f both.1)

first-passes : (bytes unused : List ℕ) → starts_with eqb (bytes ++ unused) bytes ≡ true
first-passes [] unused = refl
first-passes (b ∷ bytes) unused = rw (eqb-self b) (first-passes bytes unused)

-- as many frames as there are numbers
record AllFirst (g : ℕ → List ℕ) (n : ℕ) (fs : List (List ℕ)) : Type 0 where
  enough : n ≤ length fs
  each : (k : ℕ) → k < n → HasFirst (g k) (slice_index_or fs k [])

each-cons : (g : ℕ → List ℕ) (n : ℕ) (f : List ℕ) (fs : List (List ℕ)) → HasFirst (g 0) f → AllFirst (λ k. g (suc k)) n fs → (k : ℕ) → k < suc n → HasFirst (g k) (slice_index_or (f ∷ fs) k [])
each-cons g n f fs h a zero l = h
each-cons g n f fs h a (suc k) l = a.each k (omega arith)

begin-all : (g : ℕ → List ℕ) (n : ℕ) (fs : List (List ℕ)) → begin_with fs (map g (numbers n)) ≡ true → AllFirst g n fs
begin-all g zero fs h = record { enough = omega arith; each = λ k l. absurd (omega arith) }
begin-all g (suc n) [] h = absurd (let bad : false ≡ true = rw (numbers-suc n) at h in cc)
begin-all g (suc n) (f ∷ fs) h =
    let split : (starts_with eqb f (g 0) && begin_with fs (map g (map suc (numbers n)))) ≡ true = rw (numbers-suc n) at h
    in let both = and_parts (starts_with eqb f (g 0)) (begin_with fs (map g (map suc (numbers n)))) split
    in let later : AllFirst (λ k. g (suc k)) n fs = begin-all (λ k. g (suc k)) n fs (rw (map-suc g (numbers n)) at both.1)
    in record { enough = let l = later.enough in omega arith; each = each-cons g n f fs (has-first (g 0) f both.0) later }

all-begin : (g : ℕ → List ℕ) (n : ℕ) (fs : List (List ℕ)) → AllFirst g n fs → begin_with fs (map g (numbers n)) ≡ true
all-begin g zero fs a = refl
all-begin g (suc n) [] a = absurd (let l = a.enough in omega arith)
all-begin g (suc n) (f ∷ fs) a =
    let h : HasFirst (g 0) f = a.each 0 (omega arith)
    in let later : AllFirst (λ k. g (suc k)) n fs = record { enough = let l = a.enough in omega arith; each = λ k l. a.each (suc k) (omega arith) }
    in rw (numbers-suc n, map-suc g (numbers n), h.1, first-passes (g 0) h.0) (all-begin (λ k. g (suc k)) n fs later)

-- what is read has the length that its own first frame says
few-long : (n : ℕ) (m f : List ℕ) → 7 ≤ length m → HasFirst (needed_frame n m 0) f → length m ≤ length_in f → length m ≤ 4095
few-long n m f l h fits =
    let big : nat_lt (16 + length m / 256) 16 ≡ false = grind (arith, nat_tests)
    in let said : length m ≤ 256 * ((16 + length m / 256) % 16) + length m % 256 = rw (h.1, is-long m l, big) at fits
    in omega arith

few-bytes : (n : ℕ) (m f : List ℕ) → HasFirst (needed_frame n m 0) f → length m ≤ length_in f → length m ≤ 4095
few-bytes n m f h fits = elim (size m) [
  | short i l ↦ omega arith
  | long i l ↦ few-long n m f l h fits
]

begins-by : (n : ℕ) (m read f : List ℕ) (fs : List (List ℕ)) (b : Bool) → length read ≤ length_in f
    → (nat_lt 0 (length read) && begin_with (f ∷ fs) (map (needed_frame n read) (numbers (frame_count (length read))))) ≡ b → (if b then Some read else None) ≡ Some m → BeginsWith n m (f ∷ fs)
begins-by n m read f fs false fits e is = cc
begins-by n m read f fs true fits e is =
    let both = and_parts (nat_lt 0 (length read)) (begin_with (f ∷ fs) (map (needed_frame n read) (numbers (frame_count (length read))))) e
    in let some : 1 ≤ length read = let t = both.0 in grind (arith, nat_tests, t)
    in let count : 1 ≤ frame_count (length read) = count-some read
    in let all : AllFirst (needed_frame n read) (frame_count (length read)) (f ∷ fs) = begin-all (needed_frame n read) (frame_count (length read)) (f ∷ fs) both.1
    in let same : read ≡ m = cc
    in subst (λ (x : List ℕ). BeginsWith n x (f ∷ fs)) same
    (record { can = record { some = some; few = few-bytes n read f (all.each 0 (omega arith)) fits }; enough = all.enough; frames = all.each })

-- what is read begins the piece
read-begins : (n : ℕ) (m : List ℕ) (piece : List (List ℕ)) → message_in n piece ≡ Some m → BeginsWith n m piece
read-begins n m [] is = cc
read-begins n m (f ∷ fs) is =
    let read : List ℕ = take (length_in f) (message_bytes (f ∷ fs))
    in let fits : length read ≤ length_in f = simp length-take (omega arith)
    in begins-by n m read f fs (nat_lt 0 (length read) && begin_with (f ∷ fs) (map (needed_frame n read) (numbers (frame_count (length read))))) fits refl is

-- a frame with an address and some PCI, and these bytes after it
record Carries (n : ℕ) (bytes f : List ℕ) : Type 0 where
  pci : ℕ
  unused : List ℕ
  is : f ≡ n ∷ pci ∷ (bytes ++ unused)

none-after : (xs unused : List ℕ) → length (xs ++ unused) ≤ length xs → unused ≡ []
none-after [] [] l = refl
none-after [] (u ∷ unused) l = absurd (omega arith)
none-after (x ∷ xs) unused l = none-after xs unused (omega arith)

abbrev AreEight : List (List ℕ) → Type 0
AreEight fs = All (λ f. length f ≡ 8) fs

-- the bytes of consecutive frames, of which the last may have others after its own
later-bytes : (n j : ℕ) (xs : List ℕ) (fs : List (List ℕ)) → length xs ≤ 6 * j → j ≤ length fs → ((k : ℕ) → k < j → Carries n (take 6 (drop (6 * k) xs)) (slice_index_or fs k [])) → AreEight fs
    → take (length xs) (concat (map (drop 2) fs)) ≡ xs
later-bytes n j [] fs l more each eight = refl
later-bytes n zero (a ∷ xs) fs l more each eight = absurd (omega arith)
later-bytes n (suc j) (a ∷ xs) [] l more each eight = absurd (omega arith)
later-bytes n (suc j) (a ∷ []) (f ∷ fs) l more each eight = let h : Carries n (a ∷ []) f = each 0 (omega arith) in rw h.is
later-bytes n (suc j) (a ∷ b ∷ []) (f ∷ fs) l more each eight = let h : Carries n (a ∷ b ∷ []) f = each 0 (omega arith) in rw h.is
later-bytes n (suc j) (a ∷ b ∷ c ∷ []) (f ∷ fs) l more each eight = let h : Carries n (a ∷ b ∷ c ∷ []) f = each 0 (omega arith) in rw h.is
later-bytes n (suc j) (a ∷ b ∷ c ∷ d ∷ []) (f ∷ fs) l more each eight = let h : Carries n (a ∷ b ∷ c ∷ d ∷ []) f = each 0 (omega arith) in rw h.is
later-bytes n (suc j) (a ∷ b ∷ c ∷ d ∷ e ∷ []) (f ∷ fs) l more each eight = let h : Carries n (a ∷ b ∷ c ∷ d ∷ e ∷ []) f = each 0 (omega arith) in rw h.is
later-bytes n (suc j) (a ∷ b ∷ c ∷ d ∷ e ∷ g ∷ xs) (f ∷ fs) l more each eight =
    let six : List ℕ = a ∷ b ∷ c ∷ d ∷ e ∷ g ∷ []
    in let h : Carries n six f = each 0 (omega arith)
    in let whole : length f ≡ 8 = eight 0 [] (omega arith)
    in let none : h.unused ≡ [] = none-after six h.unused (let w : length (n ∷ h.pci ∷ (six ++ h.unused)) ≡ 8 = rw h.is at whole in omega arith)
    in let later : (k : ℕ) → k < j → Carries n (take 6 (drop (6 * k) xs)) (slice_index_or fs k [])
    = λ k i. let s = each (suc k) (omega arith) in rw (sixth k) at s
    in rw (h.is, none) (ap (λ (ys : List ℕ). a ∷ b ∷ c ∷ d ∷ e ∷ g ∷ ys) (later-bytes n j xs fs (omega (arith, six-suc j)) (omega arith) later (All-tail (λ f. length f ≡ 8) f fs eight)))

-- the bytes of a message, where a piece begins with its frames
short-bytes : (n : ℕ) (m unused : List ℕ) (fs : List (List ℕ)) → length m ≤ 6 → take (length_in (n ∷ length m ∷ (m ++ unused))) (message_bytes ((n ∷ length m ∷ (m ++ unused)) ∷ fs)) ≡ m
short-bytes n m unused fs l =
    let single : nat_lt (length m) 16 ≡ true = grind (arith, nat_tests)
    in rw (single, append_assoc m unused (concat (map (drop 2) fs))) (take-append_seam m (unused ++ concat (map (drop 2) fs)))

long-bytes : (n : ℕ) (m f : List ℕ) (fs : List (List ℕ)) → 7 ≤ length m → BeginsWith n m (f ∷ fs) → AreEight (f ∷ fs) → take (length_in f) (message_bytes (f ∷ fs)) ≡ m
long-bytes n m f fs l b eight =
    let h : nat_le (length m) 6 ≡ false = is-long m l
    in let few : length m ≤ 4095 = b.can.few
    in let count : frame_count (length m) ≡ suc (length m / 6) = count-suc m h
    in let first : HasFirst (n ∷ (16 + length m / 256) ∷ (length m % 256) ∷ take 5 m) f = rw h at (b.frames 0 (omega arith))
    in let five : length (take 5 m) ≡ 5 = simp length-take (omega arith)
    in let whole : length f ≡ 8 = eight 0 [] (omega arith)
    in let none : first.0 ≡ [] = none-after (take 5 m) first.0 (let w = rw first.1 at whole in omega arith)
    in let is : f ≡ n ∷ (16 + length m / 256) ∷ (length m % 256) ∷ take 5 m = first.1 ∙ rw (none, append-nil (take 5 m)) refl
    in let big : nat_lt (16 + length m / 256) 16 ≡ false = grind (arith, nat_tests)
    in let said : 256 * ((16 + length m / 256) % 16) + length m % 256 ≡ length (take 5 m) + length (drop 5 m) = rw (five, length-drop) (omega arith)
    in let later : (k : ℕ) → k < length m / 6 → Carries n (take 6 (drop (6 * k) (drop 5 m))) (slice_index_or fs k [])
    = λ k i. let s = b.frames (suc k) (omega arith) in record { pci = 32 + suc k % 16; unused = s.0; is = rw (drop-drop (6 * k) 5 m) s.1 }
    in let rest : take (length (drop 5 m)) (concat (map (drop 2) fs)) ≡ drop 5 m
    = later-bytes n (length m / 6) (drop 5 m) fs (rw length-drop (omega arith)) (let e = b.enough in omega arith) later (All-tail (λ x. length x ≡ 8) f fs eight)
    in rw (is, big, said, take-append-add (take 5 m) (concat (map (drop 2) fs)) (length (drop 5 m)), rest) (take-append-drop 5 m)

piece-bytes : (n : ℕ) (m f : List ℕ) (fs : List (List ℕ)) → BeginsWith n m (f ∷ fs) → AreEight (f ∷ fs) → take (length_in f) (message_bytes (f ∷ fs)) ≡ m
piece-bytes n m f fs b eight = elim (size m) [
  | short h l ↦
      let count : 1 ≤ frame_count (length m) = count-some m
      in let first : HasFirst (n ∷ length m ∷ m) f = rw h at (b.frames 0 (omega arith))
      in rw first.1 (short-bytes n m first.0 fs l)
  | long h l ↦ long-bytes n m f fs l b eight
]

-- a piece that begins with a message's frames is read as the message
begins-read : (n : ℕ) (m : List ℕ) (piece : List (List ℕ)) → AreEight piece → BeginsWith n m piece → message_in n piece ≡ Some m
begins-read n m [] eight b = absurd (let e = b.enough in let s = count-some m in omega arith)
begins-read n m (f ∷ fs) eight b =
    reads-by n m f fs b.can (all-begin (needed_frame n m) (frame_count (length m)) (f ∷ fs) (record { enough = b.enough; each = b.frames })) (piece-bytes n m f fs b eight)

pub reads-first : (n : ℕ) (m : List ℕ) (piece : List (List ℕ)) → ReadsFirstFrames n m piece
reads-first n m piece = λ eight. (read-begins n m piece, begins-read n m piece eight)
