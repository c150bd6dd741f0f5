-- What the frames of a partial message are read as, and what the next frame makes of it.
use Rattle.std.proofs.Common.{◌≡◌, ℕ, zero, suc, ◌+◌, ◌-◌, ◌*◌, ◌%◌, ◌/◌, ◌≤◌, ◌<◌, ◌≢◌, Bool, true, false, List, [], ◌∷◌, ◌++◌, length, take, drop, replicate, map, refl, ap, sym, ◌∙◌, arith, inl, inr, append_assoc, subst}
use Rattle.std.specs.Prelude.{Some, None, ◌&&◌, nat_le, nat_lt, slice_index}
use Rattle.std.specs.List.{concat, starts_with}
use Rattle.std.proofs.Math.Dec.{eqb}
use Rattle.std.proofs.Math.Nat.{eq-or-lt_of_le}
use Rattle.std.proofs.Math.Seq.{drop-append_seam, take-append-add, take-add}
use Rattle.std.proofs.lemmas.Bool.Decides.{nat_tests}
use Rattle.std.proofs.lemmas.Bool.{ne_eqb, false≢true}
use Rattle.std.proofs.lemmas.List.{map-append, take-append-le, take-append-drop, length-take, length-drop, length-append, length-map, length-replicate, take_all}
use Rattle.std.proofs.lemmas.List.Folds.{concat-append}
use Rattle.lin_frame.specs.Words.{numbers}
use Rattle.lin_transport.specs.Words.{begin_with}
use Rattle.lin_transport.specs.Transport.{needed_frame, frame, first_frames, frame_count, message_bytes, message_in, CanSend}
use Rattle.lin_transport.specs.Receiver.{Part, AreFirst}
use Rattle.lin_transport.proofs.Frames.{eqb-self, frame-address, numbers-suc, first-more, first-cons, length-first, length-numbers, begin-needed, begin-not, and-false, count-suc, chunks, chunks-suc, chunks-are, length_in-long, first-five, six-suc, reads-none, reads-by}

pub is-long : (m : List ℕ) → 7 ≤ length m → nat_le (length m) 6 ≡ false
is-long m l = grind (arith, nat_tests)

pub sixth : (n : ℕ) → 6 * suc n ≡ suc (suc (suc (suc (suc (suc (6 * n))))))
sixth n = omega arith

-- as many consecutive frames as are full have the bytes after the first frame
pub chunks-full : (n : ℕ) (xs : List ℕ) → 6 * n ≤ length xs → chunks xs n ≡ take (6 * n) xs
chunks-full zero xs h = refl
chunks-full (suc n) [] h = absurd (omega arith)
chunks-full (suc n) (a ∷ []) h = absurd (omega arith)
chunks-full (suc n) (a ∷ b ∷ []) h = absurd (omega arith)
chunks-full (suc n) (a ∷ b ∷ c ∷ []) h = absurd (omega arith)
chunks-full (suc n) (a ∷ b ∷ c ∷ d ∷ []) h = absurd (omega arith)
chunks-full (suc n) (a ∷ b ∷ c ∷ d ∷ e ∷ []) h = absurd (omega arith)
chunks-full (suc n) (a ∷ b ∷ c ∷ d ∷ e ∷ f ∷ xs) h =
    rw (chunks-suc (a ∷ b ∷ c ∷ d ∷ e ∷ f ∷ xs) n, sixth n) (ap (λ (ys : List ℕ). a ∷ b ∷ c ∷ d ∷ e ∷ f ∷ ys) (chunks-full n xs (omega (arith, six-suc n))))

-- the frames of a part have exactly its bytes, and more frames have more after them
pub bytes_in-first : (n : ℕ) (m : List ℕ) (k : ℕ) (more : List (List ℕ)) → CanSend m → 7 ≤ length m → 5 + 6 * k ≤ length m
    → message_bytes (first_frames n m (suc k) ++ more) ≡ take (5 + 6 * k) m ++ concat (map (drop 2) more)
bytes_in-first n m k more s l full =
    let h : nat_le (length m) 6 ≡ false = is-long m l
    in let few : length m ≤ 4095 = s.few
    in let big : nat_lt (16 + length m / 256) 16 ≡ false = grind (arith, nat_tests)
    in let later : List (List ℕ) = map (frame n m) (map suc (numbers k))
    in let all : concat (map (drop 2) (later ++ more)) ≡ chunks (drop 5 m) k ++ concat (map (drop 2) more)
    = ap concat (map-append (drop 2) later more) ∙ concat-append (map (drop 2) later) (map (drop 2) more)
    ∙ ap (λ (xs : List (List ℕ)). concat xs ++ concat (map (drop 2) more)) (chunks-are n m (numbers k))
    in let after : chunks (drop 5 m) k ≡ take (6 * k) (drop 5 m) = chunks-full k (drop 5 m) (simp length-drop (omega arith))
    in ap (λ (fs : List (List ℕ)). message_bytes (fs ++ more)) (first-cons n m k)
    ∙ rw (h, big, first-five m l, all, after, ← append_assoc, ← take-add 5 (6 * k) m) refl

pub map-suc : (g : ℕ → List ℕ) (ks : List ℕ) → map g (map suc ks) ≡ map (λ k. g (suc k)) ks
map-suc g [] = refl
map-suc g (k ∷ ks) = ap (λ (xs : List (List ℕ)). g (suc k) ∷ xs) (map-suc g ks)

and-true : (b : Bool) → (b && true) ≡ b
and-true true = refl
and-true false = refl

begin-after-by : (xs more : List (List ℕ)) (f y : List ℕ) (ys : List (List ℕ)) (b : Bool) → (b && begin_with xs ys) ≡ true
    → (begin_with xs ys ≡ true → begin_with (xs ++ f ∷ more) (ys ++ y ∷ []) ≡ starts_with eqb f y)
    → (b && begin_with (xs ++ f ∷ more) (ys ++ y ∷ [])) ≡ starts_with eqb f y
begin-after-by xs more f y ys true h k = k h
begin-after-by xs more f y ys false h k = absurd (false≢true h)

-- after the frames of a part, the message's frames want the next one to be its own
begin-after : (xs more : List (List ℕ)) (f y : List ℕ) (ys : List (List ℕ)) → length xs ≡ length ys → begin_with xs ys ≡ true → begin_with (xs ++ f ∷ more) (ys ++ y ∷ []) ≡ starts_with eqb f y
begin-after [] more f y [] l h = and-true (starts_with eqb f y)
begin-after [] more f y (z ∷ ys) l h = absurd (omega arith)
begin-after (x ∷ xs) more f y [] l h = absurd (omega arith)
begin-after (x ∷ xs) more f y (z ∷ ys) l h = begin-after-by xs more f y ys (starts_with eqb x z) h (λ k. begin-after xs more f y ys (omega arith) k)

-- a part is read as nothing
pub part-fails : (n : ℕ) (m : List ℕ) (k : ℕ) → CanSend m → 7 ≤ length m → 5 + 6 * k < length m → message_in n (first_frames n m (suc k)) ≡ None
part-fails n m k s l more = reads-none n m k s (let c = count-suc m (is-long m l) in omega arith)

starts-part : (k j : ℕ) (xs : List ℕ) → starts_with eqb xs (take k (take j xs)) ≡ true
starts-part zero j xs = refl
starts-part (suc k) zero xs = refl
starts-part (suc k) (suc j) [] = refl
starts-part (suc k) (suc j) (x ∷ xs) = rw (eqb-self x) (starts-part k j xs)

completed-bytes : (n : ℕ) (m : List ℕ) (k : ℕ) (f c : List ℕ) (more : List (List ℕ)) → CanSend m → 7 ≤ length m → 5 + 6 * k < length m → length m ≤ 11 + 6 * k → length c ≡ 6 → drop 2 f ≡ c
    → drop (5 + 6 * k) m ≡ take (length m - (5 + 6 * k)) c → take (length m) (message_bytes (first_frames n m (suc k) ++ f ∷ more)) ≡ m
completed-bytes n m k f c more s l low high six d last =
    let part : ℕ = 5 + 6 * k
    in let front : List ℕ = take part m
    in let missing : ℕ = length m - part
    in let after : List ℕ = concat (map (drop 2) more)
    in let full : length front ≡ part = simp length-take (omega arith)
    in let sum : length m ≡ length front + missing = omega arith
    in let fits : missing ≤ length c = omega arith
    in ap (take (length m)) (bytes_in-first n m k (f ∷ more) s l (omega arith))
    ∙ ap (λ (xs : List ℕ). take (length m) (front ++ (xs ++ after))) d
    ∙ ap (λ (j : ℕ). take j (front ++ (c ++ after))) sum
    ∙ take-append-add front (c ++ after) missing
    ∙ ap (λ (xs : List ℕ). front ++ xs) (take-append-le missing c after fits ∙ sym last)
    ∙ take-append-drop part m

completed-count : (m : List ℕ) (k : ℕ) → 7 ≤ length m → 5 + 6 * k < length m → length m ≤ 11 + 6 * k → frame_count (length m) ≡ suc (suc k)
completed-count m k l low high = count-suc m (is-long m l) ∙ ap suc (omega arith)

-- with the last frame after it, it is read as the message, whatever comes after that
pub completed-reads : (n : ℕ) (m : List ℕ) (k : ℕ) (c : List ℕ) (more : List (List ℕ)) → CanSend m → 7 ≤ length m → 5 + 6 * k < length m → length m ≤ 11 + 6 * k → length c ≡ 6
    → drop (5 + 6 * k) m ≡ take (length m - (5 + 6 * k)) c → message_in n (first_frames n m (suc k) ++ (n ∷ (32 + suc k % 16) ∷ c) ∷ more) ≡ Some m
completed-reads n m k c more s l low high six last =
    let f : List ℕ = n ∷ (32 + suc k % 16) ∷ c
    in let later : List (List ℕ) = map (frame n m) (map suc (numbers k))
    in let whole : take (length m) (message_bytes (first_frames n m (suc k) ++ f ∷ more)) ≡ m = completed-bytes n m k f c more s l low high six refl last
    in let own : starts_with eqb c (take 6 (drop (5 + 6 * k) m)) ≡ true = rw last (starts-part 6 (length m - (5 + 6 * k)) c)
    in let all : begin_with (first_frames n m (suc k) ++ f ∷ more) (map (needed_frame n m) (numbers (frame_count (length m)))) ≡ true
    = ap (λ (j : ℕ). begin_with (first_frames n m (suc k) ++ f ∷ more) (map (needed_frame n m) (numbers j))) (completed-count m k l low high)
    ∙ ap (begin_with (first_frames n m (suc k) ++ f ∷ more)) (map-append (needed_frame n m) (numbers (suc k)) (suc k ∷ []))
    ∙ begin-after (first_frames n m (suc k)) more f (needed_frame n m (suc k)) (map (needed_frame n m) (numbers (suc k)))
    (length-first n m (suc k) ∙ sym (length-map (numbers (suc k)) (needed_frame n m) ∙ length-numbers (suc k)))
    (begin-needed n m (numbers (suc k)))
    ∙ rw (eqb-self n, eqb-self (32 + suc k % 16)) own
    in let start : first_frames n m (suc k) ++ f ∷ more ≡ frame n m 0 ∷ (later ++ f ∷ more) = ap (λ (fs : List (List ℕ)). fs ++ f ∷ more) (first-cons n m k)
    in let P : List (List ℕ) → Type 0 = λ fs. begin_with fs (map (needed_frame n m) (numbers (frame_count (length m)))) ≡ true
    in let Q : List (List ℕ) → Type 0 = λ fs. take (length m) (message_bytes fs) ≡ m
    in ap (message_in n) start
    ∙ reads-by n m (frame n m 0) (later ++ f ∷ more) s (subst P start all) (rw (length_in-long n m s (is-long m l)) (subst Q start whole))

-- a list of frames that has another frame at a place where a message wants its own
begin-at : (g : ℕ → List ℕ) (xs more : List (List ℕ)) (f : List ℕ) (j : ℕ) → length xs < j → starts_with eqb f (g (length xs)) ≡ false → begin_with (xs ++ f ∷ more) (map g (numbers j)) ≡ false
begin-at g xs more f zero l h = absurd (omega arith)
begin-at g [] more f (suc j) l h = rw (numbers-suc j, h)
begin-at g (x ∷ xs) more f (suc j) l h =
    ap (λ (ks : List ℕ). begin_with (x ∷ xs ++ f ∷ more) (map g ks)) (numbers-suc j)
    ∙ ap (λ (b : Bool). starts_with eqb x (g 0) && b) (ap (begin_with (xs ++ f ∷ more)) (map-suc g (numbers j)) ∙ begin-at (λ k. g (suc k)) xs more f j (omega arith) h)
    ∙ and-false (starts_with eqb x (g 0))

-- bytes for what is missing, of no meaning
abbrev pub any_rest : Part → List ℕ
any_rest part = replicate (part.size - length part.bytes) 0

pub any-fits : (n : ℕ) (part : Part) (fs : List (List ℕ)) → AreFirst n part fs → length part.bytes + length (any_rest part) ≡ part.size
any-fits n part fs a = rw (length-replicate {A = ℕ} (part.size - length part.bytes) 0) (let l = a.bytes in let r = a.more in omega arith)

pub rest-size : (part : Part) (rest : List ℕ) → length part.bytes + length rest ≡ part.size → length (part.bytes ++ rest) ≡ part.size
rest-size part rest e = length-append part.bytes rest ∙ e

pub rest-can : (n : ℕ) (part : Part) (fs : List (List ℕ)) (rest : List ℕ) → AreFirst n part fs → length part.bytes + length rest ≡ part.size → CanSend (part.bytes ++ rest)
rest-can n part fs rest a e = record {
  some = let l = rest-size part rest e in let r = a.long in omega arith;
  few = let l = rest-size part rest e in let r = a.few in omega arith;
}

-- the frames of a partial message are read as nothing
pub first-fail : (n : ℕ) (part : Part) (fs : List (List ℕ)) → AreFirst n part fs → message_in n fs ≡ None
first-fail n part fs a =
    let rest : List ℕ = any_rest part
    in let e = any-fits n part fs a
    in let l = rest-size part rest e
    in let low : 7 ≤ length (part.bytes ++ rest) = let r = a.long in omega arith
    in let more : 5 + 6 * a.consecutive < length (part.bytes ++ rest) = let r = a.more in omega arith
    in ap (message_in n) (a.frames rest e) ∙ part-fails n (part.bytes ++ rest) a.consecutive (rest-can n part fs rest a e) low more

-- the next consecutive frame, where it isn't the last
pub first-continues : (n : ℕ) (part : Part) (fs : List (List ℕ)) (c : List ℕ) → (a : AreFirst n part fs) → length c ≡ 6 → 11 + 6 * a.consecutive < part.size
    → AreFirst n (record { bytes = part.bytes ++ c; size = part.size }) (fs ++ (n ∷ (32 + suc a.consecutive % 16) ∷ c) ∷ [])
first-continues n part fs c a six more = record {
  long = a.long;
  few = a.few;
  consecutive = suc a.consecutive;
  bytes = rw (length-append part.bytes c) (let l = a.bytes in omega arith);
  more = omega arith;
  frames = λ rest e.
      let k : ℕ = a.consecutive
      in let m : List ℕ = part.bytes ++ (c ++ rest)
      in let fits : length part.bytes + length (c ++ rest) ≡ part.size = rw (length-append c rest) (let q = length-append part.bytes c in omega (arith, e))
      in let after : drop (5 + 6 * k) m ≡ c ++ rest = ap (λ (j : ℕ). drop j m) (sym a.bytes) ∙ drop-append_seam part.bytes (c ++ rest)
      in let own : take 6 (c ++ rest) ≡ c = take-append-le 6 c rest (omega arith) ∙ take_all 6 c (omega arith)
      in let whole : take 6 (c ++ replicate 8 255) ≡ c = take-append-le 6 c (replicate 8 255) (omega arith) ∙ take_all 6 c (omega arith)
      in let last : frame n m (suc k) ≡ n ∷ (32 + suc k % 16) ∷ c = rw (after, own, whole)
      in ap (λ (xs : List (List ℕ)). xs ++ (n ∷ (32 + suc k % 16) ∷ c) ∷ []) (a.frames (c ++ rest) fits)
      ∙ ap (λ (f : List ℕ). first_frames n m (suc k) ++ f ∷ []) (sym last)
      ∙ sym (first-more n m (suc k))
      ∙ ap (λ (xs : List ℕ). first_frames n xs (suc (suc k))) (sym (append_assoc part.bytes c rest));
}

-- the last one: the frames are read as the message, whatever comes after them
pub first-completes : (n : ℕ) (part : Part) (fs : List (List ℕ)) (c : List ℕ) (more : List (List ℕ)) → (a : AreFirst n part fs) → length c ≡ 6 → part.size ≤ 11 + 6 * a.consecutive
    → message_in n (fs ++ (n ∷ (32 + suc a.consecutive % 16) ∷ c) ∷ more) ≡ Some (part.bytes ++ take (part.size - length part.bytes) c)
first-completes n part fs c more a six few =
    let k : ℕ = a.consecutive
    in let missing : ℕ = part.size - length part.bytes
    in let rest : List ℕ = take missing c
    in let m : List ℕ = part.bytes ++ rest
    in let e : length part.bytes + length rest ≡ part.size = simp length-take (let l = a.bytes in let r = a.more in omega arith)
    in let l : length m ≡ part.size = rest-size part rest e
    in let after : drop (5 + 6 * k) m ≡ take (length m - (5 + 6 * k)) c
    = ap (λ (j : ℕ). drop j m) (sym a.bytes) ∙ drop-append_seam part.bytes rest
    ∙ ap (λ (j : ℕ). take j c) (let q = a.bytes in omega arith)
    in ap (λ (xs : List (List ℕ)). message_in n (xs ++ (n ∷ (32 + suc k % 16) ∷ c) ∷ more)) (a.frames rest e)
    ∙ completed-reads n m k c more (rest-can n part fs rest a e) (let r = a.long in omega arith) (let r = a.more in omega arith) (omega arith) six after

starts-other : (n b p q : ℕ) (c xs : List ℕ) → p ≢ q → starts_with eqb (b ∷ p ∷ c) (n ∷ q ∷ xs) ≡ false
starts-other n b p q c xs ne = rw (ne_eqb q p (λ e. ne (sym e))) (and-false (eqb n b))

-- a piece that has another frame in place of the message's next one
breaks-by : (n : ℕ) (m : List ℕ) (k : ℕ) (f : List ℕ) (more : List (List ℕ)) → CanSend m → 7 ≤ length m → 5 + 6 * k < length m
    → ((o : List ℕ) → starts_with eqb f (needed_frame n o (suc k)) ≡ false)
    → (o : List ℕ) → length o ≤ length m → begin_with (first_frames n m (suc k) ++ f ∷ more) (map (needed_frame n o) (numbers (frame_count (length o)))) ≡ false
breaks-by n m k f more s l high h o le = elim (eq-or-lt_of_le le) [
  | inr less ↦
      ap (λ (xs : List (List ℕ)). begin_with (xs ++ f ∷ more) (map (needed_frame n o) (numbers (frame_count (length o))))) (first-cons n m k)
      ∙ begin-not n m o (map (frame n m) (map suc (numbers k)) ++ f ∷ more) s (is-long m l) l less
  | inl same ↦
      let place : length (first_frames n m (suc k)) ≡ suc k = length-first n m (suc k)
      in let count : frame_count (length o) ≡ suc (length m / 6) = ap frame_count same ∙ count-suc m (is-long m l)
      in let at : starts_with eqb f (needed_frame n o (length (first_frames n m (suc k)))) ≡ false = ap (λ (j : ℕ). starts_with eqb f (needed_frame n o j)) place ∙ h o
      in begin-at (needed_frame n o) (first_frames n m (suc k)) more f (frame_count (length o)) (omega arith) at
]

breaks : (n : ℕ) (m : List ℕ) (k : ℕ) (f : List ℕ) (more : List (List ℕ)) → CanSend m → 7 ≤ length m → 5 + 6 * k < length m
    → ((o : List ℕ) → starts_with eqb f (needed_frame n o (suc k)) ≡ false) → message_in n (first_frames n m (suc k) ++ f ∷ more) ≡ None
breaks n m k f more s l high h =
    let later : List (List ℕ) = map (frame n m) (map suc (numbers k)) ++ f ∷ more
    in let start : first_frames n m (suc k) ++ f ∷ more ≡ frame n m 0 ∷ later = ap (λ (fs : List (List ℕ)). fs ++ f ∷ more) (first-cons n m k)
    in let o : List ℕ = take (length m) (message_bytes (frame n m 0 ∷ later))
    in let fails : begin_with (frame n m 0 ∷ later) (map (needed_frame n o) (numbers (frame_count (length o)))) ≡ false
    = ap (λ (xs : List (List ℕ)). begin_with xs (map (needed_frame n o) (numbers (frame_count (length o))))) (sym start)
    ∙ breaks-by n m k f more s l high h o (simp length-take (omega arith))
    in ap (message_in n) start ∙ rw (length_in-long n m s (is-long m l), fails, and-false)

-- another frame that begins nothing: the frames are never read as a message
breaks-part : (n : ℕ) (part : Part) (fs : List (List ℕ)) (f : List ℕ) (more : List (List ℕ)) → (a : AreFirst n part fs) → ((o : List ℕ) → starts_with eqb f (needed_frame n o (suc a.consecutive)) ≡ false)
    → message_in n (fs ++ f ∷ more) ≡ None
breaks-part n part fs f more a other =
    let k : ℕ = a.consecutive
    in let rest : List ℕ = any_rest part
    in let m : List ℕ = part.bytes ++ rest
    in let e = any-fits n part fs a
    in let l : length m ≡ part.size = rest-size part rest e
    in let many : 7 ≤ length m = let r = a.long in omega arith
    in let high : 5 + 6 * k < length m = let r = a.more in omega arith
    in ap (λ (xs : List (List ℕ)). message_in n (xs ++ f ∷ more)) (a.frames rest e)
    ∙ breaks n m k f more (rest-can n part fs rest a e) many high other

-- by its PCI
pub first-breaks : (n : ℕ) (part : Part) (fs : List (List ℕ)) (b p : ℕ) (c : List ℕ) (more : List (List ℕ)) → (a : AreFirst n part fs) → p ≢ 32 + suc a.consecutive % 16
    → message_in n (fs ++ (b ∷ p ∷ c) ∷ more) ≡ None
first-breaks n part fs b p c more a other = breaks-part n part fs (b ∷ p ∷ c) more a (λ o. starts-other n b p (32 + suc a.consecutive % 16) c (take 6 (drop (5 + 6 * a.consecutive) o)) other)

-- by its address
pub first-foreign : (n : ℕ) (part : Part) (fs : List (List ℕ)) (b : ℕ) (c : List ℕ) (more : List (List ℕ)) → AreFirst n part fs → b ≢ n → message_in n (fs ++ (b ∷ c) ∷ more) ≡ None
first-foreign n part fs b c more a other =
    let differ : eqb n b ≡ false = ne_eqb n b (λ e. other (sym e))
    in breaks-part n part fs (b ∷ c) more a (λ o. rw differ)

-- a piece that begins with these frames begins with one to the address
pub first-head : (n : ℕ) (part : Part) (fs : List (List ℕ)) → AreFirst n part fs → (f : List ℕ) × (gs : List (List ℕ)) × (fs ≡ f ∷ gs) × (slice_index f 0 ≡ n)
first-head n part fs a =
    let m : List ℕ = part.bytes ++ any_rest part
    in let k : ℕ = a.consecutive
    in (
      frame n m 0,
      map (frame n m) (map suc (numbers k)),
      a.frames (any_rest part) (any-fits n part fs a) ∙ first-cons n m k,
      frame-address n m 0,
    )
