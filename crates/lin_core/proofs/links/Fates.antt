-- What becomes of a message by the block of its frames.
use Rattle.std.proofs.Common.{◌≡◌, ℕ, zero, suc, ◌≤◌, ◌<◌, Bool, true, false, List, [], ◌∷◌, ◌++◌, length, map, refl, ap, sym, ◌∙◌, arith, inl, inr, append_assoc}
use Rattle.std.specs.Prelude.{Option, Some, None, cond, eqb, ◌&&◌, ◌||◌}
use Rattle.std.specs.List.{list_any, list_all}
use Rattle.std.proofs.lemmas.Bool.Decides.{eqb_tells}
use Rattle.std.proofs.lemmas.List.{append-nil, map-append}
use Rattle.lin_frame.specs.Words.{numbers}
use Rattle.std.specs.Cmp.Lexicographic.{pointwise}
use Rattle.std.specs.Option.{option_map_or}
use Rattle.lin_transport.specs.Transport.{frame, frames, frame_count, first_frames}
use Rattle.lin_core.specs.Links.{Sign, Fate, fate, is_waiting, block_frames, before_mark, first_mark, is_damaged, is_good_sign, begins_good, same_frames}
use Rattle.lin_core.specs.Links.Sign.{Put, Mark}
use Rattle.lin_core.specs.Links.Fate.{Waiting, Sent, Lost}
use Rattle.lin_core.specs.Law.{IsPrefix}
use Rattle.lin_core.specs.Slots.{with_classic}
use Rattle.lin_core.specs.declared.link.Cause.{Cause}
use Rattle.lin_core.specs.declared.link.Cause.TheVariants.{Damaged}
use Rattle.lin_core.specs.declared.event.Seen.{Seen}
use Rattle.lin_core.specs.declared.event.Seen.TheVariants.{Good, Damaged as SeenDamaged}
use Rattle.lin_transport.proofs.Frames.{first-cons, and-false, eqb-self, length-first, first-more}

-- a frame that was seen good, and one that was seen damaged
abbrev pub good_sign : List ℕ → Sign
good_sign f = Put f (Some (Good (with_classic f)))

abbrev pub hurt_sign : List ℕ → Sign
hurt_sign f = Put f (Some SeenDamaged)

-- the block of the first k frames, each seen good
abbrev pub goods : ℕ → List ℕ → ℕ → List Sign
goods n m k = map good_sign (map (frame n m) (numbers k))

-- a mark after a block changes no fate but Waiting
pub damaged-mark : (b : List Sign) (c : Cause) → list_any is_damaged (b ++ Mark c ∷ []) ≡ list_any is_damaged b
damaged-mark [] c = refl
damaged-mark (s ∷ b) c = ap (λ x. is_damaged s || x) (damaged-mark b c)

pub before-mark : (b : List Sign) (c : Cause) → before_mark (b ++ Mark c ∷ []) ≡ before_mark b
before-mark [] c = refl
before-mark (Put f how ∷ b) c = ap (λ (x : List Sign). Put f how ∷ x) (before-mark b c)
before-mark (Mark d ∷ b) c = refl

pub frames-mark : (b : List Sign) (c : Cause) → block_frames (b ++ Mark c ∷ []) ≡ block_frames b
frames-mark [] c = refl
frames-mark (Put f how ∷ b) c = ap (λ (x : List (List ℕ)). f ∷ x) (frames-mark b c)
frames-mark (Mark d ∷ b) c = frames-mark b c

pub first-mark : (b : List Sign) (c : Cause) → first_mark (b ++ Mark c ∷ []) ≡ option_map_or (λ d. Some d) (first_mark b) (Some c)
first-mark [] c = refl
first-mark (Put f how ∷ b) c = first-mark b c
first-mark (Mark d ∷ b) c = refl

-- the fate by what it reads of a block
abbrev fate_by : Bool → Bool → Option Cause → Bool → Fate
fate_by hurt whole mark begun = cond hurt (Lost Damaged) (cond whole Sent (option_map_or (λ cause. cond begun (Lost cause) Waiting) mark Waiting))

settled-by : (hurt whole : Bool) (mark : Option Cause) (begun : Bool) (c : Cause) → is_waiting (fate_by hurt whole mark begun) ≡ false
    → fate_by hurt whole (option_map_or (λ d. Some d) mark (Some c)) begun ≡ fate_by hurt whole mark begun
settled-by true whole mark begun c h = refl
settled-by false true mark begun c h = refl
settled-by false false None begun c h = cc
settled-by false false (Some d) begun c h = refl

pub mark-keeps : (fs : List (List ℕ)) (b : List Sign) (c : Cause) → is_waiting (fate fs b) ≡ false → fate fs (b ++ Mark c ∷ []) ≡ fate fs b
mark-keeps fs [] c h = refl
mark-keeps fs (s ∷ b) c h =
    rw (damaged-mark (s ∷ b) c, before-mark (s ∷ b) c, first-mark (s ∷ b) c)
    (settled-by (list_any is_damaged (s ∷ b)) (list_all is_good_sign (before_mark (s ∷ b)) && same_frames (block_frames (before_mark (s ∷ b))) fs) (first_mark (s ∷ b)) (is_good_sign s) c h)

-- blocks of good frames
pub goods-whole : (fs : List (List ℕ)) → before_mark (map good_sign fs) ≡ map good_sign fs
goods-whole [] = refl
goods-whole (f ∷ fs) = ap (λ (x : List Sign). good_sign f ∷ x) (goods-whole fs)

pub goods-frames : (fs : List (List ℕ)) → block_frames (map good_sign fs) ≡ fs
goods-frames [] = refl
goods-frames (f ∷ fs) = ap (λ (x : List (List ℕ)). f ∷ x) (goods-frames fs)

pub goods-good : (fs : List (List ℕ)) → list_all is_good_sign (map good_sign fs) ≡ true
goods-good [] = refl
goods-good (f ∷ fs) = goods-good fs

pub goods-unhurt : (fs : List (List ℕ)) → list_any is_damaged (map good_sign fs) ≡ false
goods-unhurt [] = refl
goods-unhurt (f ∷ fs) = goods-unhurt fs

pub goods-unmarked : (fs : List (List ℕ)) → first_mark (map good_sign fs) ≡ None
goods-unmarked [] = refl
goods-unmarked (f ∷ fs) = goods-unmarked fs

pub same_bytes-self : (xs : List ℕ) → pointwise eqb xs xs ≡ true
same_bytes-self [] = refl
same_bytes-self (x ∷ xs) = rw (eqb-self x) (same_bytes-self xs)

pub same_frames-self : (xs : List (List ℕ)) → same_frames xs xs ≡ true
same_frames-self [] = refl
same_frames-self (x ∷ xs) = rw (same_bytes-self x) (same_frames-self xs)

pub same_frames-fewer : (xs ys : List (List ℕ)) → length xs < length ys → same_frames xs ys ≡ false
same_frames-fewer [] [] h = absurd (omega arith)
same_frames-fewer [] (y ∷ ys) h = refl
same_frames-fewer (x ∷ xs) [] h = absurd (omega arith)
same_frames-fewer (x ∷ xs) (y ∷ ys) h = rw (same_frames-fewer xs ys (omega arith)) (and-false (pointwise eqb x y))

-- all frames good: sent
pub goods-sent : (n : ℕ) (m : List ℕ) → fate (frames n m) (goods n m (frame_count (length m))) ≡ Sent
goods-sent n m = rw (goods-unhurt (frames n m), goods-whole (frames n m), goods-good (frames n m), goods-frames (frames n m), same_frames-self (frames n m))

-- some of them: begun
pub goods-wait : (n : ℕ) (m : List ℕ) (k : ℕ) → k < frame_count (length m) → fate (frames n m) (goods n m k) ≡ Waiting
goods-wait n m k l =
    let fewer : same_frames (first_frames n m k) (frames n m) ≡ false = same_frames-fewer (first_frames n m k) (frames n m) (rw (length-first n m k, length-first n m (frame_count (length m))) l)
    in rw (goods-unhurt (first_frames n m k), goods-whole (first_frames n m k), goods-good (first_frames n m k), goods-frames (first_frames n m k), fewer, goods-unmarked (first_frames n m k))

-- some of them, and a mark: lost
pub fate-is : (fs : List (List ℕ)) (b before : List Sign) (whole : Bool) (mark : Option Cause) → list_any is_damaged b ≡ false → before_mark b ≡ before
    → (list_all is_good_sign before && same_frames (block_frames before) fs) ≡ whole → first_mark b ≡ mark → fate fs b ≡ fate_by false whole mark (begins_good b)
fate-is fs b before whole mark p q r t = rw (p, q, r, t)

pub cut-lost : (f : List ℕ) (ps fs : List (List ℕ)) (c : Cause) → length (f ∷ ps) < length fs → fate fs (map good_sign (f ∷ ps) ++ Mark c ∷ []) ≡ Lost c
cut-lost f ps fs c l =
    let fewer : same_frames (f ∷ ps) fs ≡ false = same_frames-fewer (f ∷ ps) fs l
    in fate-is fs (map good_sign (f ∷ ps) ++ Mark c ∷ []) (map good_sign (f ∷ ps)) false (Some c)
    (damaged-mark (map good_sign (f ∷ ps)) c ∙ goods-unhurt (f ∷ ps))
    (before-mark (map good_sign (f ∷ ps)) c ∙ goods-whole (f ∷ ps))
    (rw (goods-good ps) (ap (λ (xs : List (List ℕ)). same_frames xs fs) (goods-frames (f ∷ ps)) ∙ fewer))
    (first-mark (map good_sign (f ∷ ps)) c ∙ ap (λ (o : Option Cause). option_map_or (λ d. Some d) o (Some c)) (goods-unmarked (f ∷ ps)))

pub goods-cut : (n : ℕ) (m : List ℕ) (k : ℕ) (c : Cause) → suc k < frame_count (length m) → fate (frames n m) (goods n m (suc k) ++ Mark c ∷ []) ≡ Lost c
goods-cut n m k c l =
    let e : first_frames n m (suc k) ≡ frame n m 0 ∷ map (frame n m) (map suc (numbers k)) = first-cons n m k
    in ap (λ (fs : List (List ℕ)). fate (frames n m) (map good_sign fs ++ Mark c ∷ [])) e
    ∙ cut-lost (frame n m 0) (map (frame n m) (map suc (numbers k))) (frames n m) c
    (let x = ap length e in let y = length-first n m (suc k) in let z = length-first n m (frame_count (length m)) in omega arith)

pub or-true : (b : Bool) → (b || true) ≡ true
or-true true = refl
or-true false = refl

-- a damaged one after them: lost
pub any-hurt : (b : List Sign) (f : List ℕ) → list_any is_damaged (b ++ hurt_sign f ∷ []) ≡ true
any-hurt [] f = refl
any-hurt (s ∷ b) f = rw (any-hurt b f) (or-true (is_damaged s))

pub goods-hurt : (n : ℕ) (m : List ℕ) (k : ℕ) (f : List ℕ) → fate (frames n m) (goods n m k ++ hurt_sign f ∷ []) ≡ Lost Damaged
goods-hurt n m k f = rw (any-hurt (goods n m k) f)

-- the beginnings of a message's frames
pub numbers-begin : (n k : ℕ) → k ≤ n → (zs : List ℕ) × (numbers n ≡ numbers k ++ zs)
numbers-begin zero k h = let z : k ≡ 0 = omega arith in rw z ([], refl)
numbers-begin (suc n) k h = elim (eqb_tells k (suc n)) [
  | inl same ↦ let z : k ≡ suc n = same.1 in rw z ([], sym (append-nil (numbers (suc n))))
  | inr differ ↦
      let d = differ.1
      in let r : (zs : List ℕ) × (numbers n ≡ numbers k ++ zs) = numbers-begin n k (omega arith)
      in (r.0 ++ n ∷ [], ap (λ (xs : List ℕ). xs ++ n ∷ []) r.1 ∙ append_assoc (numbers k) r.0 (n ∷ []))
]

pub first-prefix : (n : ℕ) (m : List ℕ) (k : ℕ) → k ≤ frame_count (length m) → IsPrefix (first_frames n m k) (frames n m)
first-prefix n m k h =
    let r = numbers-begin (frame_count (length m)) k h
    in (map (frame n m) r.0, ap (map (frame n m)) r.1 ∙ map-append (frame n m) (numbers k) r.0)

pub frames_of-append : (b d : List Sign) → block_frames (b ++ d) ≡ block_frames b ++ block_frames d
frames_of-append [] d = refl
frames_of-append (Put f how ∷ b) d = ap (λ (x : List (List ℕ)). f ∷ x) (frames_of-append b d)
frames_of-append (Mark c ∷ b) d = frames_of-append b d

pub goods-prefix : (n : ℕ) (m : List ℕ) (k : ℕ) → k ≤ frame_count (length m) → IsPrefix (block_frames (goods n m k)) (frames n m)
goods-prefix n m k h = rw (goods-frames (first_frames n m k)) (first-prefix n m k h)

-- the same with one more frame after them, however it was seen
pub more-prefix : (n : ℕ) (m : List ℕ) (k : ℕ) (how : Option Seen) → k < frame_count (length m) → IsPrefix (block_frames (goods n m k ++ Put (frame n m k) how ∷ [])) (frames n m)
more-prefix n m k how h = rw (frames_of-append (goods n m k) (Put (frame n m k) how ∷ []), goods-frames (first_frames n m k), ← first-more n m k) (first-prefix n m (suc k) (omega arith))

-- the frame of the open slot after them: it still waits
pub all-unknown : (fs : List (List ℕ)) (f : List ℕ) → list_all is_good_sign (map good_sign fs ++ Put f None ∷ []) ≡ false
all-unknown [] f = refl
all-unknown (g ∷ fs) f = all-unknown fs f

pub damaged-unknown : (fs : List (List ℕ)) (f : List ℕ) → list_any is_damaged (map good_sign fs ++ Put f None ∷ []) ≡ false
damaged-unknown [] f = refl
damaged-unknown (g ∷ fs) f = damaged-unknown fs f

pub before-unknown : (fs : List (List ℕ)) (f : List ℕ) → before_mark (map good_sign fs ++ Put f None ∷ []) ≡ map good_sign fs ++ Put f None ∷ []
before-unknown [] f = refl
before-unknown (g ∷ fs) f = ap (λ (x : List Sign). good_sign g ∷ x) (before-unknown fs f)

pub mark-unknown : (fs : List (List ℕ)) (f : List ℕ) → first_mark (map good_sign fs ++ Put f None ∷ []) ≡ None
mark-unknown [] f = refl
mark-unknown (g ∷ fs) f = mark-unknown fs f

pub goods-unknown : (n : ℕ) (m : List ℕ) (k : ℕ) (f : List ℕ) → fate (frames n m) (goods n m k ++ Put f None ∷ []) ≡ Waiting
goods-unknown n m k f =
    rw (damaged-unknown (first_frames n m k) f, before-unknown (first_frames n m k) f, all-unknown (first_frames n m k) f, mark-unknown (first_frames n m k) f)
