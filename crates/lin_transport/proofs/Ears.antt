-- What a receiver reads of a piece, by the address of the piece's first frame.
use Rattle.std.proofs.Common.{◌≡◌, ℕ, suc, ◌-◌, ◌≤◌, ◌<◌, Bool, true, false, List, [], ◌∷◌, length, map, refl, ap, sym, ◌∙◌, arith}
use Rattle.std.specs.Prelude.{Option, Some, None, ◌&&◌, ◌||◌, eqb, slice_index}
use Rattle.std.proofs.lemmas.Bool.Decides.{nat_tests}
use Rattle.std.proofs.lemmas.Bool.{ne_eqb, false≢true}
use Rattle.lin_frame.specs.Words.{numbers}
use Rattle.lin_transport.specs.Transport.{functional, frame, first_frames, frames, frame_count, message_in, message_to, Ear, looks_at}
use Rattle.lin_transport.specs.Receiver.{IsOwn, IsReadAs}
use Rattle.lin_transport.specs.Law.{Addressed, IsFor}
use Rattle.lin_transport.proofs.Frames.{first-cons, frame-address, count-some, reads-all, reads-none}

-- what a piece that begins with a frame to this address is for a receiver
abbrev pub IsToAll : Ear → ℕ → Type 0
IsToAll e n = (e.all ≡ true) × (n ≡ functional)

pub data To (e : Ear) (n : ℕ) : Type 0 where
  all : IsToAll e n → To e n
  own : n ≡ e.nad → (e.all && eqb n functional) ≡ false → To e n

equal : (a b : ℕ) → eqb a b ≡ true → a ≡ b
equal a b h = grind (arith, nat_tests, h)

to-by : (e : Ear) (n : ℕ) (b d : Bool) → e.all ≡ b → eqb n functional ≡ d → ((b && d) || eqb n e.nad) ≡ true → To e n
to-by e n true true is f h = all (is, equal n functional f)
to-by e n true false is f h = own (equal n e.nad h) (rw (is, f))
to-by e n false d is f h = own (equal n e.nad h) (rw is)

pub to : (e : Ear) (n : ℕ) → looks_at e n ≡ true → To e n
to e n h = to-by e n e.all (eqb n functional) refl refl h

eqb-same : (a b : ℕ) → a ≡ b → eqb a b ≡ true
eqb-same a b h = grind (arith, nat_tests, h)

own-with : (e : Ear) (n : ℕ) (b : Bool) → e.all ≡ b → IsOwn e → n ≡ e.nad → (b && eqb n functional) ≡ false
own-with e n false a o is = refl
own-with e n true a o is = ne_eqb n functional (λ z. o a (sym is ∙ z))

-- a receiver whose own address is no one that all hear
pub own-by : (e : Ear) (n : ℕ) → IsOwn e → n ≡ e.nad → (e.all && eqb n functional) ≡ false
own-by e n o is = own-with e n e.all refl o is

-- a piece of its own
pub own-piece : (e : Ear) (f : List ℕ) (fs : List (List ℕ)) → (e.all && eqb (slice_index f 0) functional) ≡ false → message_to e (f ∷ fs) ≡ message_in e.nad (f ∷ fs)
own-piece e f fs h = rw h

-- a piece that begins with a frame to all
pub all-piece : (e : Ear) (f : List ℕ) (fs : List (List ℕ)) → IsToAll e (slice_index f 0) → message_to e (f ∷ fs) ≡ message_in functional (f ∷ [])
all-piece e f fs h = rw (h.0, eqb-same (slice_index f 0) functional h.1)

-- a frame that is read as o at its address, whatever comes after it
pub to-reads : (e : Ear) (f : List ℕ) (o : Option (List ℕ)) → To e (slice_index f 0) → IsReadAs f o → (more : List (List ℕ)) → message_to e (f ∷ more) ≡ o
to-reads e f o (all h) r more = all-piece e f more h ∙ ap (λ (n : ℕ). message_in n (f ∷ [])) (sym h.1) ∙ r.reads []
to-reads e f o (own is h) r more = own-piece e f more h ∙ ap (λ (n : ℕ). message_in n (f ∷ more)) (sym is) ∙ r.reads more

pub looks-if : (e : Ear) (n : ℕ) → To e n → looks_at e n ≡ true
looks-if e n (all h) = rw (h.0, eqb-same n functional h.1)
looks-if e n (own is h) = rw (h, eqb-same n e.nad is)

all-by : (e : Ear) (n : ℕ) (b d : Bool) → e.all ≡ b → eqb n functional ≡ d → (b && d) ≡ true → IsToAll e n
all-by e n true true is f h = (is, equal n functional f)
all-by e n true false is f h = absurd (false≢true h)
all-by e n false d is f h = absurd (false≢true h)

-- by the tests as a receiver makes them
pub is-all : (e : Ear) (n : ℕ) → (e.all && eqb n functional) ≡ true → IsToAll e n
is-all e n h = all-by e n e.all (eqb n functional) refl refl h

pub own-if : (e : Ear) (n : ℕ) → n ≡ e.nad → (e.all && eqb n functional) ≡ false → IsOwn e
own-if e n is h = λ all z. false≢true (sym h ∙ rw (all, eqb-same n functional (is ∙ z)))

-- the first frames of a message that a receiver is meant by
pub first-own : (e : Ear) (n : ℕ) (m : List ℕ) (k : ℕ) → n ≡ e.nad → (e.all && eqb n functional) ≡ false → message_to e (first_frames n m (suc k)) ≡ message_in n (first_frames n m (suc k))
first-own e n m k is h =
    let fs : List (List ℕ) = map (frame n m) (map suc (numbers k))
    in let other : (e.all && eqb (slice_index (frame n m 0) 0) functional) ≡ false = ap (λ (a : ℕ). e.all && eqb a functional) (frame-address n m 0) ∙ h
    in ap (message_to e) (first-cons n m k)
    ∙ own-piece e (frame n m 0) fs other
    ∙ ap (λ (a : ℕ). message_in a (frame n m 0 ∷ fs)) (sym is)
    ∙ ap (message_in n) (sym (first-cons n m k))

short-one : (e : Ear) (m : Addressed) → IsFor e m → IsToAll e m.nad → frame_count (length m.bytes) ≡ 1
short-one e m i h = let l : length m.bytes ≤ 6 = i.short h.0 h.1 in grind (arith, nat_tests)

pub is-to : (e : Ear) (m : Addressed) → IsFor e m → To e m.nad
is-to e m i = to e m.nad (i.heard)

-- all frames of a message to it
pub to-all : (e : Ear) (m : Addressed) → IsFor e m → message_to e (frames m.nad m.bytes) ≡ Some m.bytes
to-all e m i = elim (is-to e m i) [
  | all h ↦
      let one : frames m.nad m.bytes ≡ frame m.nad m.bytes 0 ∷ [] = ap (first_frames m.nad m.bytes) (short-one e m i h)
      in let at : slice_index (frame m.nad m.bytes 0) 0 ≡ functional = frame-address m.nad m.bytes 0 ∙ h.1
      in ap (message_to e) one ∙ all-piece e (frame m.nad m.bytes 0) [] (h.0, at)
      ∙ ap (λ (n : ℕ). message_in n (frame m.nad m.bytes 0 ∷ [])) (sym h.1)
      ∙ ap (message_in m.nad) (sym one) ∙ reads-all m.nad m.bytes i.can
  | own is h ↦
      let j : ℕ = frame_count (length m.bytes) - 1
      in let c : frame_count (length m.bytes) ≡ suc j = let some : 1 ≤ frame_count (length m.bytes) = count-some m.bytes in omega arith
      in ap (λ (k : ℕ). message_to e (first_frames m.nad m.bytes k)) c ∙ first-own e m.nad m.bytes j is h
      ∙ ap (λ (k : ℕ). message_in m.nad (first_frames m.nad m.bytes k)) (sym c) ∙ reads-all m.nad m.bytes i.can
]

-- fewer of them
pub to-none : (e : Ear) (m : Addressed) (k : ℕ) → IsFor e m → suc k < frame_count (length m.bytes) → message_to e (first_frames m.nad m.bytes (suc k)) ≡ None
to-none e m k i more = elim (is-to e m i) [
  | all h ↦ absurd (let one = short-one e m i h in omega arith)
  | own is h ↦ first-own e m.nad m.bytes k is h ∙ reads-none m.nad m.bytes k i.can more
]
