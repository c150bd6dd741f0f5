-- What each kind of frame leaves of what a receiver holds.
use Rattle.std.proofs.Common.{◌≡◌, ℕ, ◌≤◌, ◌<◌, ◌≢◌, Bool, true, false, List, [], ◌∷◌, ◌++◌, length, take, drop, refl, ap, sym, ◌∙◌, arith, append_assoc}
use Rattle.std.specs.Prelude.{Option, Some, None, ◌⊎◌, ◌&&◌, eqb, nat_lt, slice_index, option_to_list, filter_map}
use Rattle.std.specs.List.{cons_option}
use Rattle.std.proofs.lemmas.List.{append-nil}
use Rattle.std.proofs.lemmas.Bool.Decides.{nat_tests}
use Rattle.std.proofs.lemmas.Bool.{ne_eqb}
use Rattle.lin_transport.specs.Transport.{functional, begins_message, message_in, message_to, messages_to, Ear, Heard, heard_to}
use Rattle.lin_transport.specs.Transport.Heard.{Frame}
use Rattle.lin_transport.specs.Receiver.{Part, Reception, IsOwn, current, Holds, Reads, IsReadAs, IsBegun, IsContinued}
use Rattle.lin_transport.proofs.Pieces.{reads-last, reads-begun, current-begun, current-more, earlier_pieces, earlier-more}
use Rattle.lin_transport.proofs.Begins.{single-reads, single-fails, alone-fails}
use Rattle.lin_transport.proofs.Ears.{To, IsToAll, own-by, own-piece, all-piece, to-reads, looks-if}
use Rattle.lin_transport.proofs.Ears.To.{all, own}
use Rattle.lin_transport.proofs.Continues.{continued-foreign}

-- a single frame in range
pub single-read : (f : List ℕ) → length f ≡ 8 → 1 ≤ slice_index f 1 → slice_index f 1 ≤ 6 → IsReadAs f (Some (take (slice_index f 1) (drop 2 f)))
single-read [] l some few = absurd (omega arith)
single-read (a ∷ []) l some few = absurd (omega arith)
single-read (a ∷ b ∷ f) l some few = record { reads = λ more. single-reads a b f more (omega arith) some few }

-- a single frame out of range
pub single-unread : (f : List ℕ) → length f ≡ 8 → slice_index f 1 < 16 → (slice_index f 1 ≡ 0) ⊎ (7 ≤ slice_index f 1) → IsReadAs f None
single-unread [] l low out = absurd (omega arith)
single-unread (a ∷ []) l low out = absurd (omega arith)
single-unread (a ∷ b ∷ f) l low out = record { reads = λ more. single-fails a b f more low out }

-- after a frame that it looks at, a receiver has heard that frame
heard-own : (e : Ear) (f : List ℕ) (heard : List Heard) → To e (slice_index f 0) → heard_to e f heard ≡ Frame f ∷ heard
heard-own e f heard t = rw (looks-if e (slice_index f 0) t)

option-list : (o : Option (List ℕ)) → cons_option o [] ≡ option_to_list o
option-list None = refl
option-list (Some m) = refl

-- the messages read with one more frame, by the pieces that are left as they were
reads-list : (e : Ear) (heard : List Heard) → messages_to e heard ≡ filter_map (message_to e) (earlier_pieces heard) ++ option_to_list (message_to e (current heard))
reads-list e heard = reads-last e heard (message_to e (current heard)) refl ∙ ap (λ (ms : List (List ℕ)). filter_map (message_to e) (earlier_pieces heard) ++ ms) (option-list (message_to e (current heard)))

-- a receiver that listens to this
abbrev pub reception : Ear → Option Part → ℕ → Reception
reception e part spare = record { nad = e.nad; part = part; all = e.all; spare = spare }

-- a frame that begins a piece
pub hears-begins : (e : Ear) (was new : Option Part) (s t : ℕ) (f : List ℕ) (heard : List Heard) (o : Option (List ℕ)) → To e (slice_index f 0) → slice_index f 1 < 32 → Holds e new (f ∷ []) → message_to e (f ∷ []) ≡ o
    → Reads (reception e was s) f heard o (reception e new t)
hears-begins e was new s t f heard o to low holds read =
    let b : begins_message f ≡ true = grind (arith, nat_tests)
    in record {
      ear = refl;
      stands = rw (heard-own e f heard to, current-begun f heard b) holds;
      reads = rw (heard-own e f heard to) (reads-begun e f heard o b read ∙ ap (λ (ms : List (List ℕ)). messages_to e heard ++ ms) (option-list o));
    }

-- and is a message or none
pub hears-single : (e : Ear) (was : Option Part) (s t : ℕ) (f : List ℕ) (heard : List Heard) (o : Option (List ℕ)) → To e (slice_index f 0) → slice_index f 1 < 32 → IsReadAs f o
    → Reads (reception e was s) f heard o (reception e None t)
hears-single e was s t f heard o to low r =
    let read : (more : List (List ℕ)) → message_to e (f ∷ more) ≡ o = to-reads e f o to r
    in hears-begins e was None s t f heard o to low (λ more. read more ∙ sym (read [])) (read [])

-- a first frame
begun-holds : (e : Ear) (f : List ℕ) (new : Option Part) → IsOwn e → slice_index f 0 ≡ e.nad → IsBegun f new → Holds e new (f ∷ [])
begun-holds e f None o is r = λ more.
    let h : (e.all && eqb (slice_index f 0) functional) ≡ false = own-by e (slice_index f 0) o is
    in own-piece e f more h ∙ ap (λ (n : ℕ). message_in n (f ∷ more)) (sym is) ∙ r.holds more ∙ ap (λ (n : ℕ). message_in n (f ∷ [])) is ∙ sym (own-piece e f [] h)
begun-holds e f (Some part) o is r = (o, rw is at r.holds)

pub hears-begun : (e : Ear) (was new : Option Part) (s t : ℕ) (f : List ℕ) (heard : List Heard) → IsOwn e → slice_index f 0 ≡ e.nad → slice_index f 1 < 32 → IsBegun f new
    → Reads (reception e was s) f heard None (reception e new t)
hears-begun e was new s t f heard o is low r =
    let h : (e.all && eqb (slice_index f 0) functional) ≡ false = own-by e (slice_index f 0) o is
    in hears-begins e was new s t f heard None (own is h) low (begun-holds e f new o is r)
    (own-piece e f [] h ∙ ap (λ (n : ℕ). message_in n (f ∷ [])) (sym is) ∙ r.reads)

-- a frame that begins nothing
pub hears-continued : (e : Ear) (was new : Option Part) (s t : ℕ) (f : List ℕ) (heard : List Heard) (o : Option (List ℕ)) → To e (slice_index f 0) → 32 ≤ slice_index f 1
    → IsContinued e f (current heard) o new → Reads (reception e was s) f heard o (reception e new t)
hears-continued e was new s t f heard o to high r =
    let b : begins_message f ≡ false = grind (arith, nat_tests)
    in record {
      ear = refl;
      stands = rw (heard-own e f heard to, current-more f heard b) r.holds;
      reads = rw (heard-own e f heard to)
          (reads-list e (Frame f ∷ heard)
          ∙ ap (λ (fs : List (List ℕ)). filter_map (message_to e) (earlier_pieces (Frame f ∷ heard)) ++ option_to_list (message_to e fs)) (current-more f heard b)
          ∙ ap (λ (ps : List (List (List ℕ))). filter_map (message_to e) ps ++ option_to_list (message_to e (current heard ++ f ∷ []))) (earlier-more f heard b)
          ∙ ap (λ (ms : List (List ℕ)). filter_map (message_to e) (earlier_pieces heard) ++ ms) r.reads
          ∙ sym (append_assoc (filter_map (message_to e) (earlier_pieces heard)) (option_to_list (message_to e (current heard))) (option_to_list o))
          ∙ ap (λ (ms : List (List ℕ)). ms ++ option_to_list o) (sym (reads-list e heard)));
    }

-- a frame to all that is no single one
to-all-by : (e : Ear) (was : Option Part) (s t : ℕ) (f : List ℕ) (heard : List Heard) (b : Bool) → nat_lt (slice_index f 1) 32 ≡ b → length f ≡ 8 → IsToAll e (slice_index f 0) → 16 ≤ slice_index f 1
    → Holds e was (current heard) → Reads (reception e was s) f heard None (reception e None t)
to-all-by e was s t f heard true b l to high h =
    let read : (more : List (List ℕ)) → message_to e (f ∷ more) ≡ None = λ more. all-piece e f more to ∙ alone-fails functional f l high
    in hears-begins e was None s t f heard None (all to) (grind (arith, nat_tests, b)) (λ more. read more ∙ sym (read [])) (read [])
to-all-by e was s t f heard false b l to high h =
    hears-continued e was None s t f heard None (all to) (grind (arith, nat_tests, b)) (continued-foreign e was f (current heard) l to high h)

pub hears-to-all : (e : Ear) (was : Option Part) (s t : ℕ) (f : List ℕ) (heard : List Heard) → length f ≡ 8 → IsToAll e (slice_index f 0) → 16 ≤ slice_index f 1
    → Holds e was (current heard) → Reads (reception e was s) f heard None (reception e None t)
hears-to-all e was s t f heard l to high h = to-all-by e was s t f heard (nat_lt (slice_index f 1) 32) refl l to high h

-- a frame that it doesn't look at
pub hears-other : (e : Ear) (was : Option Part) (s : ℕ) (f : List ℕ) (heard : List Heard) → (e.all && eqb (slice_index f 0) functional) ≡ false → slice_index f 0 ≢ e.nad → Holds e was (current heard)
    → Reads (reception e was s) f heard None (reception e was s)
hears-other e was s f heard h other holds =
    let deaf : heard_to e f heard ≡ heard = let no : eqb (slice_index f 0) e.nad ≡ false = ne_eqb (slice_index f 0) e.nad other in rw (h, no)
    in record { ear = refl; stands = rw deaf holds; reads = rw deaf (sym (append-nil (messages_to e heard))) }
