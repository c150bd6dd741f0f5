-- What is read where the frames of messages follow what was heard.
use Rattle.std.proofs.Common.{◌≡◌, ℕ, zero, suc, ◌-◌, ◌≤◌, List, [], ◌∷◌, ◌++◌, length, take, drop, map, refl, ap, sym, ◌∙◌, arith, append_assoc}
use Rattle.std.specs.Prelude.{Some, None, All, filter_map}
use Rattle.std.proofs.lemmas.List.{append-nil, take-map, drop-map}
use Rattle.std.proofs.lemmas.List.Elements.{All-tail}
use Rattle.lin_frame.specs.Words.{numbers}
use Rattle.lin_transport.specs.Transport.{frame, first_frames, frames, frame_count, CanSend, pieces, Ear, message_to, messages_to, Heard}
use Rattle.lin_transport.specs.Transport.Heard.{Frame, Reset}
use Rattle.lin_transport.specs.Law.{Addressed, IsFor, heard_after, frames_of_all, bytes_of_all, ReadsBack, ReadsAcross, LacksCut, AddsMessage, AddsNothing}
use Rattle.lin_transport.proofs.Frames.{first-cons, length-frame, frame-begins, frame-continues, count-some}
use Rattle.lin_transport.proofs.Pieces.{with_last-append, reads-more, reads-nothing, reads-reset}
use Rattle.lin_transport.proofs.Begins.{after-fails}
use Rattle.lin_transport.proofs.Ears.{to-reads, is-to, to-all, to-none}

pub followed-append : (heard : List Heard) (fs gs : List (List ℕ)) → heard_after heard (fs ++ gs) ≡ heard_after (heard_after heard fs) gs
followed-append heard [] gs = refl
followed-append heard (f ∷ fs) gs = followed-append (Frame f ∷ heard) fs gs

-- later frames of a message, after its first
abbrev pub later : ℕ → List ℕ → List ℕ → List (List ℕ)
later n m ks = map (frame n m) (map suc ks)

-- they go on with the last piece
pub pieces-later : (n : ℕ) (m : List ℕ) (ks : List ℕ) (heard : List Heard) (ps : List (List (List ℕ))) (p : List (List ℕ)) → pieces heard ≡ ps ++ p ∷ [] → pieces (heard_after heard (later n m ks)) ≡ ps ++ (p ++ later n m ks) ∷ []
pieces-later n m [] heard ps p e = e ∙ ap (λ (q : List (List ℕ)). ps ++ q ∷ []) (sym (append-nil p))
pieces-later n m (k ∷ ks) heard ps p e =
    let f : List ℕ = frame n m (suc k)
    in let more : pieces (Frame f ∷ heard) ≡ ps ++ (p ++ f ∷ []) ∷ [] = rw (frame-continues n m k, e) (with_last-append (λ (q : List (List ℕ)). q ++ f ∷ []) ps p)
    in pieces-later n m ks (Frame f ∷ heard) ps (p ++ f ∷ []) more
    ∙ ap (λ (q : List (List ℕ)). ps ++ q ∷ []) (append_assoc p (f ∷ []) (later n m ks))

-- the first frames of a message are a piece of their own
pub pieces-first : (n : ℕ) (m : List ℕ) (k : ℕ) (heard : List Heard) → CanSend m → pieces (heard_after heard (first_frames n m (suc k))) ≡ pieces heard ++ first_frames n m (suc k) ∷ []
pieces-first n m k heard s =
    let start : pieces (Frame (frame n m 0) ∷ heard) ≡ pieces heard ++ (frame n m 0 ∷ []) ∷ [] = rw (frame-begins n m s)
    in ap (λ (fs : List (List ℕ)). pieces (heard_after heard fs)) (first-cons n m k)
    ∙ pieces-later n m (numbers k) (Frame (frame n m 0) ∷ heard) (pieces heard) (frame n m 0 ∷ []) start
    ∙ ap (λ (fs : List (List ℕ)). pieces heard ++ fs ∷ []) (sym (first-cons n m k))

-- all frames of a message add it
pub message-adds : (e : Ear) (m : Addressed) (heard : List Heard) → AddsMessage e m heard
message-adds e m heard is =
    let n : ℕ = m.nad
    in let j : ℕ = frame_count (length m.bytes) - 1
    in let c : frame_count (length m.bytes) ≡ suc j = let some : 1 ≤ frame_count (length m.bytes) = count-some m.bytes in omega arith
    in let whole : message_to e (first_frames n m.bytes (suc j)) ≡ Some m.bytes = ap (λ (k : ℕ). message_to e (first_frames n m.bytes k)) (sym c) ∙ to-all e m is
    in ap (λ (k : ℕ). messages_to e (heard_after heard (first_frames n m.bytes k))) c
    ∙ ap (filter_map (message_to e)) (pieces-first n m.bytes j heard is.can)
    ∙ reads-more e (pieces heard) (first_frames n m.bytes (suc j)) (Some m.bytes) whole

-- fewer add nothing
pub part-adds-nothing : (e : Ear) (m : Addressed) (k : ℕ) (heard : List Heard) → AddsNothing e m k heard
part-adds-nothing e m zero heard is more = refl
part-adds-nothing e m (suc k) heard is more =
    ap (filter_map (message_to e)) (pieces-first m.nad m.bytes k heard is.can)
    ∙ reads-nothing e (pieces heard) (first_frames m.nad m.bytes (suc k)) (to-none e m k is more)

later-fails : (e : Ear) (m : Addressed) (ks : List ℕ) → IsFor e m → message_to e (later m.nad m.bytes ks) ≡ None
later-fails e m [] is = refl
later-fails e m (k ∷ ks) is =
    to-reads e (frame m.nad m.bytes (suc k)) None (is-to e m is)
    (record { reads = λ more. after-fails m.nad (frame m.nad m.bytes (suc k)) more (length-frame m.nad m.bytes (suc k)) refl (omega arith) })
    (later m.nad m.bytes ks)

-- the rest of a message after a reset adds nothing
pub rest-adds-nothing : (e : Ear) (m : Addressed) (ks : List ℕ) (heard : List Heard) → IsFor e m → messages_to e (heard_after (Reset ∷ heard) (later m.nad m.bytes ks)) ≡ messages_to e heard
rest-adds-nothing e m ks heard is =
    ap (filter_map (message_to e)) (pieces-later m.nad m.bytes ks (Reset ∷ heard) (pieces heard) [] refl)
    ∙ reads-nothing e (pieces heard) (later m.nad m.bytes ks) (later-fails e m ks is)

-- the frames of messages add them
pub messages-add : (e : Ear) (ms : List Addressed) (heard : List Heard) → All (IsFor e) ms → messages_to e (heard_after heard (frames_of_all ms)) ≡ messages_to e heard ++ bytes_of_all ms
messages-add e [] heard all = sym (append-nil (messages_to e heard))
messages-add e (m ∷ ms) heard all =
    ap (messages_to e) (followed-append heard (frames m.nad m.bytes) (frames_of_all ms))
    ∙ messages-add e ms (heard_after heard (frames m.nad m.bytes)) (All-tail (IsFor e) m ms all)
    ∙ ap (λ (xs : List (List ℕ)). xs ++ bytes_of_all ms) (message-adds e m heard (all 0 m (omega arith)))
    ∙ append_assoc (messages_to e heard) (m.bytes ∷ []) (bytes_of_all ms)

-- what stands after the first frames of a message
pub later-frames : (n : ℕ) (m : List ℕ) (k j : ℕ) → (ks : List ℕ) × (take j (drop (suc k) (frames n m)) ≡ later n m ks)
later-frames n m k j =
    let c : ℕ = frame_count (length m) - 1
    in let e : frame_count (length m) ≡ suc c = let some : 1 ≤ frame_count (length m) = count-some m in omega arith
    in (
      take j (drop k (numbers c)),
      ap (λ (i : ℕ). take j (drop (suc k) (first_frames n m i))) e
          ∙ ap (λ (fs : List (List ℕ)). take j (drop (suc k) fs)) (first-cons n m c)
          ∙ ap (take j) (drop-map (frame n m) k (map suc (numbers c)) ∙ ap (map (frame n m)) (drop-map suc k (numbers c)))
          ∙ take-map (frame n m) j (map suc (drop k (numbers c)))
          ∙ ap (map (frame n m)) (take-map suc j (drop k (numbers c))),
    )

-- the readings of whole messages and of one that a reset cuts
pub reads-back : (e : Ear) (ms : List Addressed) (given : List Heard) → ReadsBack e ms given
reads-back e ms given all is = ap (messages_to e) is ∙ messages-add e ms [] all

pub reads-across : (e : Ear) (before after : List Addressed) (given : List Heard) → ReadsAcross e before after given
reads-across e before after given all rest is =
    let heard : List Heard = heard_after [] (frames_of_all before)
    in ap (messages_to e) is
    ∙ messages-add e after (Reset ∷ heard) rest
    ∙ ap (λ (xs : List (List ℕ)). xs ++ bytes_of_all after) (reads-reset e heard ∙ messages-add e before [] all)

lacks-by : (e : Ear) (before : List Addressed) (m : Addressed) (k j : ℕ) (after : List Addressed) (given : List Heard) → LacksCut e before m (suc k) j after given
lacks-by e before m k j after given all can rest low high is =
    let heard : List Heard = heard_after [] (frames_of_all before)
    in let part : List Heard = heard_after [] (frames_of_all before ++ first_frames m.nad m.bytes (suc k))
    in let l : (ks : List ℕ) × (take j (drop (suc k) (frames m.nad m.bytes)) ≡ later m.nad m.bytes ks) = later-frames m.nad m.bytes k j
    in let cut : messages_to e part ≡ bytes_of_all before
    = ap (messages_to e) (followed-append [] (frames_of_all before) (first_frames m.nad m.bytes (suc k)))
    ∙ part-adds-nothing e m (suc k) heard can high ∙ messages-add e before [] all
    in ap (messages_to e) is
    ∙ ap (messages_to e) (followed-append (Reset ∷ part) (take j (drop (suc k) (frames m.nad m.bytes))) (frames_of_all after))
    ∙ messages-add e after (heard_after (Reset ∷ part) (take j (drop (suc k) (frames m.nad m.bytes)))) rest
    ∙ ap (λ (fs : List (List ℕ)). messages_to e (heard_after (Reset ∷ part) fs) ++ bytes_of_all after) l.1
    ∙ ap (λ (xs : List (List ℕ)). xs ++ bytes_of_all after) (rest-adds-nothing e m l.0 part can ∙ cut)

pub lacks-cut : (e : Ear) (before : List Addressed) (m : Addressed) (k j : ℕ) (after : List Addressed) (given : List Heard) → LacksCut e before m k j after given
lacks-cut e before m zero j after given = λ all can rest low. absurd (omega arith)
lacks-cut e before m (suc k) j after given = lacks-by e before m k j after given
