-- What one more frame or a reset adds to what is read.
use Rattle.std.proofs.Common.{◌≡◌, ℕ, Bool, true, false, List, [], ◌∷◌, ◌++◌, refl, ap, sym, ◌∙◌}
use Rattle.std.specs.Prelude.{Option, None, cond, filter_map}
use Rattle.std.specs.List.{cons_option}
use Rattle.std.proofs.lemmas.List.{append-nil}
use Rattle.std.proofs.lemmas.List.Elements.{filter_map-append}
use Rattle.lin_transport.specs.Words.{with_last}
use Rattle.lin_transport.specs.Transport.{begins_message, pieces, Ear, message_to, messages_to, Heard}
use Rattle.lin_transport.specs.Transport.Heard.{Frame, Reset}
use Rattle.lin_transport.specs.Receiver.{current}

pub with_last-append : {X : Type 0} (f : X → X) (xs : List X) (x : X) → with_last f (xs ++ x ∷ []) ≡ xs ++ f x ∷ []
with_last-append f [] x = refl
with_last-append f (a ∷ []) x = refl
with_last-append f (a ∷ b ∷ xs) x = ap (λ (ys : List _). a ∷ ys) (with_last-append f (b ∷ xs) x)

-- the pieces but for the last
abbrev pub earlier_pieces : List Heard → List (List (List ℕ))
earlier_pieces [] = []
earlier_pieces (Frame f ∷ earlier) = cond (begins_message f) (pieces earlier) (earlier_pieces earlier)
earlier_pieces (Reset ∷ earlier) = pieces earlier

last-by : (f : List ℕ) (earlier : List Heard) (b : Bool) → begins_message f ≡ b → pieces earlier ≡ earlier_pieces earlier ++ current earlier ∷ []
    → pieces (Frame f ∷ earlier) ≡ earlier_pieces (Frame f ∷ earlier) ++ current (Frame f ∷ earlier) ∷ []
last-by f earlier true b e = rw b
last-by f earlier false b e = rw (b, e) (with_last-append (λ (p : List (List ℕ)). p ++ f ∷ []) (earlier_pieces earlier) (current earlier))

-- the last is what stands after the last cut
pub pieces-last : (heard : List Heard) → pieces heard ≡ earlier_pieces heard ++ current heard ∷ []
pieces-last [] = refl
pieces-last (Frame f ∷ earlier) = last-by f earlier (begins_message f) refl (pieces-last earlier)
pieces-last (Reset ∷ earlier) = refl

-- one more piece, read as o
pub reads-more : (ear : Ear) (ps : List (List (List ℕ))) (p : List (List ℕ)) (o : Option (List ℕ)) → message_to ear p ≡ o → filter_map (message_to ear) (ps ++ p ∷ []) ≡ filter_map (message_to ear) ps ++ cons_option o []
reads-more ear ps p o e = filter_map-append (message_to ear) ps (p ∷ []) ∙ ap (λ (x : Option (List ℕ)). filter_map (message_to ear) ps ++ cons_option x []) e

pub reads-nothing : (ear : Ear) (ps : List (List (List ℕ))) (p : List (List ℕ)) → message_to ear p ≡ None → filter_map (message_to ear) (ps ++ p ∷ []) ≡ filter_map (message_to ear) ps
reads-nothing ear ps p e = reads-more ear ps p None e ∙ append-nil (filter_map (message_to ear) ps)

-- what is read of all pieces, by what the last is read as
pub reads-last : (ear : Ear) (heard : List Heard) (o : Option (List ℕ)) → message_to ear (current heard) ≡ o → messages_to ear heard ≡ filter_map (message_to ear) (earlier_pieces heard) ++ cons_option o []
reads-last ear heard o e = ap (filter_map (message_to ear)) (pieces-last heard) ∙ reads-more ear (earlier_pieces heard) (current heard) o e

-- a reset adds nothing
pub reads-reset : (ear : Ear) (heard : List Heard) → messages_to ear (Reset ∷ heard) ≡ messages_to ear heard
reads-reset ear heard = reads-nothing ear (pieces heard) [] refl

-- a frame that begins a message adds what it is read as alone
pub reads-begun : (ear : Ear) (f : List ℕ) (heard : List Heard) (o : Option (List ℕ)) → begins_message f ≡ true → message_to ear (f ∷ []) ≡ o → messages_to ear (Frame f ∷ heard) ≡ messages_to ear heard ++ cons_option o []
reads-begun ear f heard o b e = rw b (reads-more ear (pieces heard) (f ∷ []) o e)

pub current-begun : (f : List ℕ) (heard : List Heard) → begins_message f ≡ true → current (Frame f ∷ heard) ≡ f ∷ []
current-begun f heard b = rw b

-- another stands after the last piece
pub current-more : (f : List ℕ) (heard : List Heard) → begins_message f ≡ false → current (Frame f ∷ heard) ≡ current heard ++ f ∷ []
current-more f heard b = rw b

pub earlier-more : (f : List ℕ) (heard : List Heard) → begins_message f ≡ false → earlier_pieces (Frame f ∷ heard) ≡ earlier_pieces heard
earlier-more f heard b = rw b

-- where that piece read as nothing, it adds what the longer piece is read as
pub reads-completed : (ear : Ear) (f : List ℕ) (heard : List Heard) (o : Option (List ℕ)) → begins_message f ≡ false → message_to ear (current heard) ≡ None → message_to ear (current heard ++ f ∷ []) ≡ o → messages_to ear (Frame f ∷ heard) ≡ messages_to ear heard ++ cons_option o []
reads-completed ear f heard o b before e =
    reads-last ear (Frame f ∷ heard) o (ap (message_to ear) (current-more f heard b) ∙ e)
    ∙ ap (λ (ps : List (List (List ℕ))). filter_map (message_to ear) ps ++ cons_option o []) (earlier-more f heard b)
    ∙ ap (λ (ms : List (List ℕ)). ms ++ cons_option o []) (sym (reads-last ear heard None before ∙ append-nil (filter_map (message_to ear) (earlier_pieces heard))))

-- where both are read as the same, it adds nothing
pub reads-same : (ear : Ear) (f : List ℕ) (heard : List Heard) → begins_message f ≡ false → message_to ear (current heard ++ f ∷ []) ≡ message_to ear (current heard) → messages_to ear (Frame f ∷ heard) ≡ messages_to ear heard
reads-same ear f heard b e =
    reads-last ear (Frame f ∷ heard) (message_to ear (current heard)) (ap (message_to ear) (current-more f heard b) ∙ e)
    ∙ ap (λ (ps : List (List (List ℕ))). filter_map (message_to ear) ps ++ cons_option (message_to ear (current heard)) []) (earlier-more f heard b)
    ∙ sym (reads-last ear heard (message_to ear (current heard)) refl)
