-- What stands on one link: messages that are settled, and perhaps one that is begun.
use Rattle.std.proofs.Common.{◌≡◌, ℕ, suc, ◌<◌, false, List, [], ◌∷◌, ◌++◌, length, map, refl, ap, sym, ◌∙◌, arith}
use Rattle.std.specs.Prelude.{⊤, Option, Some, None, filter_map}
use Rattle.std.proofs.lemmas.List.{append-nil, map-append}
use Rattle.std.proofs.lemmas.List.Elements.{filter_map-append}
use Rattle.lin_transport.specs.Words.{with_last}
use Rattle.lin_transport.specs.Law.{Addressed, IsFor}
use Rattle.lin_transport.specs.Transport.{frame, frames, frame_count, pieces, message_to, messages_to, Ear, Heard, first_frames}
use Rattle.lin_transport.specs.Transport.Heard.{Frame, Reset}
use Rattle.lin_core.specs.Links.{Sign, Fate, fate, is_waiting, block_frames, in_last, blocks_of}
use Rattle.lin_core.specs.Links.Sign.{Put, Mark}
use Rattle.lin_core.specs.Links.Fate.{Waiting, Sent, Lost}
use Rattle.lin_core.specs.Law.{IsPrefix}
use Rattle.lin_core.specs.declared.link.Cause.{Cause}
use Rattle.lin_core.specs.declared.link.Cause.TheVariants.{Damaged}
use Rattle.lin_core.specs.declared.event.Seen.TheVariants.{Good, Damaged as SeenDamaged}
use Rattle.lin_transport.proofs.Frames.{first-more, frame-begins, frame-continues, count-some}
use Rattle.lin_transport.proofs.Ears.{to-all, to-none}
use Rattle.lin_transport.proofs.Pieces.{reads-more, reads-nothing, with_last-append}
use Rattle.lin_core.proofs.links.Fates.{good_sign, hurt_sign, goods, mark-keeps, frames-mark, goods-sent, goods-cut, goods-hurt, goods-prefix, more-prefix}

-- what a receiver is given of the signs
abbrev pub heard_of : List Sign → List Heard
heard_of [] = []
heard_of (Put f (Some (Good bytes)) ∷ signs) = Frame f ∷ heard_of signs
heard_of (Put f how ∷ signs) = heard_of signs
heard_of (Mark cause ∷ signs) = Reset ∷ heard_of signs

-- a message with its fate: what its block says
pub record IsSettled (p : Addressed × Fate) (b : List Sign) : Type 0 where
  pub fate : fate (frames p.0.nad p.0.bytes) b ≡ p.1
  pub settled : is_waiting p.1 ≡ false
  pub begins : IsPrefix (block_frames b) (frames p.0.nad p.0.bytes)

abbrev pub AreSettled : List (Addressed × Fate) → List (List Sign) → Type 0
AreSettled [] [] = ⊤
AreSettled (p ∷ ps) (b ∷ bs) = IsSettled p b × AreSettled ps bs
AreSettled (p ∷ ps) [] = ⊥
AreSettled [] (b ∷ bs) = ⊥

abbrev pub if_sent : Addressed × Fate → Option (List ℕ)
if_sent (m, Sent) = Some m.bytes
if_sent (m, Waiting) = None
if_sent (m, Lost cause) = None

-- those that were sent
abbrev pub sent_of : List (Addressed × Fate) → List (List ℕ)
sent_of ps = filter_map if_sent ps

pub record Idle (e : Ear) (signs : List Sign) (ps : List (Addressed × Fate)) : Type 0 where
  pub settled : AreSettled ps (blocks_of signs)
  pub reads : messages_to e (heard_of signs) ≡ sent_of ps

-- a message is begun: its first k + 1 frames were seen good, and there are more
pub record Busy (e : Ear) (signs : List Sign) (ps : List (Addressed × Fate)) (m : Addressed) (k : ℕ) : Type 0 where
  pub meant : IsFor e m
  pub more : suc k < frame_count (length m.bytes)
  pub earlier : List (List Sign)
  pub blocks : blocks_of signs ≡ earlier ++ goods m.nad m.bytes (suc k) ∷ []
  pub settled : AreSettled ps earlier
  pub cut : List (List (List ℕ))
  pub pieces : pieces (heard_of signs) ≡ cut ++ first_frames m.nad m.bytes (suc k) ∷ []
  pub reads : filter_map (message_to e) cut ≡ sent_of ps

pub in_last-append : (bs : List (List Sign)) (b : List Sign) (s : Sign) → in_last s (bs ++ b ∷ []) ≡ bs ++ (b ++ s ∷ []) ∷ []
in_last-append [] b s = refl
in_last-append (a ∷ []) b s = refl
in_last-append (a ∷ d ∷ bs) b s = ap (λ (ys : List (List Sign)). a ∷ ys) (in_last-append (d ∷ bs) b s)

pub settled-more : (ps : List (Addressed × Fate)) (bs : List (List Sign)) (p : Addressed × Fate) (b : List Sign) → AreSettled ps bs → IsSettled p b → AreSettled (ps ++ p ∷ []) (bs ++ b ∷ [])
settled-more [] [] p b s h = (h, tt)
settled-more (q ∷ ps) (d ∷ bs) p b s h = (s.0, settled-more ps bs p b s.1 h)
settled-more (q ∷ ps) [] p b s h = absurd s
settled-more [] (d ∷ bs) p b s h = absurd s

pub settled-one : (p : Addressed × Fate) (b : List Sign) (c : Cause) → IsSettled p b → IsSettled p (b ++ Mark c ∷ [])
settled-one p b c h = record {
  fate = mark-keeps (frames p.0.nad p.0.bytes) b c (rw h.fate h.settled) ∙ h.fate;
  settled = h.settled;
  begins = rw (frames-mark b c) h.begins;
}

pub settled-mark : (ps : List (Addressed × Fate)) (bs : List (List Sign)) (c : Cause) → AreSettled ps bs → AreSettled ps (with_last (λ b. b ++ Mark c ∷ []) bs)
settled-mark [] [] c s = s
settled-mark (p ∷ ps) [] c s = s
settled-mark [] (b ∷ bs) c s = absurd s
settled-mark (p ∷ ps) (b ∷ []) c s = (settled-one p b c s.0, s.1)
settled-mark (p ∷ ps) (b ∷ d ∷ bs) c s = (s.0, settled-mark ps (d ∷ bs) c s.1)

pub sent-lost : (ps : List (Addressed × Fate)) (m : Addressed) (c : Cause) → sent_of (ps ++ (m, Lost c) ∷ []) ≡ sent_of ps
sent-lost ps m c = filter_map-append if_sent ps ((m, Lost c) ∷ []) ∙ append-nil (sent_of ps)

pub sent-sent : (ps : List (Addressed × Fate)) (m : Addressed) → sent_of (ps ++ (m, Sent) ∷ []) ≡ sent_of ps ++ m.bytes ∷ []
sent-sent ps m = filter_map-append if_sent ps ((m, Sent) ∷ [])

-- a mark on an idle link
pub idle-mark : (e : Ear) (signs : List Sign) (ps : List (Addressed × Fate)) (c : Cause) → Idle e signs ps → Idle e (Mark c ∷ signs) ps
idle-mark e signs ps c t = record {
  settled = settled-mark ps (blocks_of signs) c t.settled;
  reads = reads-nothing e (pieces (heard_of signs)) [] refl ∙ t.reads;
}

pub lost-settled : (m : Addressed) (k : ℕ) (c : Cause) → suc k < frame_count (length m.bytes) → IsSettled (m, Lost c) (goods m.nad m.bytes (suc k) ++ Mark c ∷ [])
lost-settled m k c h = record {
  fate = goods-cut m.nad m.bytes k c h;
  settled = refl;
  begins = rw (frames-mark (goods m.nad m.bytes (suc k)) c) (goods-prefix m.nad m.bytes (suc k) (omega arith));
}

pub hurt-settled : (m : Addressed) (k : ℕ) → k < frame_count (length m.bytes) → IsSettled (m, Lost Damaged) (goods m.nad m.bytes k ++ hurt_sign (frame m.nad m.bytes k) ∷ [])
hurt-settled m k h = record { fate = goods-hurt m.nad m.bytes k (frame m.nad m.bytes k); settled = refl; begins = more-prefix m.nad m.bytes k (Some SeenDamaged) h }

pub sent-settled : (m : Addressed) → IsSettled (m, Sent) (goods m.nad m.bytes (frame_count (length m.bytes)))
sent-settled m = record { fate = goods-sent m.nad m.bytes; settled = refl; begins = goods-prefix m.nad m.bytes (frame_count (length m.bytes)) (omega arith) }

-- a mark where a message is begun
pub busy-mark : (e : Ear) (signs : List Sign) (ps : List (Addressed × Fate)) (m : Addressed) (k : ℕ) (c : Cause) → Busy e signs ps m k → Idle e (Mark c ∷ signs) (ps ++ (m, Lost c) ∷ [])
busy-mark e signs ps m k c t = record {
  settled = rw (t.blocks, with_last-append (λ (b : List Sign). b ++ Mark c ∷ []) t.earlier (goods m.nad m.bytes (suc k))) (settled-more ps t.earlier (m, Lost c) (goods m.nad m.bytes (suc k) ++ Mark c ∷ []) t.settled (lost-settled m k c t.more));
  reads = reads-nothing e (pieces (heard_of signs)) [] refl
      ∙ ap (filter_map (message_to e)) t.pieces ∙ reads-nothing e t.cut (first_frames m.nad m.bytes (suc k)) (to-none e m k t.meant t.more)
      ∙ t.reads ∙ sym (sent-lost ps m c);
}

-- a first frame that was damaged
pub idle-hurt : (e : Ear) (signs : List Sign) (ps : List (Addressed × Fate)) (m : Addressed) → IsFor e m → Idle e signs ps → Idle e (hurt_sign (frame m.nad m.bytes 0) ∷ signs) (ps ++ (m, Lost Damaged) ∷ [])
idle-hurt e signs ps m meant t = record {
  settled = rw (frame-begins m.nad m.bytes meant.can) (settled-more ps (blocks_of signs) (m, Lost Damaged) (hurt_sign (frame m.nad m.bytes 0) ∷ []) t.settled (hurt-settled m 0 (count-some m.bytes)));
  reads = t.reads ∙ sym (sent-lost ps m Damaged);
}

-- a later one
pub busy-hurt : (e : Ear) (signs : List Sign) (ps : List (Addressed × Fate)) (m : Addressed) (k : ℕ) → Busy e signs ps m k → Idle e (hurt_sign (frame m.nad m.bytes (suc k)) ∷ signs) (ps ++ (m, Lost Damaged) ∷ [])
busy-hurt e signs ps m k t = record {
  settled = rw (frame-continues m.nad m.bytes k, t.blocks, in_last-append t.earlier (goods m.nad m.bytes (suc k)) (hurt_sign (frame m.nad m.bytes (suc k))))
      (settled-more ps t.earlier (m, Lost Damaged) (goods m.nad m.bytes (suc k) ++ hurt_sign (frame m.nad m.bytes (suc k)) ∷ []) t.settled (hurt-settled m (suc k) t.more));
  reads = ap (filter_map (message_to e)) t.pieces ∙ reads-nothing e t.cut (first_frames m.nad m.bytes (suc k)) (to-none e m k t.meant t.more) ∙ t.reads ∙ sym (sent-lost ps m Damaged);
}

-- a first frame that was good
pub idle-whole : (e : Ear) (signs : List Sign) (ps : List (Addressed × Fate)) (m : Addressed) → IsFor e m → frame_count (length m.bytes) ≡ 1 → Idle e signs ps → Idle e (good_sign (frame m.nad m.bytes 0) ∷ signs) (ps ++ (m, Sent) ∷ [])
idle-whole e signs ps m meant one t =
    let all : IsSettled (m, Sent) (goods m.nad m.bytes 1) = rw one at (sent-settled m)
    in record {
      settled = rw (frame-begins m.nad m.bytes meant.can) (settled-more ps (blocks_of signs) (m, Sent) (good_sign (frame m.nad m.bytes 0) ∷ []) t.settled all);
      reads = rw (frame-begins m.nad m.bytes meant.can) (reads-more e (pieces (heard_of signs)) (frame m.nad m.bytes 0 ∷ []) (Some m.bytes) (rw one at (to-all e m meant)) ∙ ap (λ (x : List (List ℕ)). x ++ m.bytes ∷ []) t.reads ∙ sym (sent-sent ps m));
    }

pub idle-part : (e : Ear) (signs : List Sign) (ps : List (Addressed × Fate)) (m : Addressed) → IsFor e m → 1 < frame_count (length m.bytes) → Idle e signs ps → Busy e (good_sign (frame m.nad m.bytes 0) ∷ signs) ps m 0
idle-part e signs ps m meant more t = record {
  meant = meant;
  more = more;
  earlier = blocks_of signs;
  blocks = rw (frame-begins m.nad m.bytes meant.can);
  settled = t.settled;
  cut = pieces (heard_of signs);
  pieces = rw (frame-begins m.nad m.bytes meant.can);
  reads = t.reads;
}

pub goods-more : (n : ℕ) (m : List ℕ) (k : ℕ) → goods n m (suc k) ≡ goods n m k ++ good_sign (frame n m k) ∷ []
goods-more n m k = ap (map good_sign) (first-more n m k) ∙ map-append good_sign (first_frames n m k) (frame n m k ∷ [])

-- a later one
pub busy-part : (e : Ear) (signs : List Sign) (ps : List (Addressed × Fate)) (m : Addressed) (k : ℕ) → suc (suc k) < frame_count (length m.bytes) → Busy e signs ps m k → Busy e (good_sign (frame m.nad m.bytes (suc k)) ∷ signs) ps m (suc k)
busy-part e signs ps m k more t = record {
  meant = t.meant;
  more = more;
  earlier = t.earlier;
  blocks = rw (frame-continues m.nad m.bytes k, t.blocks, in_last-append t.earlier (goods m.nad m.bytes (suc k)) (good_sign (frame m.nad m.bytes (suc k))), goods-more m.nad m.bytes (suc k));
  settled = t.settled;
  cut = t.cut;
  pieces = rw (frame-continues m.nad m.bytes k, t.pieces, with_last-append (λ (p : List (List ℕ)). p ++ frame m.nad m.bytes (suc k) ∷ []) t.cut (first_frames m.nad m.bytes (suc k)), first-more m.nad m.bytes (suc k));
  reads = t.reads;
}

pub busy-whole : (e : Ear) (signs : List Sign) (ps : List (Addressed × Fate)) (m : Addressed) (k : ℕ) → frame_count (length m.bytes) ≡ suc (suc k) → Busy e signs ps m k → Idle e (good_sign (frame m.nad m.bytes (suc k)) ∷ signs) (ps ++ (m, Sent) ∷ [])
busy-whole e signs ps m k last t =
    let all : IsSettled (m, Sent) (goods m.nad m.bytes (suc (suc k))) = rw last at (sent-settled m)
    in let read : message_to e (first_frames m.nad m.bytes (suc (suc k))) ≡ Some m.bytes = rw last at (to-all e m t.meant)
    in record {
      settled = rw (frame-continues m.nad m.bytes k, t.blocks, in_last-append t.earlier (goods m.nad m.bytes (suc k)) (good_sign (frame m.nad m.bytes (suc k))), ← goods-more m.nad m.bytes (suc k)) (settled-more ps t.earlier (m, Sent) (goods m.nad m.bytes (suc (suc k))) t.settled all);
      reads = rw (frame-continues m.nad m.bytes k, t.pieces, with_last-append (λ (p : List (List ℕ)). p ++ frame m.nad m.bytes (suc k) ∷ []) t.cut (first_frames m.nad m.bytes (suc k)), ← first-more m.nad m.bytes (suc k))
          (reads-more e t.cut (first_frames m.nad m.bytes (suc (suc k))) (Some m.bytes) read ∙ ap (λ (x : List (List ℕ)). x ++ m.bytes ∷ []) t.reads ∙ sym (sent-sent ps m));
    }
