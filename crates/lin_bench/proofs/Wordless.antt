-- Lines of steps say no values in words: none of their fields is `=` or `~` behind a signal of a write,
-- where no signal is called so.
use Rattle.std.proofs.Common.{◌≡◌, ◌∙◌, ◌-◌, ◌&&◌, ◌||◌, ◌⊎◌, ℕ, zero, suc, List, [], ◌∷◌, ◌++◌, Bool, true, false, cond, refl, sym, ap, inl, inr, Option, Some, None, Result, Ok, Err, take}
use Rattle.std.specs.Prelude.{codes, option_and_then, slice_index_or}
use Rattle.std.specs.Option.{option_map, option_map_or}
use Rattle.std.specs.Result.{result_ok}
use Rattle.std.specs.Str.{bytes_eq}
use Rattle.std.proofs.lemmas.List.Quantifiers.{position-Some}
use Rattle.std.proofs.lemmas.Slice.Eq.{bytes_eq-Decides}
use Rattle.hex.specs.Hex.{decode_of}
use Rattle.lin_parts.specs.declared.parts.Parts.{Parts}
use Rattle.lin_core.specs.declared.port.PortId.{PortId}
use Rattle.lin_core.specs.declared.step.Step.{Step}
use Rattle.lin_frame.specs.declared.value.Value.{Value}
use Rattle.lin_log.specs.Language.{named_language, number_named}
use Rattle.lin_log.specs.Said.{alone, bytes_fields, bytes_of, hex_bytes, hurt_form, is_port, node_field, node_form, only, port, port_step, hex_row, send_form, signal_field, step_after, step_form, switch_form, timeout_form, value_field, write_form, write_of}
use Rattle.lin_log.specs.Said as log
use Rattle.lin_log.specs.declared.reason.Reason.{Reason}
use Rattle.lin_log.specs.declared.reason.Reason.TheVariants.{NoPort, NoSignal, NotBytes}
use Rattle.lin_bench.specs.Words.{is_expect, is_value_mark, is_write, mark_at, wish_of, worded, worded_at}
use Rattle.lin_bench.specs.Plain.{HasNoMarks}
use Rattle.lin_bench.proofs.Unwished.{and-none, unwished}

-- ---- marks

mark-cases : (f : List ℕ) → is_value_mark f ≡ true → (f ≡ codes "=") ⊎ (f ≡ codes "~")
mark-cases f e = elim (bytes_eq f (codes "=")) as (λ b. bytes_eq f (codes "=") ≡ b → (b || bytes_eq f (codes "~")) ≡ true → (f ≡ codes "=") ⊎ (f ≡ codes "~")) [
  | true ↦ λ h k. inl ((bytes_eq-Decides f (codes "=")).0 h)
  | false ↦ λ h k. inr ((bytes_eq-Decides f (codes "~")).0 k)
] refl e

-- what no mark passes, no field passes that is one
no-mark : {A : Type 0} (F : List ℕ → Result A Reason) (f : List ℕ) (x : A) → is_value_mark f ≡ true → (F (codes "=") ≡ Ok x → ⊥) → (F (codes "~") ≡ Ok x → ⊥) → F f ≡ Ok x → ⊥
no-mark F f x m one other e = elim (mark-cases f m) [
  | inl is ↦ one (sym (ap F is) ∙ e)
  | inr is ↦ other (sym (ap F is) ∙ e)
]

pub other-word : (f g : List ℕ) (p : List ℕ → Bool) → p f ≡ true → p g ≡ false → bytes_eq f g ≡ false
other-word f g p holds fails = elim (bytes_eq f g) as (λ b. bytes_eq f g ≡ b → b ≡ false) [
  | true ↦ λ e. (let same : true ≡ false = sym holds ∙ ap p ((bytes_eq-Decides f g).0 e) ∙ fails in cc)
  | false ↦ λ e. refl
] refl

-- ---- no mark is a value, a signal or bytes

no-value : (c : Parts) (f : List ℕ) (v : Value) → is_value_mark f ≡ true → value_field (named_language c) f ≡ Ok v → ⊥
unfolding value_field
no-value c f v m e = no-mark (value_field (named_language c)) f v m (λ h. absurd (cc)) (λ h. absurd (cc)) e

none-called : (f : List ℕ) (n : ℕ) (o : Option ℕ) → o ≡ None → log.or_bad o (NoSignal f) ≡ Ok n → ⊥
none-called f n None e h = absurd (cc)
none-called f n (Some m) e h = absurd (cc)

no-signal : (c : Parts) (f : List ℕ) (n : ℕ) → HasNoMarks c → is_value_mark f ≡ true → signal_field (named_language c) f ≡ Ok n → ⊥
unfolding signal_field
no-signal c f n none m e =
    no-mark (signal_field (named_language c)) f n m
    (none-called (codes "=") n (number_named (named_language c).signals (codes "=")) none.equals)
    (none-called (codes "~") n (number_named (named_language c).signals (codes "~")) none.tilde)
    e

abbrev IsBytes : List ℕ → Type 0
IsBytes f = (bs : List ℕ) × (result_ok (decode_of f) ≡ Some bs)

no-some : (F : List ℕ → Option (List ℕ)) (f bs : List ℕ) → is_value_mark f ≡ true → F (codes "=") ≡ None → F (codes "~") ≡ None → F f ≡ Some bs → ⊥
no-some F f bs m one other e = elim (mark-cases f m) [
  | inl is ↦ absurd (let no : None ≡ Some bs = sym one ∙ ap F (sym is) ∙ e in cc)
  | inr is ↦ absurd (let no : None ≡ Some bs = sym other ∙ ap F (sym is) ∙ e in cc)
]

pub row-first : (r o : Option (List ℕ)) (bs : List ℕ) → option_map_or (λ bytes. option_map (λ more. bytes ++ more) o) r None ≡ Some bs → (xs ys : List ℕ) × (r ≡ Some xs) × (o ≡ Some ys)
row-first None o bs e = absurd (cc)
row-first (Some xs) None bs e = absurd (cc)
row-first (Some xs) (Some ys) bs e = (xs, ys, refl, refl)

no-row : (fs : List (List ℕ)) (n : ℕ) (bs : List ℕ) → hex_row fs ≡ Some bs → is_value_mark (slice_index_or fs n []) ≡ true → ⊥
no-row [] n bs e m = absurd (cc)
no-row (f ∷ fs) zero bs e m =
    let p = row-first (result_ok (decode_of f)) (hex_row fs) bs e in
    no-some (λ g. result_ok (decode_of g)) f p.0 m refl refl p.2
no-row (f ∷ fs) (suc n) bs e m =
    let p = row-first (result_ok (decode_of f)) (hex_row fs) bs e in
    no-row fs n p.1 p.3 m

no-bytes-of : (f : List ℕ) (fs : List (List ℕ)) (n : ℕ) (bs : List ℕ) → bytes_of true f fs ≡ Some bs → is_value_mark (slice_index_or (f ∷ fs) n []) ≡ true → ⊥
no-bytes-of f [] zero bs e m = no-some hex_bytes f bs m refl refl e
no-bytes-of f [] (suc n) bs e m = absurd (cc)
no-bytes-of f (g ∷ fs) n bs e m = no-row (f ∷ g ∷ fs) n bs e m

pub some-found : {A : Type 0} (o : Option A) (why : Reason) (x : A) → log.or_bad o why ≡ Ok x → o ≡ Some x
some-found None why x e = absurd (cc)
some-found (Some y) why x e = cc

no-bytes : (c : Parts) (fs : List (List ℕ)) (n : ℕ) (bs : List ℕ) → bytes_fields (named_language c) fs ≡ Ok bs → is_value_mark (slice_index_or fs n []) ≡ true → ⊥
unfolding bytes_fields
no-bytes c [] n bs e m = absurd (cc)
no-bytes c (f ∷ fs) n bs e m = no-bytes-of f fs n bs (some-found (bytes_of true f fs) (NotBytes (f ∷ fs)) bs e) m

-- ---- what stands in turn

pub first-done : {A B : Type 0} (r : Result A Reason) (f : A → Result B Reason) (y : B) → log.◌>>=◌ r f ≡ Ok y → (x : A) × (r ≡ Ok x) × (f x ≡ Ok y)
first-done (Ok x) f y e = (x, refl, e)
first-done (Err why) f y e = absurd (cc)

-- ---- the fields of a step behind its word: none behind the first two is a mark

abbrev HasLate : List (List ℕ) → ℕ → Type 0
HasLate fs n = is_value_mark (slice_index_or fs (suc (suc n)) []) ≡ true

late-send : (c : Parts) (fs : List (List ℕ)) (n : ℕ) (s : Step) → send_form (named_language c) fs ≡ Ok s → HasLate fs n → ⊥
unfolding send_form
late-send c [] n s e m = absurd (cc)
late-send c (a ∷ []) n s e m = absurd (cc)
late-send c (a ∷ b ∷ []) n s e m = absurd (cc)
late-send c (a ∷ b ∷ f ∷ fs) n s e m =
    let p = first-done (node_field (named_language c) a) _ s e in
    let q = first-done (node_field (named_language c) b) _ s p.2 in
    let r = first-done (bytes_fields (named_language c) (f ∷ fs)) _ s q.2 in
    no-bytes c (f ∷ fs) n r.0 r.1 m

no-write-of : (c : Parts) (by s : ℕ) (f : List ℕ) (step : Step) → write_of (named_language c) by s f ≡ Ok step → is_value_mark f ≡ true → ⊥
no-write-of c by s f step e m = let p = first-done (value_field (named_language c) f) _ step e in no-value c f p.0 m p.1

late-write : (c : Parts) (fs : List (List ℕ)) (n : ℕ) (s : Step) → write_form (named_language c) fs ≡ Ok s → HasLate fs n → ⊥
unfolding write_form
late-write c [] n s e m = absurd (cc)
late-write c (a ∷ []) n s e m = absurd (cc)
late-write c (a ∷ b ∷ []) n s e m = absurd (cc)
late-write c (a ∷ b ∷ v ∷ []) zero s e m =
    let p = first-done (node_field (named_language c) a) _ s e in
    let q = first-done (signal_field (named_language c) b) _ s p.2 in
    no-write-of c p.0 q.0 v s q.2 m
late-write c (a ∷ b ∷ v ∷ []) (suc n) s e m = absurd (cc)
late-write c (a ∷ b ∷ v ∷ w ∷ fs) n s e m = absurd (cc)

-- (nor the second, of a write)
second-write : (c : Parts) (fs : List (List ℕ)) (s : Step) → HasNoMarks c → write_form (named_language c) fs ≡ Ok s → is_value_mark (slice_index_or fs 1 []) ≡ true → ⊥
unfolding write_form
second-write c [] s none e m = absurd (cc)
second-write c (a ∷ []) s none e m = absurd (cc)
second-write c (a ∷ v ∷ []) s none e m =
    let p = first-done (signal_field (named_language c) a) _ s e in
    no-write-of c _ p.0 v s p.2 m
second-write c (a ∷ b ∷ v ∷ []) s none e m =
    let p = first-done (node_field (named_language c) a) _ s e in
    let q = first-done (signal_field (named_language c) b) _ s p.2 in
    no-signal c b q.0 none m q.1
second-write c (a ∷ b ∷ v ∷ w ∷ fs) s none e m = absurd (cc)

late-hurt : (c : Parts) (fs : List (List ℕ)) (n : ℕ) (s : Step) → hurt_form (named_language c) fs ≡ Ok s → HasLate fs n → ⊥
unfolding hurt_form
late-hurt c fs n s e m = let p = first-done (bytes_fields (named_language c) fs) _ s e in no-bytes c fs (suc (suc n)) p.0 p.1 m

late-timeout : (c : Parts) (word : List ℕ) (fs : List (List ℕ)) (n : ℕ) (s : Step) → timeout_form (named_language c) word fs ≡ Ok s → HasLate fs n → ⊥
unfolding timeout_form
late-timeout c word [] n s e m = absurd (cc)
late-timeout c word (a ∷ []) n s e m = absurd (cc)
late-timeout c word (a ∷ b ∷ []) n s e m = absurd (cc)
late-timeout c word (a ∷ b ∷ d ∷ fs) n s e m = absurd (cc)

late-only : (word : List ℕ) (fs : List (List ℕ)) (n : ℕ) (f : List ℕ) → only word fs ≡ Ok f → HasLate fs n → ⊥
late-only word [] n f e m = absurd (cc)
late-only word (a ∷ []) n f e m = absurd (cc)
late-only word (a ∷ b ∷ fs) n f e m = absurd (cc)

late-switch : (c : Parts) (word : List ℕ) (fs : List (List ℕ)) (n : ℕ) (s : Step) → switch_form (named_language c) word fs ≡ Ok s → HasLate fs n → ⊥
unfolding switch_form
late-switch c word fs n s e m = let p = first-done (only word fs) _ s e in late-only word fs n p.0 p.1 m

late-node : (c : Parts) (step : ℕ → Step) (word : List ℕ) (fs : List (List ℕ)) (n : ℕ) (s : Step) → node_form (named_language c) step word fs ≡ Ok s → HasLate fs n → ⊥
unfolding node_form
late-node c step word fs n s e m = let p = first-done (only word fs) _ s e in late-only word fs n p.0 p.1 m

late-alone : (step : Step) (word : List ℕ) (fs : List (List ℕ)) (n : ℕ) (s : Step) → alone step word fs ≡ Ok s → HasLate fs n → ⊥
unfolding alone
late-alone step word [] n s e m = absurd (cc)
late-alone step word (f ∷ fs) n s e m = absurd (cc)

-- what holds of both ways of a choice
chosen : (b : Bool) (x y : Result Step Reason) (s : Step) → (x ≡ Ok s → ⊥) → (y ≡ Ok s → ⊥) → cond b x y ≡ Ok s → ⊥
chosen true x y s one other e = one e
chosen false x y s one other e = other e

late-step : (c : Parts) (word : List ℕ) (fs : List (List ℕ)) (n : ℕ) (s : Step) → step_form (named_language c) word fs ≡ Ok s → HasLate fs n → ⊥
unfolding step_form
late-step c word fs n s e m =
    chosen (bytes_eq word (codes "send")) _ _ s (λ h. late-send c fs n s h m)
    (chosen (bytes_eq word (codes "write")) _ _ s (λ h. late-write c fs n s h m)
    (chosen (bytes_eq word (codes "open")) _ _ s (λ h. late-alone _ word fs n s h m)
    (chosen (bytes_eq word (codes "answer")) _ _ s (λ h. late-node c _ word fs n s h m)
    (chosen (bytes_eq word (codes "leave")) _ _ s (λ h. late-node c _ word fs n s h m)
    (chosen (bytes_eq word (codes "hurt")) _ _ s (λ h. late-hurt c fs n s h m)
    (chosen (bytes_eq word (codes "finish")) _ _ s (λ h. late-alone _ word fs n s h m)
    (chosen (bytes_eq word (codes "timeout")) _ _ s (λ h. late-timeout c word fs n s h m)
    (chosen (bytes_eq word (codes "switch")) _ _ s (λ h. late-switch c word fs n s h m)
    (chosen (bytes_eq word (codes "sleep")) _ _ s (λ h. late-alone _ word fs n s h m)
    (chosen (bytes_eq word (codes "wake")) _ _ s (λ h. late-alone _ word fs n s h m)
    (chosen (bytes_eq word (codes "close")) _ _ s (λ h. late-node c _ word fs n s h m) (λ h. absurd (cc))))))))))))) e

-- ---- what fields before a mark ask for

pub no-port : (f g : List ℕ) → is_port f ≡ true → is_port g ≡ false → bytes_eq f g ≡ false
no-port f g holds fails = other-word f g is_port holds fails

single : (word mark : List ℕ) → is_port word ≡ true → wish_of (word ∷ []) mark ≡ None
single word mark i = unwished (word ∷ []) mark (ap (λ b. b || false) (no-port word (codes "write") i refl)) refl

double : (word w mark : List ℕ) → is_port word ≡ true → bytes_eq w (codes "write") ≡ false → wish_of (word ∷ w ∷ []) mark ≡ None
double word w mark i h =
    unwished (word ∷ w ∷ []) mark
    (ap (λ b. b || bytes_eq word (codes "write")) h ∙ no-port word (codes "write") i refl)
    (and-none (bytes_eq word (codes "signal")) false refl)

abbrev NoWish : List (List ℕ) → ℕ → Type 0
NoWish fs at = is_value_mark (slice_index_or fs at []) ≡ true → wish_of (take (at - 1) fs) (slice_index_or fs at []) ≡ None

third : (c : Parts) (word w : List ℕ) (fs : List (List ℕ)) (s : Step) (b : Bool) → HasNoMarks c → is_port word ≡ true → bytes_eq w (codes "write") ≡ b → step_form (named_language c) w fs ≡ Ok s
    → is_value_mark (slice_index_or fs 1 []) ≡ true → wish_of (word ∷ w ∷ []) (slice_index_or fs 1 []) ≡ None
unfolding step_form
third c word w fs s false none i h e m = double word w (slice_index_or fs 1 []) i h
third c word w fs s true none i h e m =
    let same : w ≡ codes "write" = (bytes_eq-Decides w (codes "write")).0 h in
    let k : write_form (named_language c) fs ≡ Ok s = sym (ap (λ x. step_form (named_language c) x fs) same) ∙ e in
    absurd (second-write c fs s none k m)

no-wish : (c : Parts) (word w : List ℕ) (fs : List (List ℕ)) (s : Step) → HasNoMarks c → is_port word ≡ true → step_form (named_language c) w fs ≡ Ok s
    → (at : ℕ) → NoWish (word ∷ w ∷ fs) at
no-wish c word w fs s none i e zero m = unwished [] word refl refl
no-wish c word w fs s none i e (suc zero) m = unwished [] w refl refl
no-wish c word w fs s none i e (suc (suc zero)) m = single word (slice_index_or fs 0 []) i
no-wish c word w fs s none i e (suc (suc (suc zero))) m = third c word w fs s (bytes_eq w (codes "write")) none i refl e m
no-wish c word w fs s none i e (suc (suc (suc (suc n)))) m = absurd (late-step c w fs n s e m)

worded-by : (fs : List (List ℕ)) (o : Option ℕ) → mark_at fs ≡ o → ((at : ℕ) → NoWish fs at) → option_and_then (worded_at fs) o ≡ None
worded-by fs None e none = refl
worded-by fs (Some at) e none =
    let found = position-Some is_value_mark fs at [] e in
    ap (option_map _) (none at found.1)

no-field : (at : ℕ) → NoWish [] at
no-field at m = absurd (cc)

step-said : (c : Parts) (word : List ℕ) (fs : List (List ℕ)) (by : PortId) (s : Step) → HasNoMarks c → is_port word ≡ true → step_after (named_language c) fs ≡ Ok s
    → (at : ℕ) → NoWish (word ∷ fs) at
step-said c word [] by s none i e at m = absurd (cc)
step-said c word (w ∷ fs) by s none i e at m = no-wish c word w fs s none i e at m

port-said : (c : Parts) (word : List ℕ) (fs : List (List ℕ)) (s : PortId × Step) → HasNoMarks c → is_port word ≡ true → port_step (named_language c) word fs ≡ Ok s
    → (at : ℕ) → NoWish (word ∷ fs) at
unfolding port_step
port-said c word fs s none i e =
    let p = first-done (port (named_language c) word) _ s e in
    let q = first-done (step_after (named_language c) fs) _ s p.2 in
    step-said c word fs p.0 q.0 none i q.1

fields-by : (c : Parts) (word : List ℕ) (fs : List (List ℕ)) (o : Option (PortId × Step)) (t : Bool) → HasNoMarks c → is_port word ≡ t
    → cond t (log.◌>>=◌ (port_step (named_language c) word fs) (λ s. Ok (Some s))) (Err NoPort) ≡ Ok o → (at : ℕ) → NoWish (word ∷ fs) at
fields-by c word fs o true none i e = let p = first-done (port_step (named_language c) word fs) _ o e in port-said c word fs p.0 none i p.1
fields-by c word fs o false none i e = absurd (cc)

-- fields that say a step say no value in words
pub wordless : (c : Parts) (fs : List (List ℕ)) (o : Option (PortId × Step)) → HasNoMarks c → log.of_fields (named_language c) fs ≡ Ok o → worded fs ≡ None
unfolding worded
wordless c [] o none e = worded-by [] (mark_at []) refl no-field
wordless c (word ∷ fs) o none e = worded-by (word ∷ fs) (mark_at (word ∷ fs)) refl (fields-by c word fs o (is_port word) none refl e)
