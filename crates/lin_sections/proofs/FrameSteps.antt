-- Entries of a table, from its last one on; and tables, one by one.
use Rattle.std.proofs.Common.{◌≡◌, ◌∙◌, ℕ, ◌+◌, ◌*◌, ◌≤◌, ◌<◌, true, false, cond, List, [], ◌∷◌, ◌++◌, length, take, drop, get_or, refl, sym, ap, arith, flat_map, drop-cons, add-one}
use Rattle.std.specs.Prelude.{◌^◌, max}
use Rattle.std.proofs.Math.Nat.{zero-max}
use Rattle.std.proofs.Math.Seq.{drop-length}
use Rattle.std.proofs.lemmas.List.{flat_map_more, take_more}
use Rattle.lin_cluster.specs.LintNames.{is_of_text}
use Rattle.lin_parts.specs.declared.description.Table.{Table}
use Rattle.lin_parts.specs.declared.description.TableEntry.{TableEntry}
use Rattle.lin_sections.specs.FrameTimes.{is_frame_entry, distances, longest, table_distances, time_to}

-- ---- entries: what follows from one of them on

pub record Follows (w : List ℕ) (es : List TableEntry) (first left next most : ℕ) : Type 0 where
  pub within : left ≤ length es
  pub time : (others : List TableEntry) → first ≡ time_to w others → next ≡ time_to w (drop left es ++ others)
  pub distance : (others : List TableEntry) → first ≡ time_to w others → most ≡ longest (distances w (drop left es) others)
  pub bound : next + left * 2 ^ 32 ≤ first + length es * 2 ^ 32

pub none-follows : (w : List ℕ) (es : List TableEntry) (first : ℕ) → Follows w es first (length es) first 0
none-follows w es first = record {
  within = omega arith;
  time = λ others is. is ∙ ap (λ fs. time_to w (fs ++ others)) (sym (drop-length es));
  distance = λ others is. ap (λ fs. longest (distances w fs others)) (sym (drop-length es));
  bound = omega arith;
}

one-left : (es : List TableEntry) (i : ℕ) (e : TableEntry) → i < length es → e ≡ get_or es i e → drop i es ≡ e ∷ drop (i + 1) es
one-left es i e h is = drop-cons es i e h ∙ (λ j. sym is j ∷ drop (sym (add-one i) j) es)

farthest : (w : List ℕ) (e : TableEntry) (es others : List TableEntry) → longest (distances w (e ∷ es) others) ≡ cond (is_frame_entry w e) (max (time_to w (es ++ others)) (longest (distances w es others))) (longest (distances w es others))
farthest w e es others =
    elim (is_frame_entry w e) as (λ b. longest (cond b (time_to w (es ++ others) ∷ distances w es others) (distances w es others)) ≡ cond b (max (time_to w (es ++ others)) (longest (distances w es others))) (longest (distances w es others))) [
      | true ↦ refl
      | false ↦ refl
    ]

pub one-follows : (w : List ℕ) (es : List TableEntry) (first left i next most now far : ℕ) (e : TableEntry) → left ≡ i + 1 → i < length es → e ≡ get_or es i e
    → now ≡ e.delay.value + cond (is_frame_entry w e) 0 next → far ≡ cond (is_frame_entry w e) (max next most) most → now ≤ next + 2 ^ 32
    → Follows w es first left next most → Follows w es first i now far
one-follows w es first left i next most now far e at h is here so bounded behind = record {
  within = omega arith;
  time = λ others from.
      here ∙ ap (λ n. e.delay.value + cond (is_frame_entry w e) 0 n) (behind.time others from ∙ ap (λ n. time_to w (drop n es ++ others)) at)
      ∙ ap (λ fs. time_to w (fs ++ others)) (sym (one-left es i e h is));
  distance = λ others from.
      so
      ∙ (λ j. cond (is_frame_entry w e) (max (behind.time others from j) (behind.distance others from j)) (behind.distance others from j))
      ∙ ap (λ n. cond (is_frame_entry w e) (max (time_to w (drop n es ++ others)) (longest (distances w (drop n es) others))) (longest (distances w (drop n es) others))) at
      ∙ sym (farthest w e (drop (i + 1) es) others)
      ∙ ap (λ fs. longest (distances w fs others)) (sym (one-left es i e h is));
  bound = let b : next + left * 2 ^ 32 ≤ first + length es * 2 ^ 32 = behind.bound in omega arith;
}

-- ---- tables

max-again : (a b c : ℕ) → max a (max b c) ≡ max (max a b) c
max-again a b c = omega arith

pub longest-both : (ns ms : List ℕ) → longest (ns ++ ms) ≡ max (longest ns) (longest ms)
longest-both [] ms = sym (zero-max (longest ms))
longest-both (n ∷ ns) ms = ap (max n) (longest-both ns ms) ∙ max-again n (longest ns) (longest ms)

pub table-more : (w : List ℕ) (ts : List Table) (i : ℕ) (t : Table) (old now more : ℕ) → i < length ts → t ≡ get_or ts i t → old ≡ longest (flat_map (table_distances w) (take i ts)) → more ≡ longest (table_distances w t) → now ≡ max old more
    → now ≡ longest (flat_map (table_distances w) (take (i + 1) ts))
table-more w ts i t old now more h is so one here =
    here ∙ (λ j. max (so j) (one j)) ∙ sym (longest-both (flat_map (table_distances w) (take i ts)) (table_distances w t))
    ∙ ap longest (flat_map_more (table_distances w) [] (take i ts) t)
    ∙ ap (λ u. longest (flat_map (table_distances w) (take i ts ++ u ∷ []))) is
    ∙ ap (λ us. longest (flat_map (table_distances w) us)) (sym (take_more ts i t h))

pub in-table : (w : List ℕ) (t : Table) (es : List TableEntry) (n : ℕ) → es ≡ t.entries → is_of_text t ≡ true → n ≡ longest (distances w es es) → n ≡ longest (table_distances w t)
in-table w t es n same of so = so ∙ ap (λ fs. longest (distances w fs fs)) same ∙ sym (ap longest (rw of refl))
