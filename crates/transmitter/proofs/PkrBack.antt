-- What the readers say of a PKR message that was written.
-- Assumes nothing.
use mathlib.Core.Path.{◌≡◌, refl, sym, ap, ◌∙◌, subst⁻¹}
use mathlib.Core.List.{List, [], ◌∷◌, ◌++◌, map, append_assoc}
use mathlib.Core.Bool.{Bool, true, false, cond, not, ◌||◌}
use Prim.Native.Nat.{ℕ, ◌+◌, ◌-◌, ◌*◌, ◌/◌, ◌%◌, ◌^◌, ◌≤◌, ◌<◌}
use native.Mathlib.Omega.{arith}
use lib.Dec.{ltb, eqb}
use lib.ListN.{length, take, drop, get_or, length-append, length-drop}
use lib.Seq.{take_at, drop_at, take-length, drop-drop, drop-append-le, take-append-le}
use borrow.Author.Tests.{eqb-true, eqb-false, le-ltb, ne_eqb, not-false}
use Rattle.layouts.specs.Answer.{gives}
use Rattle.layouts.specs.Bits.{field, Field, the, value}
use Rattle.layouts.specs.Sizes.{size, pkr_blocks, read_size, key_types, naming}
use Rattle.layouts.specs.DsmPkr.{pkr_layout, new_key_sizes, count, key_bytes, new_key_part, leaf_part, padding_part}
use Rattle.layouts.proofs.Answers.{pass, done, Passed, none_fails, copied_bytes}
use Rattle.layouts.proofs.Pkr.{node_there}
use Rattle.layouts.specs.Packed.{packed_on, bytes_of, too_wide}
use Rattle.transmitter.specs.Write.{PkrValues, pkr_rows, pkr_first, pkr_second, pkr_message, pkr_checks, write_pkr}
use Rattle.transmitter.specs.ReadBack.{PkrReads, PkrReadsBack}
use Rattle.layouts.proofs.Packed.{field_of_bytes, field_front, field_behind, length_bytes, rows_say, or_false, not_wide}
use Rattle.transmitter.proofs.Writes.{none_refused, message_back}
use Rattle.transmitter.proofs.KrootBack.{size_read, name_read, number_read, shown_of, part_there}

-- what is known of a message that was written
pub record PkrFacts (m : List ℕ) (v : PkrValues) (nodes key padding : List ℕ) : Type 0 where
  pub count_says : value (the "NB_DP" pkr_layout) m ≡ v.nb_dp
  pub message_says : value (the "MID" pkr_layout) m ≡ v.mid
  pub type_says : value (the "NPKT" pkr_layout) m ≡ v.npkt
  pub key_id_says : value (the "NPKID" pkr_layout) m ≡ v.npkid
  pub long : length m ≡ 130 + length key + length padding
  pub nodes_there : (k : ℕ) → k < 4 → take 32 (drop (32 * k) nodes) ≡ take 32 (drop (1 + 32 * k) m)
  pub key_there : take (length key) (drop 130 m) ≡ key
  pub leaf_there : take (1 + length key) (drop 129 m) ≡ (16 * v.npkt + v.npkid) ∷ key
  pub padding_there : take (length padding) (drop (130 + length key) m) ≡ padding
  pub count_some : size pkr_blocks v.nb_dp ≡ 0 → ⊥
  pub key_some : length key ≡ 0 → ⊥
  pub key_long : length key ≡ size (new_key_sizes (size pkr_blocks v.nb_dp)) v.npkt
  pub whole : 130 + length key + length padding ≡ 13 * size pkr_blocks v.nb_dp

module _ (m : List ℕ) (v : PkrValues) (nodes key padding : List ℕ) (f : PkrFacts m v nodes key padding) where
  head_there : 1040 ≤ 8 * length m
  head_there = omega (arith, f.long)

  count_is : count m ≡ size pkr_blocks v.nb_dp
  count_is = ap (size pkr_blocks) f.count_says

  key_bytes_lem : key_bytes m ≡ length key
  key_bytes_lem =
      ap (λ (c : ℕ). size (new_key_sizes c) (value (the "NPKT" pkr_layout) m)) count_is
      ∙ ap (size (new_key_sizes (size pkr_blocks v.nb_dp))) f.type_says ∙ sym f.key_long

  -- the checks of the key's size, and what is left after them
  sized : key_bytes m ≡ 0 → ⊥
  sized z = f.key_some (sym key_bytes_lem ∙ z)

  key_size_is : read_size (the "NPKT" pkr_layout) (size (new_key_sizes (count m))) m ≡ gives (length key ∷ [])
  key_size_is =
      sym (pass 5 _ _ _ (le-ltb (8 * length m) 1036 (omega (arith, head_there)))
      (pass 6 _ _ _ (ne_eqb (key_bytes m) 0 sized) (done _ (ap (λ (n : ℕ). gives (n ∷ [])) (sym key_bytes_lem)))))

  key_is : new_key_part m ≡ gives (130 ∷ length key ∷ [])
  unfolding new_key_part
  key_is =
      sym (pass 5 _ _ _ (le-ltb (8 * length m) 1036 (omega (arith, head_there)))
      (pass 6 _ _ _ (ne_eqb (key_bytes m) 0 sized)
      (pass 5 _ _ _ (le-ltb (length m) (130 + key_bytes m) (omega (arith, key_bytes_lem, f.long)))
      (done _ (ap (λ (n : ℕ). gives (130 ∷ n ∷ [])) (sym key_bytes_lem))))))

  leaf_is : leaf_part m ≡ gives (129 ∷ (1 + length key) ∷ [])
  unfolding leaf_part
  leaf_is =
      sym (pass 5 _ _ _ (le-ltb (8 * length m) 1036 (omega (arith, head_there)))
      (pass 6 _ _ _ (ne_eqb (key_bytes m) 0 sized)
      (pass 5 _ _ _ (le-ltb (length m) (129 + (1 + key_bytes m)) (omega (arith, key_bytes_lem, f.long)))
      (done _ (ap (λ (n : ℕ). gives (129 ∷ (1 + n) ∷ [])) (sym key_bytes_lem))))))

  padding_is : padding_part m ≡ gives ((130 + length key) ∷ length padding ∷ [])
  unfolding padding_part
  padding_is =
      let left : 13 * count m - (130 + key_bytes m) ≡ length padding = omega (arith, count_is, key_bytes_lem, f.whole) in
      sym (pass 5 _ _ _ (le-ltb (8 * length m) 1036 (omega (arith, head_there)))
      (pass 6 _ _ _ (ne_eqb (key_bytes m) 0 sized)
      (pass 6 _ _ _ (ne_eqb (count m) 0 (λ z. f.count_some (sym count_is ∙ z)))
      (pass 11 _ _ _ (le-ltb (13 * count m) (130 + key_bytes m) (omega (arith, count_is, key_bytes_lem, f.whole)))
      (pass 5 _ _ _ (le-ltb (length m) (130 + key_bytes m + (13 * count m - (130 + key_bytes m))) (omega (arith, left, key_bytes_lem, f.long)))
      (done _ (rw (left, key_bytes_lem))))))))

  pub pkr_reads : PkrReads m v nodes key padding
  pkr_reads =
      record {
        count_read = size_read (the "NB_DP" pkr_layout) m (size pkr_blocks) v.nb_dp (omega (arith, head_there)) f.count_says f.count_some;
        count_as_it_stands = number_read (the "NB_DP" pkr_layout) m v.nb_dp (omega (arith, head_there)) f.count_says;
        message_read = number_read (the "MID" pkr_layout) m v.mid (omega (arith, head_there)) f.message_says;
        nodes_read = λ k h. sym (copied_bytes 32 m (node_there m k (omega arith) (omega (arith, head_there))) (f.nodes_there k h));
        type_as_it_stands = number_read (the "NPKT" pkr_layout) m v.npkt (omega (arith, head_there)) f.type_says;
        type_read = name_read (the "NPKT" pkr_layout) m key_types v.npkt (omega (arith, head_there)) f.type_says;
        key_id_read = number_read (the "NPKID" pkr_layout) m v.npkid (omega (arith, head_there)) f.key_id_says;
        key_size_read = key_size_is;
        key_shown = key_is;
        key_read = shown_of m key_is ∙ f.key_there;
        leaf_shown = leaf_is;
        leaf_read = shown_of m leaf_is ∙ f.leaf_there;
        padding_shown = padding_is;
        padding_read = shown_of m padding_is ∙ f.padding_there;
      }

-- a count is 13 at least
pub blocks_many : (n : ℕ) → (size pkr_blocks n ≡ 0 → ⊥) → 13 ≤ size pkr_blocks n
unfolding pkr_blocks
blocks_many n = go (eqb n 7) (eqb n 8) (eqb n 9) (eqb n 10)
  where
    go : (a b c d : Bool) → (◌≡◌ {A = ℕ} (cond a 13 (cond b 14 (cond c 15 (cond d 16 0)))) 0 → ⊥) → 13 ≤ cond a 13 (cond b 14 (cond c 15 (cond d 16 0)))
    go true b c d ne = omega arith
    go false true c d ne = omega arith
    go false false true d ne = omega arith
    go false false false true ne = omega arith
    go false false false false ne = absurd (ne refl)

-- a type that has a name has a size
pub typed_some : (b t : ℕ) → 13 ≤ b → (length (naming key_types t) ≡ 0 → ⊥) → size (new_key_sizes b) t ≡ 0 → ⊥
unfolding key_types
typed_some b t h = go (eqb t 1) (eqb t 3) (eqb t 4)
  where
    go : (x y z : Bool) → (length (cond x (t ∷ []) (cond y (t ∷ []) (cond z (t ∷ []) []))) ≡ 0 → ⊥) → ◌≡◌ {A = ℕ}
        (cond x 33 (cond y 67 (cond z (13 * b - 130) 0))) 0 → ⊥
    go true y z ne e = omega arith
    go false true z ne e = omega arith
    go false false true ne e = omega arith
    go false false false ne e = ne refl

-- the byte of two halves
pub half_bytes : (a b : ℕ) → a < 16 → b < 16 → bytes_of 1 (packed_on 0 pkr_second (a ∷ b ∷ [])) ≡ (16 * a + b) ∷ []
unfolding bytes_of packed_on
half_bytes a b g h = ap (λ (n : ℕ). n ∷ []) (omega arith)

-- the four values fit: so do the two of each byte
apart : (a b c d : ℕ) → too_wide pkr_rows (a ∷ b ∷ c ∷ d ∷ []) ≡ false
    → (too_wide pkr_first (a ∷ b ∷ []) ≡ false) × (too_wide pkr_second (c ∷ d ∷ []) ≡ false)
unfolding too_wide
apart a b c d e =
    let rest : Bool = not (ltb c 16) || (not (ltb d 16) || false) in
    let x = or_false (not (ltb a 16)) (not (ltb b 16) || rest) e in
    let y = or_false (not (ltb b 16)) rest x.1 in (rw (x.0, y.0), y.1)

pub halves : (a b : ℕ) → too_wide pkr_second (a ∷ b ∷ []) ≡ false → (a < 16) × (b < 16)
unfolding too_wide
halves a b e =
    let o : (not (ltb a 16) ≡ false) × (too_wide (the "NPKID" pkr_layout ∷ []) (b ∷ []) ≡ false) = or_false (not (ltb a 16)) _ e in
    (not_wide a 16 o.0, not_wide b 16 (or_false (not (ltb b 16)) false o.1).0)

-- what the checks leave
module _ (memory : List ℕ) (id : ℕ) (v : PkrValues) (nodes key padding : List ℕ) (p : Passed (pkr_checks memory id v nodes key padding)) where
  pub pkr_facts : PkrFacts (pkr_message v nodes key padding) v nodes key padding
  unfolding pkr_message
  pkr_facts =
      let both = apart v.nb_dp v.mid v.npkt v.npkid p.1.1.0 in
      let n1 : ℕ = packed_on 0 pkr_first (v.nb_dp ∷ v.mid ∷ []) in
      let n2 : ℕ = packed_on 0 pkr_second (v.npkt ∷ v.npkid ∷ []) in
      let a : List ℕ = bytes_of 1 n1 in
      let b : List ℕ = bytes_of 1 n2 in
      let la : length a ≡ 1 = length_bytes 1 n1 in
      let lb : length b ≡ 1 = length_bytes 1 n2 in
      let ln : length nodes ≡ 128 = eqb-true _ _ (not-false _ p.1.0) in
      let m : List ℕ = a ++ nodes ++ b ++ key ++ padding in
      let l129 : length (a ++ nodes) ≡ 129 = simp length-append (omega (arith, la, ln)) in
      let l130 : length (a ++ nodes ++ b) ≡ 130 = simp length-append (omega (arith, la, lb, ln)) in
      let apart1 : m ≡ a ++ (nodes ++ (b ++ (key ++ padding))) = simp append_assoc in
      let apart2 : m ≡ (a ++ nodes) ++ (b ++ (key ++ padding)) = simp append_assoc in
      let v1 : map (λ (f : Field). value f m) pkr_first ≡ v.nb_dp ∷ v.mid ∷ [] =
      rows_say m 0 0 pkr_first 8 (v.nb_dp ∷ v.mid ∷ []) tt both.0 refl
      (λ s w g h. ap (λ (l : List ℕ). field l s w) apart1 ∙ field_front a (nodes ++ (b ++ (key ++ padding))) s w (omega (arith, h, la))
      ∙ field_of_bytes 1 n1 s w h) in
      let v2 : map (λ (f : Field). value f m) pkr_second ≡ v.npkt ∷ v.npkid ∷ [] =
      rows_say m 0 1032 pkr_second 1040 (v.npkt ∷ v.npkid ∷ []) tt both.1 refl
      (λ s w g h.
      let at : s ≡ 8 * length (a ++ nodes) + (s - 1032) = omega (arith, g, l129) in
      let place : 8 - (s - 1032) - w ≡ 1040 - s - w = omega arith in
      ap (λ (l : List ℕ). field l s w) apart2 ∙ ap (λ (x : ℕ). field ((a ++ nodes) ++ (b ++ (key ++ padding))) x w) at
      ∙ field_behind (a ++ nodes) (b ++ (key ++ padding)) (s - 1032) w
      ∙ field_front b (key ++ padding) (s - 1032) w (omega (arith, g, h, lb))
      ∙ field_of_bytes 1 n2 (s - 1032) w (omega (arith, g, h))
      ∙ ap (λ (x : ℕ). n2 / 2 ^ x % 2 ^ w) place) in
      let some : size pkr_blocks v.nb_dp ≡ 0 → ⊥ = eqb-false _ 0 p.1.1.1.1.1.0 in
      let typed : length (naming key_types v.npkt) ≡ 0 → ⊥ = eqb-false _ 0 p.1.1.1.1.1.1.0 in
      let keys : length key ≡ size (new_key_sizes (size pkr_blocks v.nb_dp)) v.npkt = eqb-true _ _ (not-false _ p.1.1.1.1.1.1.1.0) in
      let two : (v.npkt < 16) × (v.npkid < 16) = halves v.npkt v.npkid both.1 in
      record {
        count_says = ap (λ (l : List ℕ). get_or l 0 0) v1;
        message_says = ap (λ (l : List ℕ). get_or l 1 0) v1;
        type_says = ap (λ (l : List ℕ). get_or l 0 0) v2;
        key_id_says = ap (λ (l : List ℕ). get_or l 1 0) v2;
        long = simp length-append (omega (arith, la, lb, ln));
        nodes_there = λ k h. sym (
            ap (λ (l : List ℕ). take 32 (drop (1 + 32 * k) l)) apart1
            ∙ ap (take 32) (sym (drop-drop (32 * k) 1 (a ++ (nodes ++ (b ++ (key ++ padding)))))
            ∙ ap (drop (32 * k)) (drop_at a (nodes ++ (b ++ (key ++ padding))) 1 la)
            ∙ drop-append-le (32 * k) nodes (b ++ (key ++ padding)) (omega (arith, h, ln)))
            ∙ take-append-le 32 (drop (32 * k) nodes) (b ++ (key ++ padding)) (simp length-drop (omega (arith, h, ln))));
        key_there = part_there (a ++ nodes ++ b) key padding 130 l130;
        leaf_there =
            ap (λ (l : List ℕ). take (1 + length key) (drop 129 l)) apart2
            ∙ ap (take (1 + length key)) (drop_at (a ++ nodes) (b ++ (key ++ padding)) 129 l129)
            ∙ ap (take (1 + length key)) (sym (append_assoc b key padding))
            ∙ take_at (b ++ key) padding (1 + length key) (simp length-append (omega (arith, lb)))
            ∙ ap (λ (l : List ℕ). l ++ key) (half_bytes v.npkt v.npkid two.0 two.1);
        padding_there =
            ap (take (length padding)) (drop_at (a ++ nodes ++ b ++ key) padding (130 + length key) (simp length-append (omega (arith, la, lb, ln))))
            ∙ take-length padding;
        count_some = some;
        key_some = λ z. typed_some (size pkr_blocks v.nb_dp) v.npkt (blocks_many v.nb_dp some) typed (sym keys ∙ z);
        key_long = keys;
        whole = eqb-true _ _ (not-false _ p.1.1.1.1.1.1.1.1.0);
      }

pub pkr_back : PkrReadsBack
unfolding write_pkr
pkr_back memory id v nodes key padding n e =
    let checks = pkr_checks memory id v nodes key padding in
    let message = pkr_message v nodes key padding in
    let p : Passed checks = none_fails checks tt (none_refused checks memory message id e) in
    subst⁻¹ (λ (m : List ℕ). PkrReads m v nodes key padding) (message_back checks memory message id 1 n e)
    (pkr_reads message v nodes key padding (pkr_facts memory id v nodes key padding p))
