-- Laws of the parts of a DSM-PKR message.
-- Assumes nothing.
use mathlib.Core.Path.{◌≡◌, refl, sym, ap, ◌∙◌}
use mathlib.Core.List.{List, [], ◌∷◌, ◌++◌}
use mathlib.Core.Bool.{Bool, true, false, cond}
use Prim.Native.Nat.{ℕ, ◌+◌, ◌-◌, ◌*◌, ◌≤◌, ◌<◌}
use native.Mathlib.Omega.{arith}
use lib.Dec.{ltb, leb, eqb, leb→le}
use lib.ListN.{length, take, drop, replicate}
use borrow.Author.Tests.{ltb-false, eqb-true, eqb-false, lt-ltb, le-ltb, eq-eqb, ne_eqb}
use Rattle.layouts.specs.Answer.{Answer, refused, gives, ◌when◌, refusal, part, Copied, copied}
use Rattle.layouts.specs.Bits.{the, value, read, reach}
use Rattle.layouts.specs.Sizes.{size, unless_0, pkr_blocks, read_size}
use Rattle.layouts.specs.DsmPkr.{pkr_layout, node_part, new_key_sizes, count, key_bytes, key_checks, new_key_part, leaf_part, padding_checks, padding_part}
use Rattle.layouts.specs.Layouts.{Follow}
use Rattle.layouts.specs.Meaning.{meaning_number, meaning_part}
use Rattle.layouts.specs.Refusals.{refusal_number}
use Rattle.layouts.specs.inner.Code.{Inside}
use Rattle.layouts.specs.declared.part.Part.{Part}
use Rattle.layouts.specs.declared.refusal.Refusal.{Refusal}
use Rattle.layouts.specs.declared.refusal.Refusal.TheVariants.{Reserved}
use Rattle.std.specs.Prelude.{Option, Some, None, Result, Ok, Err}
use Rattle.std.specs.Option.{ok_or, unwrap_or}
use Rattle.layouts.proofs.Answers.{stop, pass, done, refused_too, passed, Passed, none_fails, all_pass, converse, answer_of, given_with, copied_refused, copied_bytes}
use Rattle.layouts.proofs.Readers.{first_of, size_given, size_reserved, part_first, part_many, part_ends, part_shown, inside_part}
use Rattle.layouts.proofs.Options.{some_size, no_size, size_is, size_some, size_none, is_there, not_there, or_0}
use Rattle.layouts.proofs.Fields.{field_lt}
use Rattle.layouts.proofs.Tables.{holds_below}

-- at most 16 blocks, and a key of at most 78 bytes
pub blocks_few : (m : List ℕ) → count m ≤ 16
unfolding pkr_blocks
blocks_few m = leb→le _ _ (holds_below 16 (λ c. leb (size pkr_blocks c) 16) tt (value (the "NB_DP" pkr_layout) m) (field_lt m 0 4))

-- what is shown lies within the message
module _ (r : Result Part Refusal) (m : List ℕ) where
  pub new_key_inside : meaning_part r ≡ new_key_part m → Inside r (length m)
  unfolding new_key_part
  new_key_inside e = inside_part r m 130 (key_bytes m) (key_checks m) tt e

  pub leaf_inside : meaning_part r ≡ leaf_part m → Inside r (length m)
  unfolding leaf_part
  leaf_inside e = inside_part r m 129 (1 + key_bytes m) (key_checks m) tt e

  pub padding_inside : meaning_part r ≡ padding_part m → Inside r (length m)
  unfolding padding_part
  padding_inside e = inside_part r m (130 + key_bytes m) (13 * count m - (130 + key_bytes m)) (padding_checks m) tt e

-- the tree nodes
module _ (m : List ℕ) (n : ℕ) where
  node_above : 3 < n → refused 7 ≡ node_part m n
  unfolding node_part
  node_above h = stop 7 _ _ _ tt (lt-ltb 3 n h)

  pub node_unknown : 3 < n → ◌≡◌ {A = Copied} (record { answer = refused 7; bytes = replicate 32 0 }) (copied 32 m (node_part m n))
  node_unknown h = copied_refused 32 m (node_above h)

  module _ (h : n ≤ 3) where
    node_on : {r : Answer} → r ≡ part m [] (1 + 32 * n) 32 → r ≡ node_part m n
    unfolding node_part
    node_on e = pass 7 _ _ _ (le-ltb 3 n h) e

    pub node_there : 1 + 32 * n + 32 ≤ length m → gives ((1 + 32 * n) ∷ 32 ∷ []) ≡ node_part m n
    node_there l = node_on (part_shown m (1 + 32 * n) 32 l)

    pub node_missing : {k : ℕ} → refused k ≡ part m [] (1 + 32 * n) 32
        → ◌≡◌ {A = Copied} (record { answer = refused k; bytes = replicate 32 0 }) (copied 32 m (node_part m n))
    node_missing e = copied_refused 32 m (node_on e)

    module _ {f k : ℕ} (e : gives (f ∷ k ∷ []) ≡ part m [] (1 + 32 * n) 32) where
      pub node_ends : 1 + 32 * n + 32 ≤ length m
      node_ends = part_ends m (1 + 32 * n) 32 [] e tt

      pub node_given : {l : List ℕ} → l ≡ take 32 (drop (1 + 32 * n) m)
          → ◌≡◌ {A = Copied} (record { answer = gives (f ∷ k ∷ []); bytes = l }) (copied 32 m (node_part m n))
      node_given b = copied_bytes 32 m (node_on e) (rw (part_first m (1 + 32 * n) 32 [] e, part_many m (1 + 32 * n) 32 [] e) b)

-- the size of a key, by its type
module _ (count : ℕ) {v : ℕ} where
  pub type_p256 : v ≡ 1 → Some 33 ≡ unless_0 (size (new_key_sizes count) v)
  type_p256 e = rw e

  pub type_p521 : v ≡ 3 → Some 67 ≡ unless_0 (size (new_key_sizes count) v)
  type_p521 e = rw e

  pub type_miss : (v ≡ 1 → ⊥) → (v ≡ 3 → ⊥) → (v ≡ 4 → ⊥) → None ≡ unless_0 (size (new_key_sizes count) v)
  type_miss a b c = rw (ne_eqb v 1 a, ne_eqb v 3 b, ne_eqb v 4 c)

  pub alert_none : v ≡ 4 → count ≤ 10 → None ≡ unless_0 (size (new_key_sizes count) v)
  alert_none e h = rw e (no_size (omega arith))

  pub alert_some : {n : ℕ} → v ≡ 4 → 10 < count → n ≡ count → Some (13 * n - 130) ≡ unless_0 (size (new_key_sizes count) v)
  alert_some e h g = rw (e, g) (some_size refl (omega arith))

pub ruleset lengths = (type_p256, type_p521, type_miss, alert_none, alert_some)

key_size_few : (count v : ℕ) → count ≤ 16 → size (new_key_sizes count) v ≤ 78
key_size_few count v h = go (eqb v 1) (eqb v 3) (eqb v 4)
  where
    go : (a b c : Bool) → cond a 33 (cond b 67 (cond c (13 * count - 130) 0)) ≤ 78
    go true b c = omega arith
    go false true c = omega arith
    go false false true = omega arith
    go false false false = omega arith

pub key_few : (m : List ℕ) → key_bytes m ≤ 78
key_few m = key_size_few (count m) (value (the "NPKT" pkr_layout) m) (blocks_few m)

module _ (m : List ℕ) where
  -- the key's size, after its type
  module _ {v : ℕ} (gave : gives (v ∷ []) ≡ read (the "NPKT" pkr_layout) m) where
    pub type_read : 130 ≤ length m
    type_read =
        let there = (converse (reach (the "NPKT" pkr_layout) m ∷ []) (value (the "NPKT" pkr_layout) m ∷ []) tt gave).0 in
        let h : 1036 ≤ 8 * length m = ltb-false (8 * length m) 1036 there in
        omega arith

    key_size_is : (o : Option ℕ) → o ≡ unless_0 (size (new_key_sizes (count m)) v)
        → meaning_number (ok_or o Reserved) ≡ read_size (the "NPKT" pkr_layout) (size (new_key_sizes (count m))) m
    key_size_is None e =
        size_reserved (the "NPKT" pkr_layout) m gave (size (new_key_sizes (count m))) (size_none (size (new_key_sizes (count m)) v) e refl)
    key_size_is (Some s) e =
        ap (λ (n : ℕ). gives (n ∷ [])) (size_is (size (new_key_sizes (count m)) v) e refl)
        ∙ size_given (the "NPKT" pkr_layout) m gave (size (new_key_sizes (count m))) (size_some (size (new_key_sizes (count m)) v) e refl)

    pub key_size_read : {n o : Option ℕ} {b : ℕ} {r : Result ℕ Refusal} → n ≡ unless_0 (count m) → b ≡ unwrap_or n 0
        → o ≡ unless_0 (size (new_key_sizes b) v) → r ≡ ok_or o Reserved
        → meaning_number r ≡ read_size (the "NPKT" pkr_layout) (size (new_key_sizes (count m))) m
    key_size_read {o = o} {b = b} q h e g =
        let here : b ≡ count m = h ∙ ap (λ (x : Option ℕ). unwrap_or x 0) q ∙ or_0 (count m) in
        rw g (key_size_is o (e ∙ ap (λ (x : ℕ). unless_0 (size (new_key_sizes x) v)) here))

  -- the number of blocks of a message that is not empty
  pub blocks_given : {n : ℕ} → gives (n ∷ []) ≡ read_size (the "NB_DP" pkr_layout) (size pkr_blocks) m → Some n ≡ unless_0 (count m)
  blocks_given {n} e =
      let p = converse _ (count m ∷ []) tt e in
      let q : n ≡ count m = first_of (answer_of _ (count m ∷ []) e) in
      some_size q (λ z. eqb-false (count m) 0 p.1.0 (sym q ∙ z))

  pub blocks_at_most : {n : ℕ} → gives (n ∷ []) ≡ read_size (the "NB_DP" pkr_layout) (size pkr_blocks) m → n ≤ 16
  blocks_at_most e = rw (first_of (answer_of _ (count m ∷ []) e)) (blocks_few m)

  pub blocks_none : {n : ℕ} → 1 ≤ length m → refused n ≡ read_size (the "NB_DP" pkr_layout) (size pkr_blocks) m → None ≡ unless_0 (count m)
  blocks_none {n} h e = no_size (go (eqb (count m) 0) refl e)
    where
      go : (b : Bool) → eqb (count m) 0 ≡ b → refused n ≡ read_size (the "NB_DP" pkr_layout) (size pkr_blocks) m → 0 ≡ count m
      go true b f = sym (eqb-true (count m) 0 b)
      go false b f =
          let some : gives (count m ∷ []) ≡ read_size (the "NB_DP" pkr_layout) (size pkr_blocks) m =
          pass 5 _ _ _ (le-ltb (8 * length m) 4 (omega arith)) (pass 6 _ _ _ b (done _ refl)) in
          let z : ◌≡◌ {A = ℕ} 0 1 = cc in absurd (omega arith)

  -- what comes after the key's size
  module _ {n : ℕ} (e : refused n ≡ read_size (the "NPKT" pkr_layout) (size (new_key_sizes (count m))) m) where
    pub new_key_refused : refused n ≡ new_key_part m
    unfolding new_key_part
    new_key_refused = refused_too (key_checks m) _ (key_bytes m ∷ []) _ e

    pub leaf_refused : refused n ≡ leaf_part m
    unfolding leaf_part
    leaf_refused = refused_too (key_checks m) _ (key_bytes m ∷ []) _ e

    pub padding_refused : refused n ≡ padding_part m
    unfolding padding_part
    padding_refused = refused_too (key_checks m) _ (key_bytes m ∷ []) _ e

  module _ {k : ℕ} (gave : gives (k ∷ []) ≡ read_size (the "NPKT" pkr_layout) (size (new_key_sizes (count m))) m) where
    pub key_long : k ≡ key_bytes m
    key_long = first_of (answer_of _ (key_bytes m ∷ []) gave)

    -- the message has the byte of the key's type
    pub type_there : 130 ≤ length m
    type_there =
        let h : 1036 ≤ 8 * length m = ltb-false (8 * length m) 1036 (converse (key_checks m) (key_bytes m ∷ []) tt gave).0 in
        omega arith

    pub new_key_given : {r : Answer} → r ≡ part m [] 130 k → r ≡ new_key_part m
    unfolding new_key_part
    new_key_given h = passed (key_checks m) _ (key_bytes m ∷ []) _ tt gave (rw key_long at h)

    pub leaf_given : {r : Answer} → r ≡ part m [] 129 (1 + k) → r ≡ leaf_part m
    unfolding leaf_part
    leaf_given h = passed (key_checks m) _ (key_bytes m ∷ []) _ tt gave (rw key_long at h)

    module _ {o : Option ℕ} (b : o ≡ unless_0 (count m)) where
      pub padding_uncounted : {e : Refusal} → Err e ≡ ok_or o Reserved → refused (refusal_number e) ≡ padding_part m
      unfolding padding_part
      padding_uncounted z =
          let p = not_there o Reserved z in
          rw p.1 (passed (key_checks m) _ (key_bytes m ∷ []) _ tt gave (stop 6 _ _ _ tt (eq-eqb (count m) 0 (size_none (count m) b p.0))))

      module _ {n w : ℕ} (g : Ok n ≡ ok_or o Reserved) (q : w ≡ n) where
        counted : eqb (count m) 0 ≡ false
        counted = ne_eqb (count m) 0 (size_some (count m) b (is_there o Reserved g))

        here : w ≡ count m
        here = q ∙ size_is (count m) b (is_there o Reserved g)

        pub padding_short : 13 * w < 130 + k → refused 11 ≡ padding_part m
        unfolding padding_part
        padding_short h =
            passed (key_checks m) _ (key_bytes m ∷ []) _ tt gave
            (pass 6 _ _ _ counted (stop 11 _ _ _ tt (lt-ltb (13 * count m) (130 + key_bytes m) (rw (here, key_long) at h))))

        pub padding_given : {r : Answer} → 130 + k ≤ 13 * w → r ≡ part m [] (130 + k) (13 * w - (130 + k)) → r ≡ padding_part m
        unfolding padding_part
        padding_given h p =
            passed (key_checks m) _ (key_bytes m ∷ []) _ tt gave
            (pass 6 _ _ _ counted (pass 11 _ _ _ (le-ltb (13 * count m) (130 + key_bytes m) (rw (here, key_long) at h)) (rw (here, key_long) at p)))

  -- where nothing is refused, and the blocks counted are there, key and padding follow one another to their end
  module _ (z : refusal (padding_checks m) ≡ 0) (there : 13 * count m ≤ length m) where
    all_there : Passed (padding_checks m)
    all_there = none_fails (padding_checks m) tt z

    key_in_blocks : 130 + key_bytes m ≤ 13 * count m
    key_in_blocks = ltb-false (13 * count m) (130 + key_bytes m) all_there.1.1.1.0

    key_answer : new_key_part m ≡ gives (130 ∷ key_bytes m ∷ [])
    unfolding new_key_part
    key_answer =
        let p = all_there in
        let h : ltb (length m) (130 + key_bytes m) ≡ false = le-ltb (length m) (130 + key_bytes m) (omega (arith, key_in_blocks)) in
        sym (given_with _ (gives (130 ∷ key_bytes m ∷ []))
        (all_pass (key_checks m ++ (5 when ltb (length m) (130 + key_bytes m) ∷ [])) (p.0, (p.1.0, (h, tt)))) refl)

    padding_answer : padding_part m ≡ gives ((130 + key_bytes m) ∷ (13 * count m - (130 + key_bytes m)) ∷ [])
    unfolding padding_part
    padding_answer =
        let p = all_there in
        let first : ℕ = 130 + key_bytes m in
        let many : ℕ = 13 * count m - first in
        let h : ltb (length m) (first + many) ≡ false = le-ltb (length m) (first + many) (omega (arith, key_in_blocks)) in
        sym (given_with _ (gives (first ∷ many ∷ []))
        (all_pass (padding_checks m ++ (5 when ltb (length m) (first + many) ∷ [])) (p.0, (p.1.0, (p.1.1.0, (p.1.1.1.0, (h, tt)))))) refl)

    pub parts_follow : Follow 130 (new_key_part m ∷ padding_part m ∷ []) (13 * count m)
    parts_follow = rw (key_answer, padding_answer) (refl, (refl, omega (arith, key_in_blocks)))
