-- The blocks of what was written, as calls of the collector: they are one run, whatever their order and however often they are repeated.
-- Assumes nothing.
use mathlib.Core.Path.{◌≡◌, refl, sym, ap, ◌∙◌}
use mathlib.Core.List.{List, [], ◌∷◌, ◌++◌, map, map-append, append_assoc, append-nil}
use mathlib.Core.Bool.{Bool, true, false, cond, not, ◌&&◌, ◌||◌}
use Prim.Native.Nat.{ℕ, zero, suc, ◌+◌, ◌*◌, ◌≤◌, ◌<◌}
use native.Mathlib.Nat.{le_of_suc-le-suc}
use native.Mathlib.Omega.{arith}
use lib.Arith.{lt_of_le-ne}
use lib.Dec.{eqb}
use lib.ListN.{length, take, drop, length-drop}
use lib.Seq.{take-add, get_or-take, length-take-le}
use borrow.Author.Tests.{eqb-true, eqb-false, eq-eqb, ne_eqb}
use Rattle.layouts.specs.Lists.{all}
use Rattle.layouts.specs.DsmHeader.{dsm_type_of}
use Rattle.layouts.proofs.Fields.{field_of_byte}
use Rattle.runs.specs.Runs.{goes_on, run_from}
use Rattle.runs.proofs.Basics.{and_true}
use Rattle.dsms.specs.Dsm.{id_of, block_of, counted}
use Rattle.dsms.specs.DsmRecovery.{Call, same_id, is_admitted, before, grown, run, fed, first_copy, counts, all_fed, is_whole, first_copies, run_id}
use Rattle.dsms.proofs.Blocks.{counted_few}
use Rattle.dsms.proofs.DsmRun.{copy_none, counted_byte, counted_none, same_bool}
use Rattle.transmitter.specs.Write.{blocks}
use Rattle.transmitter.specs.Sending.{among, all_of, Counted}

-- one counted block more
pub counted_more : (c : ℕ) (ns : List ℕ) (n : ℕ) → Counted c ns → n < c → Counted c (ns ++ (n ∷ []))
counted_more c [] n b h = (h, tt)
counted_more c (k ∷ ns) n b h = (b.0, counted_more c ns n b.1 h)

eqb_turn : (a b : ℕ) → eqb a b ≡ eqb b a
eqb_turn a b = go (eqb b a) refl
  where
    go : (x : Bool) → eqb b a ≡ x → eqb a b ≡ x
    go true e = eq-eqb a b (sym (eqb-true b a e))
    go false e = ne_eqb a b (λ z. eqb-false b a e (sym z))

-- a test of every number below n holds of each, and fails where it fails of one
pub all_at : (test : ℕ → Bool) (n : ℕ) → all test n ≡ true → (k : ℕ) → k < n → test k ≡ true
unfolding all
all_at test zero e k h = absurd (omega arith)
all_at test (suc n) e k h = go (eqb k n) refl (λ l. all_at test n (and_true (all test n) (test n) e).0 k l)
  where
    go : (x : Bool) → eqb k n ≡ x → (k < n → test k ≡ true) → test k ≡ true
    go true q ih = ap test (eqb-true k n q) ∙ (and_true (all test n) (test n) e).1
    go false q ih = ih (lt_of_le-ne (le_of_suc-le-suc h) (eqb-false k n q))

all_same : (f g : ℕ → Bool) (n : ℕ) → ((k : ℕ) → f k ≡ g k) → all f n ≡ all g n
unfolding all
all_same f g zero h = refl
all_same f g (suc n) h = ap (λ (x : Bool). x && f n) (all_same f g n h) ∙ ap (λ (x : Bool). all g n && x) (h n)

module _ (sent : List ℕ) (id : ℕ) (long : length sent ≡ 208) (few : id ≤ 15) where
  abbrev c# : ℕ
  c# = blocks sent id

  abbrev pub call : ℕ → Call
  call n = record { header = id * 16 + n; block = take 13 (drop (13 * n) sent) }

  abbrev pub calls : List ℕ → List Call
  calls ns = map call ns

  -- a block that is counted
  module _ (n : ℕ) (h : n < c#) where
    n_few : n ≤ 15
    n_few = omega (arith, counted_few (dsm_type_of id) sent)

    pub id_of_lem : id_of (call n).header ≡ id
    id_of_lem = field_of_byte (id * 16 + n) 0 4 (omega arith) ∙ omega (arith, n_few)

    block_of_lem : block_of (call n).header ≡ n
    block_of_lem = field_of_byte (id * 16 + n) 4 4 (omega arith) ∙ omega (arith, n_few)

    pub block_long : length (call n).block ≡ 13
    block_long = length-take-le 13 (drop (13 * n) sent) (rw (length-drop (13 * n) sent) (omega (arith, n_few)))

    pub is_admitted_lem : is_admitted (call n) ≡ true
    is_admitted_lem = eq-eqb (length (call n).block) 13 block_long

  -- the run of such calls is all of them
  goes : (k : ℕ) (ns : List ℕ) (n : ℕ) → Counted c# (k ∷ ns) → n < c# → goes_on is_admitted same_id (calls (k ∷ ns)) (call n) ≡ true
  goes k [] n b h = eq-eqb _ _ (id_of_lem k b.0 ∙ sym (id_of_lem n h))
  goes k (j ∷ ns) n b h = goes j ns n b.1 h

  pub before_calls : (ns : List ℕ) (n : ℕ) → Counted c# ns → n < c# → before (calls ns) (call n) ≡ calls ns
  before_calls [] n b h = refl
  before_calls (k ∷ ns) n b h = ap (λ (x : Bool). cond x (calls (k ∷ ns)) []) (goes k ns n b h)

  pub grown_calls : (ns : List ℕ) (n : ℕ) → Counted c# ns → n < c# → grown (calls ns) (call n) ≡ calls (ns ++ (n ∷ []))
  grown_calls ns n b h =
      ap (λ (x : Bool). cond x (before (calls ns) (call n) ++ (call n ∷ [])) (calls ns)) (is_admitted_lem n h)
      ∙ ap (λ (r : List Call). r ++ (call n ∷ [])) (before_calls ns n b h)
      ∙ sym (map-append call ns (n ∷ []))

  run_on : (rs ns : List ℕ) → Counted c# rs → Counted c# ns → run_from is_admitted same_id (calls rs) (calls ns) ≡ calls (rs ++ ns)
  run_on rs [] a b = ap calls (sym (append-nil rs))
  run_on rs (n ∷ ns) a b =
      ap (λ (r : List Call). run_from is_admitted same_id r (calls ns)) (grown_calls rs n a b.0)
      ∙ run_on (rs ++ (n ∷ [])) ns (counted_more c# rs n a b.0) b.1
      ∙ ap calls (append_assoc rs (n ∷ []) ns)

  pub run_calls : (ns : List ℕ) → Counted c# ns → run (calls ns) ≡ calls ns
  run_calls ns b = run_on [] ns tt b

  pub run_id_lem : (n : ℕ) (ns : List ℕ) → Counted c# (n ∷ ns) → run_id (calls (n ∷ ns)) ≡ id
  run_id_lem n [] b = id_of_lem n b.0
  run_id_lem n (k ∷ ns) b = run_id_lem k ns b.1

  -- what was fed, and its first copies
  fed_among : (ns : List ℕ) (k : ℕ) → Counted c# ns → fed k (calls ns) ≡ among k ns
  unfolding fed among
  fed_among [] k b = refl
  fed_among (n ∷ ns) k b =
      ap (λ (x : ℕ). cond (eqb x k) true (fed k (calls ns))) (block_of_lem n b.0)
      ∙ ap (λ (x : Bool). cond x true (fed k (calls ns))) (eqb_turn n k)
      ∙ ap (λ (x : Bool). cond (eqb k n) true x) (fed_among ns k b.1)
      ∙ turn (eqb k n) (among k ns)
    where
      turn : (x y : Bool) → cond x true y ≡ (x || y)
      turn true y = refl
      turn false y = refl

  copy_among : (ns : List ℕ) (k : ℕ) → Counted c# ns → among k ns ≡ true → first_copy k (calls ns) ≡ take 13 (drop (13 * k) sent)
  unfolding first_copy among
  copy_among [] k b e = let z : ◌≡◌ {A = ℕ} 0 1 = cc in absurd (omega arith)
  copy_among (n ∷ ns) k b e =
      ap (λ (x : ℕ). cond (eqb x k) (call n).block (first_copy k (calls ns))) (block_of_lem n b.0)
      ∙ go (eqb n k) refl (copy_among ns k b.1) (ap (λ (x : Bool). x || among k ns) (eqb_turn n k) ∙ e)
    where
      go : (x : Bool) → eqb n k ≡ x → (among k ns ≡ true → first_copy k (calls ns) ≡ take 13 (drop (13 * k) sent)) → (x || among k ns) ≡ true
          → cond x (call n).block (first_copy k (calls ns)) ≡ take 13 (drop (13 * k) sent)
      go true q ih f = ap (λ (i : ℕ). take 13 (drop (13 * i) sent)) (eqb-true n k q)
      go false q ih f = ih f

  counts_all : (ns : List ℕ) → Counted c# ns → among 0 ns ≡ true → counts id (calls ns) ≡ c#
  counts_all ns b e =
      ap (counted (dsm_type_of id)) (copy_among ns 0 b e)
      ∙ counted_byte (dsm_type_of id) (take 13 sent) sent (get_or-take 13 sent 0 0 (omega arith))

  counts_none : (ns : List ℕ) → Counted c# ns → among 0 ns ≡ false → counts id (calls ns) ≡ 0
  counts_none ns b e = ap (counted (dsm_type_of id)) (copy_none 0 (calls ns) (fed_among ns 0 b ∙ e)) ∙ counted_none (dsm_type_of id)

  -- the run is whole exactly where all counted blocks are among the numbers
  module _ (some : 0 < c#) where
    pub whole_is : (ns : List ℕ) → Counted c# ns → is_whole id (calls ns) ≡ all_of sent id ns
    whole_is ns b = go (among 0 ns) refl
      where
        go : (x : Bool) → among 0 ns ≡ x → is_whole id (calls ns) ≡ all_of sent id ns
        go true q =
            ap (λ (n : ℕ). not (eqb n 0) && all_fed n (calls ns)) (counts_all ns b q)
            ∙ ap (λ (x : Bool). not x && all_fed c# (calls ns)) (ne_eqb c# 0 (λ z. omega arith))
            ∙ all_same (λ k. fed k (calls ns)) (λ k. among k ns) c# (λ k. fed_among ns k b)
        go false q =
            ap (λ (n : ℕ). not (eqb n 0) && all_fed n (calls ns)) (counts_none ns b q)
            ∙ same_bool false (all_of sent id ns) (λ z. let y : ◌≡◌ {A = ℕ} 0 1 = cc in absurd (omega arith))
            (λ e. sym q ∙ all_at (λ k. among k ns) c# e 0 some)

    pub counts_whole : (ns : List ℕ) → Counted c# ns → all_of sent id ns ≡ true → counts id (calls ns) ≡ c#
    counts_whole ns b e = counts_all ns b (all_at (λ k. among k ns) c# e 0 some)

  copies : (ns : List ℕ) (n : ℕ) → Counted c# ns → ((k : ℕ) → k < n → among k ns ≡ true) → first_copies n (calls ns) ≡ take (13 * n) sent
  unfolding first_copies
  copies ns zero b h = refl
  copies ns (suc n) b h =
      let e : 13 * suc n ≡ 13 * n + 13 = omega arith in
      ap (λ (l : List ℕ). l ++ first_copy n (calls ns)) (copies ns n b (λ k l. h k (omega arith)))
      ∙ ap (λ (l : List ℕ). take (13 * n) sent ++ l) (copy_among ns n b (h n (omega arith)))
      ∙ sym (take-add (13 * n) 13 sent) ∙ ap (λ (x : ℕ). take x sent) (sym e)

  pub copies_are : (ns : List ℕ) → Counted c# ns → all_of sent id ns ≡ true → first_copies c# (calls ns) ≡ take (13 * c#) sent
  copies_are ns b e = copies ns c# b (all_at (λ k. among k ns) c# e)
