-- A PKR message that is good is what writing it again yields.
-- Assumes nothing.
use mathlib.Core.Path.{◌≡◌, refl, sym, ap, ◌∙◌}
use mathlib.Core.List.{List, [], ◌∷◌, ◌++◌}
use mathlib.Core.Bool.{true, not}
use Rattle.std.specs.Prelude.{Some, Result, Ok}
use Prim.Native.Nat.{ℕ, ◌+◌, ◌-◌, ◌*◌, ◌≤◌, ◌<◌}
use native.Mathlib.Omega.{arith}
use lib.Dec.{ltb, eqb}
use lib.ListN.{length, take, drop, get_or}
use lib.Seq.{take-add, take_all, drop-drop}
use borrow.Author.Tests.{ltb-false, eqb-true, eqb-false, eq-eqb}
use Rattle.layouts.specs.Answer.{nothing, gives, ◌when◌, refusal, shown, Copied, copied}
use Rattle.layouts.specs.Bits.{field, the, value, reach}
use Rattle.layouts.specs.DsmPkr.{pkr_layout, count, key_bytes, node_part, IntermediateTreeNode, new_key_part, padding_checks, padding_part}
use Rattle.layouts.specs.declared.dsm_pkr.TreeNode.{TreeNode}
use Rattle.layouts.specs.declared.refusal.Refusal.{Refusal}
use Rattle.layouts.proofs.Unique.{agreed}
use Rattle.layouts.proofs.Answers.{Passed, none_fails, copied_bytes}
use Rattle.layouts.proofs.Pkr.{node_there}
use Rattle.layouts.proofs.Options.{some_size}
use Rattle.runs.proofs.Basics.{and_true}
use Rattle.layouts.specs.Packed.{packed_on, bytes_of}
use Rattle.transmitter.specs.Write.{pkr_rows, pkr_first, pkr_second, pkr_message, pkr_checks, write_pkr}
use Rattle.transmitter.specs.WriteBack.{Bytes, given, all_given, pkr_answers, is_good_pkr, pkr_read, node, pkr_rewritten, Same, WritesBackExactlyIf}
use Rattle.transmitter.proofs.Writes.{written_is}
use Rattle.transmitter.proofs.KrootBack.{shown_of}
use Rattle.transmitter.proofs.PkrRefusals.{pkr_filled}
use Rattle.transmitter.proofs.Again.{packed_back, values_narrow, bytes_back, given_at, given_none, given_is}
use Rattle.transmitter.proofs.KrootAgain.{long_part, if_kroot}
use Rattle.transmitter.proofs.Good.{only_kroot, only_pkr}

-- four nodes are one part
four : (l : List ℕ) → take 32 l ++ take 32 (drop 32 l) ++ take 32 (drop 64 l) ++ take 32 (drop 96 l) ≡ take 128 l
four l =
    ap (λ (x : List ℕ). x ++ take 32 (drop 64 l) ++ take 32 (drop 96 l)) (sym (take-add 32 32 l))
    ∙ ap (λ (x : List ℕ). x ++ take 32 (drop 96 l)) (sym (take-add 64 32 l))
    ∙ sym (take-add 96 32 l)

-- a message from its parts
parts : (m : List ℕ) (k p : ℕ) → 130 + k + p ≡ length m
    → take 1 m ++ take 128 (drop 1 m) ++ take 1 (drop 129 m) ++ take k (drop 130 m) ++ take p (drop (130 + k) m) ≡ m
parts m k p h =
    ap (λ (l : List ℕ). l ++ take 1 (drop 129 m) ++ take k (drop 130 m) ++ take p (drop (130 + k) m)) (sym (take-add 1 128 m))
    ∙ ap (λ (l : List ℕ). l ++ take k (drop 130 m) ++ take p (drop (130 + k) m)) (sym (take-add 129 1 m))
    ∙ ap (λ (l : List ℕ). l ++ take p (drop (130 + k) m)) (sym (take-add 130 k m))
    ∙ sym (take-add (130 + k) p m)
    ∙ take_all (130 + k + p) m (omega arith)

-- a node, where it lies and its bytes
abbrev pub node_of : List ℕ → ℕ → TreeNode
node_of m k = record { part = record { first = 1 + 32 * k; many = 32 }; bytes = take 32 (drop (1 + 32 * k) m) }

module _ (m : List ℕ) (good : is_good_pkr m ≡ true) where
  halves : (all_given (pkr_answers m) ≡ true) × (eqb (length m) (13 * count m) ≡ true)
  unfolding is_good_pkr
  halves = and_true (all_given (pkr_answers m)) (eqb (length m) (13 * count m)) good

  whole : length m ≡ 13 * count m
  whole = eqb-true _ _ halves.1

  at : (i : ℕ) → i < 13 → given (get_or (pkr_answers m) i nothing) ≡ true
  at i h = given_at (pkr_answers m) i h halves.0

  -- the head is there
  pub head_there : 1040 ≤ 8 * length m
  head_there =
      ltb-false (8 * length m) 1040
      (none_fails (reach (the "NPKID" pkr_layout) m ∷ []) tt (given_none _ (value (the "NPKID" pkr_layout) m ∷ []) (at 8 (omega arith)))).0

  passed : Passed (padding_checks m ++ (5 when ltb (length m) (130 + key_bytes m + (13 * count m - (130 + key_bytes m))) ∷ []))
  unfolding padding_part
  passed =
      none_fails (padding_checks m ++ (5 when ltb (length m) (130 + key_bytes m + (13 * count m - (130 + key_bytes m))) ∷ [])) tt
      (given_none _ ((130 + key_bytes m) ∷ (13 * count m - (130 + key_bytes m)) ∷ []) (at 12 (omega arith)))

  key_some : key_bytes m ≡ 0 → ⊥
  key_some = eqb-false (key_bytes m) 0 passed.1.0

  count_some : count m ≡ 0 → ⊥
  count_some = eqb-false (count m) 0 passed.1.1.0

  key_ends : 130 + key_bytes m ≤ 13 * count m
  key_ends = ltb-false (13 * count m) (130 + key_bytes m) passed.1.1.1.0

  abbrev rest : ℕ
  rest = 13 * count m - (130 + key_bytes m)

  all_of_it : 130 + key_bytes m + rest ≡ length m
  all_of_it = omega (arith, key_ends, whole)

  key_is : shown m (new_key_part m) ≡ take (key_bytes m) (drop 130 m)
  unfolding new_key_part
  key_is = shown_of m (given_is _ (130 ∷ key_bytes m ∷ []) (at 10 (omega arith)))

  padding_is : shown m (padding_part m) ≡ take rest (drop (130 + key_bytes m) m)
  unfolding padding_part
  padding_is = shown_of m (given_is _ ((130 + key_bytes m) ∷ rest ∷ []) (at 12 (omega arith)))

  node_copied : (k : ℕ) → k ≤ 3
      → ◌≡◌ {A = Copied} (record { answer = gives ((1 + 32 * k) ∷ 32 ∷ []); bytes = (node_of m k).bytes }) (copied 32 m (node_part m k))
  node_copied k h = copied_bytes 32 m (node_there m k h (omega (arith, head_there))) refl

  pub node_is : (k : ℕ) → k ≤ 3 → node m k ≡ (node_of m k).bytes
  node_is k h = sym (ap (λ (c : Copied). c.bytes) (node_copied k h))

  pub node_read : (k : ℕ) → k ≤ 3 → (x : Result TreeNode Refusal) → IntermediateTreeNode m k x → x ≡ Ok (node_of m k)
  node_read k h x p = agreed.pkr_intermediate_tree_node m k x (Ok (node_of m k)) p (node_copied k h)

  nodes_are : node m 0 ++ node m 1 ++ node m 2 ++ node m 3 ≡ take 128 (drop 1 m)
  nodes_are =
      let n : (k : ℕ) → k ≤ 3 → node m k ≡ take 32 (drop (32 * k) (drop 1 m)) = λ k h. node_is k h ∙ ap (take 32) (sym (drop-drop (32 * k) 1 m)) in
      ap (λ (x : List ℕ). x ++ node m 1 ++ node m 2 ++ node m 3) (n 0 (omega arith))
      ∙ ap (λ (x : List ℕ). take 32 (drop 1 m) ++ x ++ node m 2 ++ node m 3) (n 1 (omega arith))
      ∙ ap (λ (x : List ℕ). take 32 (drop 1 m) ++ take 32 (drop 32 (drop 1 m)) ++ x ++ node m 3) (n 2 (omega arith))
      ∙ ap (λ (x : List ℕ). take 32 (drop 1 m) ++ take 32 (drop 32 (drop 1 m)) ++ take 32 (drop 64 (drop 1 m)) ++ x) (n 3 (omega arith))
      ∙ four (drop 1 m)

  first_is : Bytes m → bytes_of 1 (packed_on 0 pkr_first ((pkr_read m).nb_dp ∷ (pkr_read m).mid ∷ [])) ≡ take 1 m
  unfolding field
  first_is b =
      ap (bytes_of 1) (packed_back m 0 0 pkr_first 8 tt)
      ∙ bytes_back m 0 1 (omega (arith, head_there)) b

  second_is : Bytes m → bytes_of 1 (packed_on 0 pkr_second ((pkr_read m).npkt ∷ (pkr_read m).npkid ∷ [])) ≡ take 1 (drop 129 m)
  unfolding field
  second_is b =
      ap (bytes_of 1) (packed_back m 1032 0 pkr_second 8 tt)
      ∙ bytes_back m 129 1 (omega (arith, head_there)) b

  module _ (memory : List ℕ) (id : ℕ) (long : length memory ≡ 208) (b : Bytes m) (low : 11 < id) (high : id < 16) where
    abbrev k : ℕ
    k = key_bytes m

    abbrev nodes : List ℕ
    nodes = take 128 (drop 1 m)

    abbrev key : List ℕ
    key = take k (drop 130 m)

    abbrev padding : List ℕ
    padding = take rest (drop (130 + k) m)

    none_stops : 0 ≡ refusal (pkr_checks memory id (pkr_read m) nodes key padding)
    none_stops =
        let lk : length key ≡ k = long_part m 130 k (omega (arith, all_of_it)) in
        let lp : length padding ≡ rest = long_part m (130 + k) rest (omega (arith, all_of_it)) in
        pkr_filled memory id (pkr_read m) nodes key padding long
        (long_part m 1 128 (omega (arith, head_there)))
        refl (values_narrow m pkr_rows)
        low
        (omega arith)
        refl count_some
        (some_size refl key_some) refl
        lk (Some (length padding)) (key_ends, lp) refl (ap not (eq-eqb (length padding) (length padding) refl))

    message_is : pkr_message (pkr_read m) nodes key padding ≡ m
    unfolding pkr_message
    message_is =
        ap (λ (l : List ℕ). l ++ nodes ++ bytes_of 1 (packed_on 0 pkr_second ((pkr_read m).npkt ∷ (pkr_read m).npkid ∷ [])) ++ key ++ padding) (first_is b)
        ∙ ap (λ (l : List ℕ). take 1 m ++ nodes ++ l ++ key ++ padding) (second_is b)
        ∙ parts m k rest all_of_it

    pub if_pkr : Same memory id m (pkr_rewritten memory id m)
    unfolding write_pkr
    if_pkr =
        ap (λ (x : List ℕ). write_pkr memory id (pkr_read m) x (shown m (new_key_part m)) (shown m (padding_part m))) nodes_are
        ∙ ap (λ (x : List ℕ). write_pkr memory id (pkr_read m) nodes x (shown m (padding_part m))) key_is
        ∙ ap (λ (x : List ℕ). write_pkr memory id (pkr_read m) nodes key x) padding_is
        ∙ written_is (pkr_checks memory id (pkr_read m) nodes key padding) memory (pkr_message (pkr_read m) nodes key padding) id (sym none_stops)
        ∙ ap (λ (x : List ℕ). record {
          memory = x ++ drop (length x) memory;
          answer = gives
              (id ∷ Rattle.layouts.specs.DsmHeader.dsm_type_of id ∷ length x ∷ []);
        }) message_is

pub writes_back : WritesBackExactlyIf
writes_back memory id m long b =
    record {
      if_kroot = λ kind good. if_kroot m good memory id long b kind;
      only_kroot = λ v key signature padding s. only_kroot memory id m v key signature padding s;
      if_pkr = λ low high good. if_pkr m good memory id long b low high;
      only_pkr = λ v nodes key padding s. only_pkr memory id m v nodes key padding s;
    }
