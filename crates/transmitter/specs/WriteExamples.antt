-- Request 1: examples that meet what the theorems ask for and examples that do not, computed; among them claims that look right and are false.
-- Assumes nothing.
use Rattle.std.specs.Prelude.{ℕ, ◌+◌, ◌*◌, List, [], ◌∷◌, ◌++◌, true, false, ◌≡◌, get_or, take, drop, replicate}
use Rattle.layouts.specs.Answer.{Answer, refused, nothing, gives}
use Rattle.dsms.specs.Dsm.{State, new, Fed, feed}
use Rattle.transmitter.specs.Write.{Written, write_kroot, write_pkr, cut}
use Rattle.transmitter.specs.WriteBack.{all_given, kroot_answers, is_good_kroot, pkr_answers, is_good_pkr}

-- KROOT of ID 3 over bytes that were 170, by the codes of count and key size and the lengths of key, signature and padding
abbrev pub wrote : ℕ → ℕ → ℕ → ℕ → ℕ → Written
wrote count size key signature padding =
    write_kroot (replicate 208 170) 3
    (record { nb_dk = count; pkid = 1; cidkr = 2; hf = 0; mf = 1; ks = size; ts = 9; maclt = 33; wn_k = 1200; towh_k = 200; alpha = 18838586676582 })
    (replicate key 1) (replicate signature 2) (replicate padding 3)

-- PKR of ID 12, by count and type and the lengths of key and padding
abbrev pub wrote_pkr : ℕ → ℕ → ℕ → ℕ → Written
wrote_pkr count type key padding =
    write_pkr (replicate 208 170) 12 (record { nb_dp = count; mid = 1; npkt = type; npkid = 2 }) (replicate 128 1) (replicate key 2) (replicate padding 3)

-- What is written, to the byte, and what is refused.
pub record WrittenExamples : Type 0 where
  pub kroot : (wrote 2 4 16 64 11).answer ≡ gives (3 ∷ 0 ∷ 104 ∷ [])
  pub kroot_bytes : take 15 (wrote 2 4 16 64 11).memory
      ≡ 33 ∷ 129 ∷ 73 ∷ 33 ∷ 4 ∷ 176 ∷ 200 ∷ 17 ∷ 34 ∷ 51 ∷ 68 ∷ 85 ∷ 102 ∷ 1 ∷ 1 ∷ []
  pub kroot_behind : drop 104 (wrote 2 4 16 64 11).memory ≡ replicate 104 170
  pub pkr : (wrote_pkr 7 1 33 6).answer ≡ gives (12 ∷ 1 ∷ 169 ∷ [])
  pub pkr_second : get_or (wrote_pkr 7 1 33 6).memory 129 0 ≡ 18
  -- a padding of 13 fills a block of its own: the readers would find no signature
  pub padding_13 : (wrote 2 2 14 64 13).answer ≡ refused 11
  -- one of 80 would be read as the end of a P-521 signature
  pub padding_80 : (wrote 7 0 12 64 80).answer ≡ refused 11
  -- an alert's key fills its blocks: one of 33 bytes with 6 of padding would be read as a key of 39
  pub alert_33 : (wrote_pkr 7 4 33 6).answer ≡ refused 11

-- KROOT messages of 91 bytes, by their first three; all else is 0. A key of 12 bytes, a P-256 signature.
abbrev pub message : ℕ → ℕ → ℕ → List ℕ
message a b c = a ∷ b ∷ c ∷ replicate 88 0

-- PKR messages with 13 blocks and a P-256 key, with so many bytes behind byte 129
abbrev pub pkr_message : ℕ → List ℕ
pkr_message more = 112 ∷ replicate 128 0 ++ (16 ∷ replicate more 0)

-- "exactly if": what is good, and what each condition is for.
pub record KrootExamples : Type 0 where
  pub good : is_good_kroot (message 16 0 5) ≡ true
  -- a hash function that reads as Reserved
  pub reserved_hash : is_good_kroot (message 16 4 5) ≡ true
  -- a count of 8 blocks in 91 bytes: no reader refuses
  pub other_length : (all_given (kroot_answers (message 32 0 5)) ≡ true) × (is_good_kroot (message 32 0 5) ≡ false)
  -- a reserved bit
  pub reserved_bit : (all_given (kroot_answers (message 16 16 5)) ≡ true) × (is_good_kroot (message 16 16 5) ≡ false)
  -- a reserved tag size
  pub reserved_tag : all_given (kroot_answers (message 16 0 0)) ≡ false

pub record PkrExamples : Type 0 where
  pub good : is_good_pkr (pkr_message 39) ≡ true
  -- one byte more: no reader refuses
  pub longer : (all_given (pkr_answers (pkr_message 40)) ≡ true) × (is_good_pkr (pkr_message 40) ≡ false)

-- Blocks of what was written, cut and fed one by one: the answers, and the state at the end.
abbrev pub fed_block : List ℕ → ℕ → State → ℕ → Fed
fed_block sent id s n = feed s (16 * id + n) (cut sent id n).bytes

abbrev pub answers : List ℕ → ℕ → State → List ℕ → List Answer
answers sent id s [] = []
answers sent id s (n ∷ ns) = (fed_block sent id s n).answer ∷ answers sent id (fed_block sent id s n).state ns

abbrev pub ends : List ℕ → ℕ → State → List ℕ → State
ends sent id s [] = s
ends sent id s (n ∷ ns) = ends sent id (fed_block sent id s n).state ns

-- a message of 7 blocks
abbrev pub seven : List ℕ
seven = (wrote 1 0 12 64 2).memory

-- a collector that holds block 6 of an earlier message of this ID
abbrev pub going_on : State
going_on = (feed (new (replicate 208 0)) (16 * 3 + 6) (replicate 13 9)).state

pub record FedExamples : Type 0 where
  -- from a new collector, the last block first, one of them twice
  pub any_order : answers seven 3 (new (replicate 208 0)) (6 ∷ 5 ∷ 4 ∷ 4 ∷ 3 ∷ 2 ∷ 1 ∷ 0 ∷ [])
      ≡ nothing ∷ nothing ∷ nothing ∷ nothing ∷ nothing ∷ nothing ∷ nothing ∷ gives (3 ∷ 0 ∷ 91 ∷ []) ∷ []
  -- where a run of the ID is going on it comes out one block early, and the last block is the earlier message's
  pub within_a_run : answers seven 3 going_on (0 ∷ 1 ∷ 2 ∷ 3 ∷ 4 ∷ 5 ∷ [])
      ≡ nothing ∷ nothing ∷ nothing ∷ nothing ∷ nothing ∷ gives (3 ∷ 0 ∷ 91 ∷ []) ∷ []
  pub mixed : take 13 (drop 78 (ends seven 3 going_on (0 ∷ 1 ∷ 2 ∷ 3 ∷ 4 ∷ 5 ∷ [])).memory) ≡ replicate 13 9
