-- The list of the tags that hold ADKD 4: what each turn needs and leaves.
-- Assumes nothing.
use mathlib.Core.Path.{◌≡◌, refl, sym, ap, ◌∙◌}
use mathlib.Core.Bool.{Bool, true, false, cond}
use mathlib.Core.List.{List, [], ◌∷◌, ◌++◌, append-nil, append_assoc}
use Prim.Native.Nat.{ℕ, zero, suc, ◌+◌, ◌-◌, ◌≤◌, ◌<◌}
use native.Mathlib.Nat.{le_of_suc-le-suc, not-suc-le-zero}
use native.Mathlib.Omega.{arith}
use lib.Dec.{eqb}
use lib.ListN.{length, take, set, replicate, length-append}
use borrow.Author.Tests.{eq-eqb, ne_eqb}
use Rattle.std.specs.Prelude.{Result, Ok}
use Rattle.std.specs.Result.{IsOk}
use Rattle.layouts.specs.Answer.{gives, refusal, Copied}
use Rattle.layouts.specs.Mack.{nt, tag_checks, AdkdNumber}
use Rattle.layouts.specs.declared.refusal.Refusal.{Refusal}
use Rattle.recorder.specs.Slots.{adkd_at}
use Rattle.recorder.specs.Timing.{timing, nine, tags_listed}
use Rattle.recorder.specs.inner.Code.{Readable}
use Rattle.layouts.proofs.Given.{not_refused, number_is}
use Rattle.recorder.proofs.WalkTags.{tag_readable}

-- at most j of tags 1 to j
pub timing_few : (m : List ℕ) (T j : ℕ) → length (timing m T j) ≤ j
unfolding timing
timing_few m T zero = omega arith
timing_few m T (suc j) = go (eqb (adkd_at m T (suc j)) 4) (timing_few m T j)
  where
    go : (b : Bool) → length (timing m T j) ≤ j → length (timing m T j ++ cond b (suc j ∷ []) []) ≤ suc j
    go true h = rw (length-append (timing m T j) (suc j ∷ [])) (omega arith)
    go false h = rw (append-nil (timing m T j)) (omega arith)

-- one number more, where there is room
zeros_taken : (n j z : ℕ) → n ≤ j → take n (replicate j z) ≡ replicate n z
zeros_taken zero j z h = refl
zeros_taken (suc n) zero z h = absurd (not-suc-le-zero h)
zeros_taken (suc n) (suc j) z h = ap (λ (l : List ℕ). z ∷ l) (zeros_taken n j z (le_of_suc-le-suc h))

put_more : (l : List ℕ) (x z n j : ℕ) → length l < n → n ≤ suc j → set (take n (l ++ replicate (suc j) z)) (length l) x ≡ take n (l ++ x ∷ replicate (suc j) z)
put_more [] x z zero j h k = absurd (not-suc-le-zero h)
put_more [] x z (suc n) j h k =
    ap (λ (r : List ℕ). x ∷ r) (zeros_taken n j z (le_of_suc-le-suc k) ∙ sym (zeros_taken n (suc j) z (omega (arith, k))))
put_more (y ∷ l) x z zero j h k = absurd (not-suc-le-zero h)
put_more (y ∷ l) x z (suc n) j h k = ap (λ (r : List ℕ). y ∷ r) (put_more l x z n j (le_of_suc-le-suc h) (omega (arith, k)))

nine_more : (l : List ℕ) (x : ℕ) → length l < 9 → set (nine l) (length l) x ≡ nine (l ++ (x ∷ []))
nine_more l x h = put_more l x 0 9 8 h (omega arith) ∙ ap (take 9) (sym (append_assoc l (x ∷ []) (replicate 9 0)))

-- ADKD of a tag of the loop is read, and is the definition's.
module _ (m : List ℕ) (k T : ℕ) where
  pub adkd_read : {q n from : ℕ} → Readable m k T q → from ≡ n → 1 ≤ n → n < q → (r : Result ℕ Refusal) → AdkdNumber m k T from r → IsOk r
  adkd_read {n} {from} w e some few r h =
      not_refused (λ (v : ℕ). v ∷ []) (refusal (tag_checks m k T from)) (adkd_at m T from ∷ []) r
      (ap (λ (j : ℕ). refusal (tag_checks m k T j)) e ∙ tag_readable m k T w n some few) h

  pub adkd_value : {n from v : ℕ} → from ≡ n → (r : Result ℕ Refusal) → AdkdNumber m k T from r → r ≡ Ok v → v ≡ adkd_at m T n
  adkd_value {from} e r h g = number_is (refusal (tag_checks m k T from)) (adkd_at m T from) r h g ∙ ap (adkd_at m T) e

-- The list so far, before tag n.
pub record Sofar (m : List ℕ) (T n count : ℕ) (tags : List ℕ) : Type 0 where
  pub some : 1 ≤ n
  pub count_is : count ≡ length (timing m T (n - 1))
  pub tags_is : tags ≡ nine (timing m T (n - 1))

pub none_yet : (m : List ℕ) (T : ℕ) → Sofar m T 1 0 (replicate 9 0)
unfolding timing
none_yet m T = record { some = omega arith; count_is = refl; tags_is = refl }

timing_next : (m : List ℕ) (T n : ℕ) → 1 ≤ n → timing m T (n + 1 - 1) ≡ timing m T (n - 1) ++ cond (eqb (adkd_at m T n) 4) (n ∷ []) []
unfolding timing
timing_next m T zero h = absurd (not-suc-le-zero h)
timing_next m T (suc j) h =
    let up : suc j + 1 - 1 ≡ suc j = omega arith in
    let down : suc j - 1 ≡ j = omega arith in
    rw (up, down)

module _ {m : List ℕ} {T n count : ℕ} {tags : List ℕ} (w : Sofar m T n count tags) where
  pub has_room : n ≤ 9 → count < 9
  has_room h = let few = timing_few m T (n - 1) in omega (arith, few, w.count_is, w.some, h)

  pub listed_too : {adkd count' at : ℕ} {tags' : List ℕ} → n ≤ 9 → adkd ≡ adkd_at m T n → adkd ≡ 4 → at ≡ count → tags' ≡ set tags at n → count' ≡ count + 1
      → Sofar m T (n + 1) count' tags'
  listed_too {adkd} {count'} {at} h e four ea et ec =
      let next : timing m T (n + 1 - 1) ≡ timing m T (n - 1) ++ (n ∷ []) =
      timing_next m T n w.some ∙ ap (λ (b : Bool). timing m T (n - 1) ++ cond b (n ∷ []) []) (eq-eqb (adkd_at m T n) 4 (sym e ∙ four)) in
      let few : length (timing m T (n - 1)) < 9 = omega (arith, has_room h, w.count_is) in
      record {
        some = omega arith;
        count_is = omega (arith, ec, w.count_is, ap length next, length-append (timing m T (n - 1)) (n ∷ []));
        tags_is =
            et ∙ ap (λ (l : List ℕ). set l at n) w.tags_is ∙ ap (λ (j : ℕ). set (nine (timing m T (n - 1))) j n) (ea ∙ w.count_is)
            ∙ nine_more (timing m T (n - 1)) n few ∙ ap nine (sym next);
      }

  pub not_listed : {adkd count' : ℕ} {tags' : List ℕ} → adkd ≡ adkd_at m T n → (adkd ≡ 4 → ⊥) → tags' ≡ tags → count' ≡ count → Sofar m T (n + 1) count' tags'
  not_listed e ne et ec =
      let next : timing m T (n + 1 - 1) ≡ timing m T (n - 1) =
      timing_next m T n w.some ∙ ap (λ (b : Bool). timing m T (n - 1) ++ cond b (n ∷ []) []) (ne_eqb (adkd_at m T n) 4 (λ z. ne (e ∙ z)))
      ∙ append-nil (timing m T (n - 1)) in
      record {
        some = omega arith;
        count_is = ec ∙ w.count_is ∙ ap length (sym next);
        tags_is = et ∙ w.tags_is ∙ ap nine (sym next);
      }

  pub all_listed : (k : ℕ) {q : ℕ} → q ≡ nt k T → n ≡ q → ◌≡◌ {A = Copied} (record { answer = gives (count ∷ []); bytes = tags }) (tags_listed m k T)
  all_listed k e end =
      let same : n - 1 ≡ nt k T - 1 = omega (arith, e, end) in
      rw (w.count_is, w.tags_is, same)
