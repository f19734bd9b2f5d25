-- A record and lent bytes of the DSM collector that are not refused stay so, whatever block comes.
-- Assumes nothing.
use Prim.Native.Nat.{ℕ, zero, suc, ◌*◌, ◌≤◌, ◌<◌}
use mathlib.Core.Path.{◌≡◌, refl}
use mathlib.Core.List.{List, [], ◌∷◌}
use mathlib.Core.Bool.{Bool, true, false, cond, ◌&&◌}
use lib.ListN.{length, get_or}
use lib.Dec.{eqb, eqb-suc-zero}
use Rattle.layouts.specs.Answer.{refused, nothing, gives, refusal}
use Rattle.layouts.specs.DsmHeader.{dsm_type_of}
use Rattle.dsms.specs.Dsm.{State, Fed, id_of, block_of, feed_checks, fresh, begun, copied, stored, count, whole, completed, finished, taken, feed}
use Rattle.dsms.proofs.Blocks.{header_id, header_block, admitted_then}
use Rattle.dsms.proofs.DsmRun.{put_long}

pub record Sound (d : State) : Type 0 where
  pub d208 : length d.memory ≡ 208
  pub id_low : d.id ≤ 15

sound_begun : (d : State) (i : ℕ) → Sound d → i ≤ 15 → Sound (begun d i)
unfolding begun
sound_begun d i h l = go (d.came && eqb d.id i)
  where
    go : (b : Bool) → Sound (cond b d (fresh d i))
    go true = h
    go false = record { d208 = h.d208; id_low = l }

sound_stored : (d : State) (n : ℕ) (block : List ℕ) → Sound d → n < 16 → length block ≡ 13 → Sound (stored d n block)
unfolding stored
sound_stored d n block h l e = go (get_or d.held n false)
  where
    go : (b : Bool) → Sound (cond b d (copied d n block))
    go true = h
    go false = record { d208 = put_long d.memory n block h.d208 e l; id_low = h.id_low }

sound_finished : (d : State) → Sound d → Sound (finished d).state
unfolding finished
sound_finished d h = go (whole d)
  where
    go : (b : Bool)
        → Sound (cond {A = Fed} b
        (record { state = completed d; answer = gives (d.id ∷ dsm_type_of d.id ∷ 13 * count d ∷ []) })
        (record { state = d; answer = nothing })).state
    go true = record { d208 = h.d208; id_low = h.id_low }
    go false = h

sound_taken : (d : State) (n : ℕ) (block : List ℕ) → Sound d → n < 16 → length block ≡ 13 → Sound (taken d n block).state
unfolding taken
sound_taken d n block h l e = go d.done
  where
    go : (b : Bool) → Sound (cond {A = Fed} b (record { state = d; answer = nothing }) (finished (stored d n block))).state
    go true = h
    go false = sound_finished (stored d n block) (sound_stored d n block h l e)

pub sound_fed : (d : State) (header : ℕ) (block : List ℕ) → Sound d → Sound (feed d header block).state
unfolding feed
sound_fed d header block h = go (refusal (feed_checks d.id d.memory block)) refl
  where
    go : (q : ℕ) → q ≡ refusal (feed_checks d.id d.memory block)
        → Sound (cond {A = Fed} (eqb q 0) (taken (begun d (id_of header)) (block_of header) block) (record { state = d; answer = refused q })).state
    go zero e =
        sound_taken (begun d (id_of header)) (block_of header) block (sound_begun d (id_of header) h (header_id header)) (header_block header)
        (admitted_then d.id d.memory block e).1
    go (suc q) e = rw (eqb-suc-zero q) h
