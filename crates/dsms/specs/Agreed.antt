-- Document 01, "How far each promise reaches": "show that any two answers satisfying it agree". `Agree` is of `layouts`; a line for each public function.
-- Assumes nothing.
use Rattle.std.specs.Prelude.{ℕ, List, ◌≡◌, Result, Option}
use Rattle.layouts.specs.Agree.{Agree, AgreeWith}
use Rattle.layouts.specs.declared.refusal.Refusal.{Refusal}
use Rattle.dsms.specs.DsmPromises.{NewDsm, FeedDsm, ViewDsmShown, ViewDsm}
use Rattle.dsms.specs.DsmView.{ViewKept, IdKept, TypeKept, DataKept, ViewAnswer, FeedInPlace}
use Rattle.dsms.specs.declared.dsm.CollectDsm.{CollectDsm}
use Rattle.dsms.specs.declared.dsm.CompleteDsm.{CompleteDsm}
use Rattle.dsms.specs.declared.dsm_view.Dsm.{Dsm}

-- Two structs `Dsm` agree by the slice's bytes. The cause: the struct holds a reference, and an address is no part of a promise; which bytes stand there is.
-- (`==` of the Rust compares a slice by its bytes, too.)
pub record SameDsm (r s : Dsm) : Type 0 where
  pub id : r.id ≡ s.id
  pub kind : r.dsm_type ≡ s.dsm_type
  pub bytes : r.«data».now ≡ s.«data».now

pub record Agreed : Type 0 where
  -- `dsm`
  pub new : Agree NewDsm
  pub feed : (c : CollectDsm) (memory : List ℕ) (header : ℕ) (block : List ℕ) → AgreeWith (FeedDsm c memory header block)
  pub view_shown : (c : CollectDsm) (memory : List ℕ) → Agree (ViewDsmShown c memory)
  pub view : (c : CollectDsm) (memory : List ℕ) → Agree (ViewDsm c memory)
  -- `dsm_in_place`: the answer, the record behind the reference and the lent bytes
  pub feed_in_place : (c : CollectDsm) (memory : List ℕ) (header : ℕ) (block : List ℕ) (r s : Result (Option CompleteDsm) Refusal) (k l : CollectDsm) (x y : List ℕ)
      → FeedInPlace c memory header block r k x → FeedInPlace c memory header block s l y → (r ≡ s) × (k ≡ l) × (x ≡ y)
  -- `dsm_view`
  pub view_dsm : (c : CollectDsm) (memory : List ℕ) (r s : Dsm) → ViewKept c memory r → ViewKept c memory s → SameDsm r s
  pub dsm_id : (d : Dsm) → Agree (IdKept d)
  pub dsm_type_lem : (d : Dsm) → Agree (TypeKept d)
  pub dsm_data : (d : Dsm) → Agree (DataKept d)
  pub view_answer : (c : CollectDsm) (memory : List ℕ) → Agree (ViewAnswer c memory)
