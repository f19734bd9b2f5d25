-- Laws of truth values and lists that several collectors cite.
-- Assumes nothing.
use Prim.Native.Nat.{ℕ, ◌+◌, ◌≤◌, ◌<◌}
use native.Mathlib.Omega.{arith}
use mathlib.Core.Path.{◌≡◌, refl, sym, ◌∙◌}
use mathlib.Core.List.{List}
use mathlib.Core.Bool.{Bool, true, false, ◌&&◌}
use lib.ListN.{length, get_or, take, drop, length-drop}
use lib.Seq.{length-take-le, get_or-take, get_or-drop, ext_get_or}

pub and_true : (x y : Bool) → (x && y) ≡ true → (x ≡ true) × (y ≡ true)
and_true true y h = (refl, h)
and_true false y h = let z : ◌≡◌ {A = ℕ} 0 1 = cc in absurd (omega arith)

-- a part of a list, element by element
pub part_is : (w : ℕ) (l : List ℕ) (a : ℕ) (x : List ℕ) → a + w ≤ length l → length x ≡ w
    → ((i : ℕ) → i < w → get_or l (a + i) 0 ≡ get_or x i 0) → take w (drop a l) ≡ x
part_is w l a x room long same =
    let many : length (take w (drop a l)) ≡ w = length-take-le w (drop a l) (rw length-drop (omega arith)) in
    ext_get_or 0 (take w (drop a l)) x (many ∙ sym long) (λ i h. let h : i < w = rw many at h in get_or-take w (drop a l) i 0 h ∙ get_or-drop a l i 0 ∙ same i h)
