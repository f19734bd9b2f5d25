-- What the private functions of the code do.
-- Assumes nothing.
use Rattle.std.specs.Prelude.{ℕ, ◌≤◌, List, ◌≡◌, Option, Some, None}
use Rattle.layouts.specs.Answer.{refusal}
use Rattle.layouts.specs.Mack.{mack_checks, nt}
use Rattle.layouts.specs.Maclt.{Slot, fixed, flex, table, row_of}
use Rattle.layouts.specs.Meaning.{object_number}
use Rattle.layouts.specs.declared.tag_info.Adkd.{Adkd}
use Rattle.layouts.specs.declared.tag_info.Adkd.TheVariants.{InavCed, InavTiming, SlowMac, Reserved}
use Rattle.layouts.specs.declared.maclt.MacLTSlot.{MacLTSlot}
use Rattle.layouts.specs.declared.maclt.MacLTSlot.TheVariants.{Fixed, Flex}
use Rattle.recorder.specs.WalkPromises.{field_number}
use Rattle.recorder.specs.declared.slots.TagField.{TagField}

-- the number of a slot's ADKD; 16, which no tag has, for Reserved, which no slot has
abbrev pub adkd_number : Adkd → ℕ
adkd_number InavCed = 0
adkd_number InavTiming = 4
adkd_number SlowMac = 12
adkd_number Reserved = 16

-- the paper's slot
abbrev pub slot_of : MacLTSlot → Slot
slot_of (Fixed a o) = fixed (adkd_number a) (object_number o)
slot_of Flex = flex

-- 0, or the number of the field
abbrev pub field_or_0 : Option TagField → ℕ
field_or_0 None = 0
field_or_0 (Some f) = field_number f

-- a message that can be read, with its nt
abbrev pub Readable : List ℕ → ℕ → ℕ → ℕ → Type 0
Readable m k T n = (refusal (mack_checks m k T) ≡ 0) × (n ≡ nt k T)

-- and whose tags are as many as those of an ID
abbrev pub Walkable : List ℕ → ℕ → ℕ → ℕ → ℕ → ℕ → Type 0
Walkable m k T id msg n = Readable m k T n × (msg ≤ 1) × (n ≡ (row_of id table).nt)
