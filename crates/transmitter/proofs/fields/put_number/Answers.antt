-- `fields::put_number`: the last bytes of the number.
-- Assumes nothing.
use mathlib.Core.Path.{ap, ◌∙◌}
use mathlib.Core.List.{List}
use Prim.Native.Nat.{ℕ, ◌-◌}
use lib.ListN.{take, drop}
use Rattle.transmitter.specs.inner.Parts.{put_at}
use Rattle.transmitter.proofs.Rows.{last_bytes}
use Rattle.transmitter.proofs.fields.put_number.Goals as goal

pub returns : goal.returns
returns c =
    let a = c.args in
    c.put.ensures
    ∙ ap (put_at a.dsm.now a.at)
    (ap (λ (l : List ℕ). take (8 - (8 - a.many)) (drop (8 - a.many) l)) c.to_be_bytes-bytes.ensures ∙ last_bytes a.many a.n c.requires.0)
