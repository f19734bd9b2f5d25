-- What private functions of `trace` need and do.
-- Assumes nothing.
use Rattle.std.specs.Prelude.{ℕ, List, Bool, true, false, cond, eqb}
use Rattle.layouts.specs.Answer.{Answer, refused, nothing}
use Rattle.subframes.specs.inner.Page.{state_of}
use Rattle.subframes.specs.Trace.{FedMany}
use Rattle.subframes.specs.declared.page.PageTaken.{PageTaken}
use Rattle.subframes.specs.declared.page.PageTaken.TheVariants.{Unused, Used, Last}

-- whether an admitted page was its subframe's last: a pair comes out, complete or silent
abbrev pub is_last : PageTaken → Bool
is_last Unused = false
is_last Used = false
is_last Last = true

-- what is answered where an entry that would be refused ends a trace
abbrev pub ends_with : ℕ → ℕ → Answer
ends_with n q = cond (eqb n 0) (refused q) nothing

-- an outcome from its parts
abbrev pub fed_of : ℕ → ℕ → List ℕ → Answer → ℕ → List ℕ → List ℕ → FedMany
fed_of week subframe counts answer consumed hkroot mack = record { state = state_of week subframe counts hkroot mack; answer = answer; consumed = consumed }
