-- Pages and blocks that are fed one by one are a history of the collector's own calls.
-- Assumes nothing.
use Prim.Native.Nat.{ℕ}
use mathlib.Core.Path.{◌≡◌, ap, subst, subst⁻¹}
use mathlib.Core.List.{List, [], ◌∷◌, ◌++◌, append-nil, append_assoc}
use Rattle.layouts.specs.Answer.{Answer}
use Rattle.subframes.specs.Subframe.{Page, feed as feed_page}
use Rattle.subframes.specs.SubframePromises.{state as subframe_state, FeedSubframe}
use Rattle.subframes.specs.SubframeHistory.{History as SubframeHistory, called as page_by, one as page_fed}
use Rattle.subframes.specs.declared.subframe.CollectSubframe.{CollectSubframe}
use Rattle.subframes.specs.declared.subframe.SubframeFed.{SubframeFed}
use Rattle.subframes.proofs.SubframeUnique.{back_subframe, back_state as back_collector}
use Rattle.subframes.proofs.SubframeHistory.{fed_coded}
use Rattle.subframes.specs.SubframeRecovery.{after as after_pages}
use Rattle.dsms.specs.Dsm.{State as Dsms, Fed as DsmsFed}
use Rattle.dsms.specs.DsmPromises.{state as dsm_state}
use Rattle.dsms.specs.DsmHistory.{History as DsmHistory, called as block_by, by_value as block_fed}
use Rattle.dsms.specs.declared.dsm.CollectDsm.{CollectDsm}
use Rattle.dsms.proofs.DsmHistory.{any_calls}
use Rattle.dsms.proofs.DsmUnique.{back_state as back_dsm}
use Rattle.dsms.specs.DsmRecovery.{Call as Block, fed_to, after as after_blocks}

-- Every answer of the subframe collector's definition is one of its code's, so that each page is a call.
page_called : {c : CollectSubframe} {h m : List ℕ} {qs : List Page} → SubframeHistory c h m qs → (p : Page)
    → let f = (feed_page (subframe_state c h m) p).state in SubframeHistory (back_collector f) f.hkroot f.mack (qs ++ (p ∷ []))
page_called {c} {h} {m} k p =
    let f = feed_page (subframe_state c h m) p in
    let r : SubframeFed = record { collector = back_collector f.state; answer = back_subframe f.answer } in
    let e : FeedSubframe c h m p r f.state.hkroot f.state.mack =
    ap (λ (a : Answer). record { state = f.state; answer = a }) (fed_coded (subframe_state c h m) p) in
    page_by k (page_fed p r f.state.hkroot f.state.mack e)

pub pages_called : (ps : List Page) {c : CollectSubframe} {h m : List ℕ} {qs : List Page} → SubframeHistory c h m qs
    → let f = after_pages (subframe_state c h m) ps in SubframeHistory (back_collector f) f.hkroot f.mack (qs ++ ps)
pages_called [] {c} {h} {m} {qs} k = subst⁻¹ (λ (l : List Page). SubframeHistory c h m l) (append-nil qs) k
pages_called (p ∷ ps) {c} {h} {m} {qs} k =
    let f = after_pages (subframe_state c h m) (p ∷ ps) in
    subst (λ (l : List Page). SubframeHistory (back_collector f) f.hkroot f.mack l) (append_assoc qs (p ∷ []) ps) (pages_called ps (page_called k p))

-- and each block
block_called : {c : CollectDsm} {m : List ℕ} {es : List Block} → DsmHistory c m es → (d : Block)
    → let f = (fed_to (dsm_state c m) d).state in DsmHistory (back_dsm f) f.memory (es ++ (d ∷ []))
block_called {c} {m} {es} k d =
    let w = any_calls.feed c m d in
    let s : dsm_state w.0.collector w.1 ≡ (fed_to (dsm_state c m) d).state = ap (λ (f : DsmsFed). f.state) w.2 in
    subst (λ (f : Dsms). DsmHistory (back_dsm f) f.memory (es ++ (d ∷ []))) s (block_by k (block_fed d w.0 w.1 w.2))

pub blocks_called : (ds : List Block) {c : CollectDsm} {m : List ℕ} {es : List Block} → DsmHistory c m es
    → let f = after_blocks (dsm_state c m) ds in DsmHistory (back_dsm f) f.memory (es ++ ds)
blocks_called [] {c} {m} {es} k = subst⁻¹ (λ (l : List Block). DsmHistory c m l) (append-nil es) k
blocks_called (d ∷ ds) {c} {m} {es} k =
    let f = after_blocks (dsm_state c m) (d ∷ ds) in
    subst (λ (l : List Block). DsmHistory (back_dsm f) f.memory l) (append_assoc es (d ∷ []) ds) (blocks_called ds (block_called k d))
