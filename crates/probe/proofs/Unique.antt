-- Two outcomes that meet a promise agree: each promise is one equation, so its parts are those of the right side.
-- Assumes nothing.
use mathlib.Core.Path.{◌≡◌, sym, ap, ◌∙◌}
use mathlib.Core.List.{List}
use mathlib.Core.Bool.{Bool}
use Prim.Native.Nat.{ℕ}
use Rattle.dsms.specs.Dsm as d
use Rattle.subframes.specs.Subframe as s
use Rattle.storage.specs.Store as m
use Rattle.probe.specs.Telling.{Viewed}
use Rattle.probe.specs.Dsm as pd
use Rattle.probe.specs.Subframe as ps
use Rattle.probe.specs.Store as pm
use Rattle.probe.specs.Writers as pw
use Rattle.probe.specs.Walks as pk
use Rattle.probe.specs.declared.tell.Told.{Told}
use Rattle.probe.specs.declared.dsm.DsmRecord.{DsmRecord}
use Rattle.probe.specs.declared.dsm.DsmCalled.{DsmCalled}
use Rattle.probe.specs.declared.subframe.SubframeRecord.{SubframeRecord}
use Rattle.probe.specs.declared.subframe.SubframeCalled.{SubframeCalled}
use Rattle.probe.specs.declared.subframe.SubframeTraced.{SubframeTraced}
use Rattle.probe.specs.declared.subframe.HkrootTold.{HkrootTold}
use Rattle.probe.specs.declared.subframe.WordTold.{WordTold}
use Rattle.probe.specs.declared.store.StoreRecord.{StoreRecord}
use Rattle.probe.specs.declared.store.StoreCalled.{StoreCalled}
use Rattle.probe.specs.declared.writers.KrootRecord.{KrootRecord}
use Rattle.probe.specs.declared.writers.KrootCalled.{KrootCalled}
use Rattle.probe.specs.declared.writers.PkrRecord.{PkrRecord}
use Rattle.probe.specs.declared.writers.PkrCalled.{PkrCalled}
use Rattle.probe.specs.declared.writers.BlockCalled.{BlockCalled}
use Rattle.probe.specs.declared.walks.WalkTold.{WalkTold}
use Rattle.probe.specs.declared.walks.TimingTold.{TimingTold}

-- the records are their states without the lent bytes
abbrev dsm_back : d.State → DsmRecord
dsm_back x = record { id = x.id; came = x.came; held = x.held; done = x.done }

abbrev subframe_back : s.State → SubframeRecord
subframe_back x = record { week = x.week; subframe = x.subframe; counts = x.counts }

abbrev store_back : m.Storage → StoreRecord
store_back x =
    record {
      current = x.current;
      timed = x.timed;
      weeks = x.weeks;
      tows = x.tows;
      counts = x.counts;
      satellites = x.satellites;
      statuses = x.statuses;
    }

-- the DSM collector
pub probe_dsm_new : (r q : DsmRecord) → pd.DsmNew r → pd.DsmNew q → r ≡ q
probe_dsm_new r q p o = ap dsm_back (p ∙ sym o)

pub probe_dsm_feed : (c : DsmRecord) (memory : List ℕ) (header : ℕ) (block : List ℕ) (r q : DsmCalled) (x y : List ℕ)
    → pd.DsmFeed c memory header block r x → pd.DsmFeed c memory header block q y → (r ≡ q) × (x ≡ y)
probe_dsm_feed c memory header block r q x y p o =
    let e = p ∙ sym o in (
      ap (λ (k : pd.Called). record { collector = dsm_back k.state; answer = k.answer }) e,
      ap (λ (k : pd.Called). k.state.memory) e,
    )

pub probe_dsm_view : (c : DsmRecord) (memory out : List ℕ) (r q : Told) (x y : List ℕ)
    → pd.DsmView c memory out r x → pd.DsmView c memory out q y → (r ≡ q) × (x ≡ y)
probe_dsm_view c memory out r q x y p o = let e = p ∙ sym o in (ap (λ (k : Viewed). k.answer) e, ap (λ (k : Viewed). k.out) e)

pub probe_dsm_view_answer : (c : DsmRecord) (memory : List ℕ) (r q : Told) → pd.DsmViewAnswer c memory r → pd.DsmViewAnswer c memory q → r ≡ q
probe_dsm_view_answer c memory r q p o = p ∙ sym o

-- the subframe collector
pub probe_subframe_new : (r q : SubframeRecord) → ps.SubframeNew r → ps.SubframeNew q → r ≡ q
probe_subframe_new r q p o = ap subframe_back (p ∙ sym o)

pub probe_subframe_feed : (c : SubframeRecord) (h m : List ℕ) (page : s.Page) (r q : SubframeCalled) (h1 m1 h2 m2 : List ℕ)
    → ps.SubframeFeed c h m page r h1 m1 → ps.SubframeFeed c h m page q h2 m2 → (r ≡ q) × (h1 ≡ h2) × (m1 ≡ m2)
probe_subframe_feed c h m page r q h1 m1 h2 m2 p o =
    let e = p ∙ sym o in (
      ap (λ (k : ps.Called). record { collector = subframe_back k.state; answer = k.answer }) e,
      ap (λ (k : ps.Called). k.state.hkroot) e,
      ap (λ (k : ps.Called). k.state.mack) e,
    )

pub probe_subframe_feed_all : (c : SubframeRecord) (h m trace : List ℕ) (r q : SubframeTraced) (h1 m1 h2 m2 : List ℕ)
    → ps.SubframeFeedAll c h m trace r h1 m1 → ps.SubframeFeedAll c h m trace q h2 m2 → (r ≡ q) × (h1 ≡ h2) × (m1 ≡ m2)
probe_subframe_feed_all c h m trace r q h1 m1 h2 m2 p o =
    let e = p ∙ sym o in (
      ap (λ (k : ps.Traced). record { collector = subframe_back k.state; answer = k.answer; consumed = k.consumed }) e,
      ap (λ (k : ps.Traced). k.state.hkroot) e,
      ap (λ (k : ps.Traced). k.state.mack) e,
    )

pub probe_subframe_view : (c : SubframeRecord) (h m : List ℕ) (of-mack : Bool) (satellite : ℕ) (out : List ℕ) (r q : Told) (x y : List ℕ)
    → ps.SubframeView c h m of-mack satellite out r x → ps.SubframeView c h m of-mack satellite out q y → (r ≡ q) × (x ≡ y)
probe_subframe_view c h m of-mack satellite out r q x y p o =
    let e = p ∙ sym o in (ap (λ (k : Viewed). k.answer) e, ap (λ (k : Viewed). k.out) e)

pub probe_subframe_came_out : (c : SubframeRecord) (h m : List ℕ) (satellite : ℕ) (r q : Told)
    → ps.SubframeCameOut c h m satellite r → ps.SubframeCameOut c h m satellite q → r ≡ q
probe_subframe_came_out c h m satellite r q p o = p ∙ sym o

pub probe_subframe_hkroot_message : (c : SubframeRecord) (h m : List ℕ) (satellite : ℕ) (r q : HkrootTold)
    → ps.SubframeHkrootMessage c h m satellite r → ps.SubframeHkrootMessage c h m satellite q → r ≡ q
probe_subframe_hkroot_message c h m satellite r q p o = ap (λ (k : ps.Message15). record { answer = k.answer; bytes = k.bytes }) (p ∙ sym o)

pub probe_word_take : (words word : ℕ) (r q : WordTold) → ps.WordTake words word r → ps.WordTake words word q → r ≡ q
probe_word_take words word r q p o = ap (λ (k : ps.Word). record { next = k.next; answer = k.answer }) (p ∙ sym o)

-- the MACK store
pub probe_store_new : (r q : StoreRecord) → pm.StoreNew r → pm.StoreNew q → r ≡ q
probe_store_new r q p o = ap store_back (p ∙ sym o)

pub probe_store_store : (a : StoreRecord) (memory : List ℕ) (c : m.Call) (r q : StoreCalled) (x y : List ℕ)
    → pm.StoreStore a memory c r x → pm.StoreStore a memory c q y → (r ≡ q) × (x ≡ y)
probe_store_store a memory c r q x y p o =
    let e = p ∙ sym o in (
      ap (λ (k : pm.Called). record { storage = store_back k.state.storage; answer = k.answer }) e,
      ap (λ (k : pm.Called). k.state.memory) e,
    )

pub probe_store_get : (a : StoreRecord) (c : m.Asked) (r q : Told) → pm.StoreGet a c r → pm.StoreGet a c q → r ≡ q
probe_store_get a c r q p o = p ∙ sym o

-- the writers
pub probe_write_kroot : (memory : List ℕ) (id : ℕ) (v : KrootRecord) (key signature padding : List ℕ) (r q : Told) (x y : List ℕ)
    → pw.WriteKroot memory id v key signature padding r x → pw.WriteKroot memory id v key signature padding q y → (r ≡ q) × (x ≡ y)
probe_write_kroot memory id v key signature padding r q x y p o =
    let e = p ∙ sym o in (ap (λ (k : pw.Sent). k.answer) e, ap (λ (k : pw.Sent). k.memory) e)

pub probe_write_pkr : (memory : List ℕ) (id : ℕ) (v : PkrRecord) (nodes key padding : List ℕ) (r q : Told) (x y : List ℕ)
    → pw.WritePkr memory id v nodes key padding r x → pw.WritePkr memory id v nodes key padding q y → (r ≡ q) × (x ≡ y)
probe_write_pkr memory id v nodes key padding r q x y p o =
    let e = p ∙ sym o in (ap (λ (k : pw.Sent). k.answer) e, ap (λ (k : pw.Sent). k.memory) e)

pub probe_block : (memory : List ℕ) (id n : ℕ) (r q : BlockCalled) → pw.CutBlock memory id n r → pw.CutBlock memory id n q → r ≡ q
probe_block memory id n r q p o = ap (λ (k : pw.Block13). record { bytes = k.bytes; answer = k.answer }) (p ∙ sym o)

pub probe_kroot_values : (m : List ℕ) (r q : KrootCalled) → pw.ReadKrootValues m r → pw.ReadKrootValues m q → r ≡ q
probe_kroot_values m r q p o = p ∙ sym o

pub probe_pkr_values : (m : List ℕ) (r q : PkrCalled) → pw.ReadPkrValues m r → pw.ReadPkrValues m q → r ≡ q
probe_pkr_values m r q p o = p ∙ sym o

-- the recorder
pub probe_walk : (m : List ℕ) (k T sender id msg : ℕ) (r q : WalkTold) → pk.WalkSlots m k T sender id msg r → pk.WalkSlots m k T sender id msg q → r ≡ q
probe_walk m k T sender id msg r q p o = p ∙ sym o

pub probe_timing_tags : (m : List ℕ) (k T : ℕ) (r q : TimingTold) → pk.TimingTagsRead m k T r → pk.TimingTagsRead m k T q → r ≡ q
probe_timing_tags m k T r q p o = p ∙ sym o

pub probe_walk_complete : (c : SubframeRecord) (h m : List ℕ) (satellite k T id : ℕ) (r q : WalkTold)
    → pk.WalkComplete c h m satellite k T id r → pk.WalkComplete c h m satellite k T id q → r ≡ q
probe_walk_complete c h m satellite k T id r q p o = p ∙ sym o
