-- Document 01, "How far each promise reaches": "show that any two answers satisfying it agree". A line for each public function: its promise fixes the
-- answer, the record and every lent byte.
-- Assumes nothing.
use Rattle.std.specs.Prelude.{ℕ, List}
use Rattle.layouts.specs.Agree.{Agree, AgreeWithTwo}
use Rattle.subframes.specs.Subframe.{Page}
use Rattle.subframes.specs.SubframePromises.{NewSubframe, TakeWord, FeedSubframe, IsUsed}
use Rattle.subframes.specs.SubframePromises.{ViewSubframeShown, CameOut, ViewSubframe, HkrootMessageRead}
use Rattle.subframes.specs.TracePromises.{FeedAll}
use Rattle.subframes.specs.declared.subframe.CollectSubframe.{CollectSubframe}
use Rattle.subframes.specs.declared.subframe.Message.{Message}

pub record Agreed : Type 0 where
  pub new : Agree NewSubframe
  pub take : (count word : ℕ) → Agree (TakeWord count word)
  pub feed : (c : CollectSubframe) (hkroot mack : List ℕ) (p : Page) → AgreeWithTwo (FeedSubframe c hkroot mack p)
  pub used_as : (c : CollectSubframe) (satellite week time : ℕ) → Agree (IsUsed c satellite week time)
  pub view_shown : (c : CollectSubframe) (hkroot mack : List ℕ) (m : Message) (satellite : ℕ) → Agree (ViewSubframeShown c hkroot mack m satellite)
  pub came_out : (c : CollectSubframe) (hkroot mack : List ℕ) (satellite : ℕ) → Agree (CameOut c hkroot mack satellite)
  pub view : (c : CollectSubframe) (hkroot mack : List ℕ) (m : Message) (satellite : ℕ) → Agree (ViewSubframe c hkroot mack m satellite)
  pub hkroot_message : (c : CollectSubframe) (hkroot mack : List ℕ) (satellite : ℕ) → Agree (HkrootMessageRead c hkroot mack satellite)
  pub feed_all : (c : CollectSubframe) (hkroot mack trace : List ℕ) → AgreeWithTwo (FeedAll c hkroot mack trace)
