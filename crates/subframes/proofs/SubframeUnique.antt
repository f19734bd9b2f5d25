-- Two answers of the subframe collector that meet a promise agree, with the record and every lent byte.
-- Assumes nothing.
use mathlib.Core.Path.{◌≡◌, refl, sym, ap, ◌∙◌}
use mathlib.Core.List.{List, [], ◌∷◌}
use Prim.Native.Nat.{ℕ}
use Rattle.layouts.specs.Answer.{Answer, refused, nothing, gives, Copied}
use Rattle.layouts.specs.Agree.{Agree, AgreeWithTwo}
use Rattle.subframes.specs.Subframe.{State, Page, WordStep, Fed}
use Rattle.std.specs.Prelude.{Bool, true, false, Result, Ok, Err, Option, Some, None}
use Rattle.layouts.specs.declared.refusal.Refusal.{Refusal}
use Rattle.layouts.proofs.Back.{refusal_at, undo_refusal}
use Rattle.subframes.specs.SubframePromises.{outcome, meaning_subframe, meaning_word, meaning_shown, meaning_message}
use Rattle.subframes.specs.SubframePromises.{NewSubframe, TakeWord, IsUsed, FeedSubframe}
use Rattle.subframes.specs.SubframePromises.{ViewSubframeShown, CameOut, ViewSubframe, HkrootMessageRead}
use Rattle.subframes.specs.declared.subframe.CollectSubframe.{CollectSubframe}
use Rattle.subframes.specs.declared.subframe.Pair.{Pair}
use Rattle.subframes.specs.declared.subframe.Pair.TheVariants.{Complete, Silent}
use Rattle.subframes.specs.declared.subframe.SubframeFed.{SubframeFed}
use Rattle.subframes.specs.declared.subframe.HkrootMessage.{HkrootMessage}
use Rattle.subframes.specs.declared.subframe.Message.{Message}
use Rattle.layouts.specs.declared.part.Part.{Part}
use Rattle.subframes.specs.declared.subframe.WordTaken.{WordTaken}

-- `back` undoes each `meaning`
abbrev pub back_subframe : Answer → Result (Option Pair) Refusal
back_subframe (refused n) = Err (refusal_at n)
back_subframe nothing = Ok None
back_subframe (gives []) = Ok None
back_subframe (gives (w ∷ [])) = Ok None
back_subframe (gives (w ∷ t ∷ [])) = Ok (Some (Complete w t))
back_subframe (gives (w ∷ t ∷ n ∷ l)) = Ok (Some (Silent w t))

pub undo_subframe : (r : Result (Option Pair) Refusal) → back_subframe (meaning_subframe r) ≡ r
undo_subframe (Err e) = ap Err (undo_refusal e)
undo_subframe (Ok None) = refl
undo_subframe (Ok (Some (Complete w t))) = refl
undo_subframe (Ok (Some (Silent w t))) = refl

abbrev back_word : Answer → Result Bool Refusal
back_word (refused n) = Err (refusal_at n)
back_word nothing = Ok false
back_word (gives l) = Ok true

undo_word : (r : Result Bool Refusal) → back_word (meaning_word r) ≡ r
undo_word (Err e) = ap Err (undo_refusal e)
undo_word (Ok false) = refl
undo_word (Ok true) = refl

-- the record is its state without the lent bytes
abbrev pub back_state : State → CollectSubframe
back_state s = record { week = s.week; subframe = s.subframe; counts = s.counts }

pub new_subframe : Agree NewSubframe
new_subframe r s p q = ap back_state (p ∙ sym q)

abbrev back_taken : WordStep → WordTaken
back_taken f = record { next = record { words = f.next }; used = back_word f.answer }

pub take_word : (n w : ℕ) → Agree (TakeWord n w)
take_word n w r s p q = whole r ∙ ap back_taken (p ∙ sym q) ∙ sym (whole s)
  where
    whole : (f : WordTaken) → ◌≡◌ {A = WordTaken} f (record { next = f.next; used = back_word (meaning_word f.used) })
    whole f = rw (undo_word f.used)

pub used_as : (c : CollectSubframe) (satellite week time : ℕ) → Agree (IsUsed c satellite week time)
used_as c satellite week time r s p q = sym (undo_word r) ∙ ap back_word (p ∙ sym q) ∙ undo_word s

abbrev back_fed : Fed → SubframeFed
back_fed f = record { collector = back_state f.state; answer = back_subframe f.answer }

pub feed_subframe : (c : CollectSubframe) (h m : List ℕ) (page : Page) → AgreeWithTwo (FeedSubframe c h m page)
feed_subframe c h m page r s x y x' y' p q =
    let e : outcome r x x' ≡ outcome s y y' = p ∙ sym q in
    (whole r ∙ ap back_fed e ∙ sym (whole s), ap (λ (f : Fed). f.state.hkroot) e, ap (λ (f : Fed). f.state.mack) e)
  where
    whole : (f : SubframeFed) → ◌≡◌ {A = SubframeFed} f (record { collector = f.collector; answer = back_subframe (meaning_subframe f.answer) })
    whole f = rw (undo_subframe f.answer)

abbrev back_shown : Answer → Result (Option Part) Refusal
back_shown (refused n) = Err (refusal_at n)
back_shown nothing = Ok None
back_shown (gives []) = Ok None
back_shown (gives (f ∷ [])) = Ok None
back_shown (gives (f ∷ n ∷ l)) = Ok (Some (record { first = f; many = n }))

undo_shown : (r : Result (Option Part) Refusal) → back_shown (meaning_shown r) ≡ r
undo_shown (Err e) = ap Err (undo_refusal e)
undo_shown (Ok None) = refl
undo_shown (Ok (Some p)) = refl

pub view_subframe_shown : (c : CollectSubframe) (h m : List ℕ) (k : Message) (n : ℕ) → Agree (ViewSubframeShown c h m k n)
view_subframe_shown c h m k n r s p q = sym (undo_shown r) ∙ ap back_shown (p ∙ sym q) ∙ undo_shown s

pub came_out : (c : CollectSubframe) (h m : List ℕ) (n : ℕ) → Agree (CameOut c h m n)
came_out c h m n r s p q = sym (undo_subframe r) ∙ ap back_subframe (p ∙ sym q) ∙ undo_subframe s

pub view_subframe : (c : CollectSubframe) (h m : List ℕ) (k : Message) (n : ℕ) → Agree (ViewSubframe c h m k n)
view_subframe c h m k n r s p q = p ∙ sym q

abbrev with_bytes : List ℕ → Result (Option Part) Refusal → Result (Option HkrootMessage) Refusal
with_bytes l (Err e) = Err e
with_bytes l (Ok None) = Ok None
with_bytes l (Ok (Some p)) = Ok (Some (record { part = p; bytes = l }))

abbrev back_message : Copied → Result (Option HkrootMessage) Refusal
back_message x = with_bytes x.bytes (back_shown x.answer)

undo_message : (r : Result (Option HkrootMessage) Refusal) → back_message (meaning_message r) ≡ r
undo_message (Err e) = ap Err (undo_refusal e)
undo_message (Ok None) = refl
undo_message (Ok (Some m)) = refl

pub hkroot_message : (c : CollectSubframe) (h m : List ℕ) (n : ℕ) → Agree (HkrootMessageRead c h m n)
hkroot_message c h m n r s p q = sym (undo_message r) ∙ ap back_message (p ∙ sym q) ∙ undo_message s
