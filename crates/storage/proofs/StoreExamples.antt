-- Examples of the store, computed: a time that owns two places, and how long a place lasts.
-- Assumes nothing.
use mathlib.Core.Path.{refl}
use Rattle.layouts.specs.Answer.{refusal, answered}
use Rattle.layouts.specs.Lists.{all}
use Rattle.storage.specs.Store.{first, legal_entry, legal_time, legal_entries, legal, is_time, next_place, place_for, number_for, entered, stored}
use Rattle.storage.specs.Store.{store, reached, first_of, found_among, get}
use Rattle.storage.specs.StoreKeeps.{TwoPlaces, PlaceLasts}

pub two_places : TwoPlaces
unfolding refusal answered all first legal_entry legal_time legal_entries legal is_time next_place place_for number_for entered stored store reached first_of
    found_among get
two_places = record { stored_here = refl; in_place = refl; as_first = refl; its_time = refl; lower = refl; asked = refl; missed = refl }

pub place_lasts : PlaceLasts
unfolding refusal answered all first legal_entry legal_time legal_entries legal is_time next_place place_for number_for entered stored store reached first_of
    found_among get
place_lasts = record { at_once = refl; next_time = refl; ring_round = refl }
