-- `lines::put_line`: a line in a buffer of its own, and then these bytes.
-- Assumes nothing.
use mathlib.Core.Path.{refl}
use Rattle.texts.proofs.PutTexts.{line_taken}
use Rattle.texts.proofs.lines.put_line.Goals as goal

pub slice_bounds-text-end : goal.slice_bounds-text-end
slice_bounds-text-end g c = (c.requires.counted _ _ _ (record { shown = _; shows = refl; left = _; met = c.line-many.ensures; leaves = refl })).0

pub slice_bounds-words-end : goal.slice_bounds-words-end
slice_bounds-words-end g c = (c.requires.counted _ _ _ (record { shown = _; shows = refl; left = _; met = c.line-many.ensures; leaves = refl })).1

pub returns : goal.returns
returns g c = λ ps h.
    line_taken _ ps c.args.out.now c.args.at c.words.result
    (h _ _ _ (record { shown = _; shows = refl; left = _; met = c.line-many.ensures; leaves = refl })) c.words.ensures
