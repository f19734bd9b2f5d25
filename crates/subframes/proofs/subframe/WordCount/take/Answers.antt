-- `WordCount::take`: each case of the definition.
-- Assumes nothing.
use mathlib.Core.Path.{◌≡◌}
use native.Mathlib.Omega.{arith}
use Rattle.subframes.proofs.Pages.{count_high, word_high, word_other, word_next}
use Rattle.subframes.proofs.subframe.WordCount.take.Goals as goal
use Rattle.subframes.proofs.subframe.WordCount.take.Goals.{then-word-lt15+else-word-count, else-word-lt15}

pub returns-then-word-count : goal.returns-then-word-count
returns-then-word-count c =
    let n = c.args.self.words in
    let w = c.args.word in
    let same : w ≡ n = c.if-word-count.true in
    word_next n w (omega (arith, c.if-word-lt15.true)) (omega (arith, c.if-word-lt15.true)) same

pub returns-then-count-gt15 : goal.returns-then-count-gt15
returns-then-count-gt15 c = search count_high

pub returns-then-word-gt14 : goal.returns-then-word-gt14
returns-then-word-gt14 c = search word_high

pub returns : goal.returns
returns c =
    let n = c.args.self.words in
    let w = c.args.word in
    elim c.if-word-lt15.branch [
      | then-word-lt15+else-word-count b ↦ word_other n w c.if-count-gt15.false c.if-word-gt14.false b.if-word-count.false
      | else-word-lt15 b ↦ absurd (omega (arith, b.if-word-lt15.false, c.if-word-gt14.false))
    ]
