-- `lines::put_part`: the words, then the number behind them.
-- Assumes nothing.
use native.Mathlib.Omega.{arith}
use Rattle.texts.proofs.Decimals.{digits_few}
use Rattle.texts.proofs.Written.{begun_part}
use Rattle.texts.proofs.lines.put_part.Goals as goal

pub put_number-requires : goal.put_number-requires
put_number-requires c =
    omega (arith, digits_few c.args.n (omega (arith, c.ranges.n)), c.requires, c.put_words-end.ensures.value, c.put_words-end.auto.out)

pub returns : goal.returns
returns c =
    let n = c.put_number.ensures in
    let most = c.ranges.n in
    let e = c.put_words-end.ensures in record {
      by_index = λ m l b. begun_part m l c.args.words.now c.args.n c.requires (omega arith) e.out_after e.value n.out_after n.value b;
      upper_bound = omega (arith, digits_few c.args.n (omega arith), e.value, n.value);
    }
