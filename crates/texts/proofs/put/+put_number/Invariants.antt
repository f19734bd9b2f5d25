-- `put::put_number`: the measure is the number, of which the call takes all digits but the last.
-- Assumes nothing.
use Rattle.texts.proofs.put.+put_number.Given as goal

abbrev pub decreases-put_number : goal.decreases-put_number
decreases-put_number l = l.n
