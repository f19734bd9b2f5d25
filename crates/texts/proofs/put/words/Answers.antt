-- `put::words`: no room, or the words.
-- Assumes nothing.
use Rattle.texts.proofs.PutTexts.{text_off, text_on, fits}
use Rattle.texts.proofs.put.words.Goals as goal

pub returns-in_err-check_room : goal.returns-in_err-check_room
returns-in_err-check_room c = text_off _ _ _ _ _ c.from_residual.ensures.1 c.in_err-check_room.ensures

pub put_words-requires : goal.put_words-requires
put_words-requires c = fits _ _ _ c.in_ok-check_room.ensures

pub returns : goal.returns
returns c = text_on _ _ _ c.in_ok-check_room.ensures c.put_words.ensures.value c.put_words.ensures.out_after
