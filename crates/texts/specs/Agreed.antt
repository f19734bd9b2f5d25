-- Document 01, "How far each promise reaches": "show that any two answers satisfying it agree". A line for each public function: answer and lent bytes.
-- Assumes nothing.
use Rattle.std.specs.Prelude.{ℕ, List}
use Rattle.layouts.specs.Agree.{Agree, AgreeWith}
use Rattle.layouts.specs.declared.gst.Stamp.{Stamp}
use Rattle.texts.specs.declared.lines.Counted.{Counted}
use Rattle.texts.specs.Arguments.{ReadDecimal, ReadArguments}
use Rattle.texts.specs.Hexadecimal.{Spells}
use Rattle.texts.specs.Puts.{PutWords, PutNumber, PutHexadecimal, PutNewline, ReadHexadecimal}
use Rattle.texts.specs.Lines.{SubframeLine, DsmLine, TotalsLine, RefusedLine, SubframeLineAt, DsmLineAt, TotalsLineAt, RefusedLineAt}

pub record Agreed : Type 0 where
  -- arguments
  pub decimal : (text : List ℕ) → Agree (ReadDecimal text)
  pub read : (many : ℕ) (satellite week time : List ℕ) → Agree (ReadArguments many satellite week time)
  -- put
  pub words : (out : List ℕ) (at : ℕ) (words : List ℕ) → AgreeWith (PutWords out at words)
  pub number : (out : List ℕ) (at n : ℕ) → AgreeWith (PutNumber out at n)
  pub hexadecimal : (out : List ℕ) (at : ℕ) (bytes : List ℕ) → AgreeWith (PutHexadecimal out at bytes)
  pub newline : (out : List ℕ) (at : ℕ) → AgreeWith (PutNewline out at)
  -- hexadecimal
  pub read_hexadecimal : (out : List ℕ) (at : ℕ) (text : List ℕ) → AgreeWith (ReadHexadecimal out at text)
  pub spells : (text bytes : List ℕ) → Agree (Spells text bytes)
  -- lines
  pub subframe : (out : List ℕ) (stamp : Stamp) → AgreeWith (SubframeLine out stamp)
  pub dsm : (out : List ℕ) (id bytes : ℕ) → AgreeWith (DsmLine out id bytes)
  pub totals : (out : List ℕ) (counts : Counted) → AgreeWith (TotalsLine out counts)
  pub refused : (out : List ℕ) (n : ℕ) → AgreeWith (RefusedLine out n)
  pub subframe_at : (out : List ℕ) (at : ℕ) (stamp : Stamp) → AgreeWith (SubframeLineAt out at stamp)
  pub dsm_at : (out : List ℕ) (at id bytes : ℕ) → AgreeWith (DsmLineAt out at id bytes)
  pub totals_at : (out : List ℕ) (at : ℕ) (counts : Counted) → AgreeWith (TotalsLineAt out at counts)
  pub refused_at : (out : List ℕ) (at n : ℕ) → AgreeWith (RefusedLineAt out at n)
