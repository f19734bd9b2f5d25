-- MACK messages for C, key sizes k in bytes, tag sizes T in bits: each function tells what the reader of `layouts` answers.
-- Assumes nothing.
use Rattle.std.specs.Prelude.{ℕ, List, [], ◌∷◌, ◌≡◌}
use Rattle.layouts.specs.Answer.{gives, refusal, answered}
use Rattle.layouts.specs.Bits.{the}
use Rattle.layouts.specs.Mack.{size_checks, nt, header_layout, tag_layout, tag_info, read_header, read_tag, key_copied}
use Rattle.firmware.specs.Outcome.{Told, Bytes, bytes}

abbrev pub MackNumTags : ℕ → ℕ → ℕ → ℕ → ℕ → Type 0
MackNumTags k T before r after =
    Told before r after (answered (refusal (size_checks k T)) (gives (nt k T ∷ [])))

abbrev pub MackTag0 : List ℕ → ℕ → ℕ → ℕ → ℕ → ℕ → Type 0
MackTag0 m k T before r after = Told before r after (read_header (the "Tag0" (header_layout T)) m k T)

abbrev pub MackMacseq : List ℕ → ℕ → ℕ → ℕ → ℕ → ℕ → Type 0
MackMacseq m k T before r after = Told before r after (read_header (the "MACSEQ" (header_layout T)) m k T)

abbrev pub MackCop : List ℕ → ℕ → ℕ → ℕ → ℕ → ℕ → Type 0
MackCop m k T before r after = Told before r after (read_header (the "COP" (header_layout T)) m k T)

abbrev pub MackTag : List ℕ → ℕ → ℕ → ℕ → ℕ → ℕ → ℕ → Type 0
MackTag m k T n before r after = Told before r after (read_tag (the "Tag" (tag_layout T n)) m k T n)

abbrev pub MackTagInfo : List ℕ → ℕ → ℕ → ℕ → ℕ → ℕ → ℕ → Type 0
MackTagInfo m k T n before r after = Told before r after (read_tag (tag_info T n) m k T n)

abbrev pub MackPrnd : List ℕ → ℕ → ℕ → ℕ → ℕ → ℕ → ℕ → Type 0
MackPrnd m k T n before r after = Told before r after (read_tag (the "PRND" (tag_layout T n)) m k T n)

abbrev pub MackAdkd : List ℕ → ℕ → ℕ → ℕ → ℕ → ℕ → ℕ → Type 0
MackAdkd m k T n before r after = Told before r after (read_tag (the "ADKD" (tag_layout T n)) m k T n)

abbrev pub MackTagCop : List ℕ → ℕ → ℕ → ℕ → ℕ → ℕ → ℕ → Type 0
MackTagCop m k T n before r after = Told before r after (read_tag (the "COP" (tag_layout T n)) m k T n)

-- the number returned, and the output afterwards
abbrev pub MackKey : List ℕ → ℕ → ℕ → List ℕ → ℕ → List ℕ → Type 0
MackKey m k T out r after =
    ◌≡◌ {A = Bytes} (record { refusal = r; bytes = after }) (bytes (key_copied m k T out))
