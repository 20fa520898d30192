-- The summary is ASCII.
use Rattle.std.proofs.Common.{ℕ, IsAscii}
use Rattle.gb_formats.specs.ShowTexts.{Counts, summary_text}
use Rattle.gb_formats.proofs.Ascii.{cat, dec, seen}

pub IsAscii-summary_text : (lines : ℕ) (c : Counts) → IsAscii (summary_text lines c)
IsAscii-summary_text lines c = seen (summary_text lines c) (simp (cat, dec))
