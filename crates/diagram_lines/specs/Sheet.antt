-- Lines drawn one after the other, as `list_pen` writes their bytes, and counted: at most 1,025 are.
use Rattle.std.specs.Prelude.{ℕ, ◌+◌, List, [], ◌∷◌, ◌++◌, ltb}
use Rattle.meaning.specs.Lists.{pick}
use Rattle.meaning.specs.Names.{bytes, Name}
use Rattle.meaning.specs.Written.{decimal}
use Rattle.meaning.specs.Listing.{Line, line_text}
use Rattle.list_pen.specs.Pen.{Pen, pen, written}

-- one more than a diagram's lines may be
abbrev pub line_limit : ℕ
line_limit = 1025

-- where the next byte goes, how many lines there are, and the output as it is
pub record Drawing : Type 0 where
  pub at : ℕ
  pub lines : ℕ
  pub out : List ℕ

abbrev pub drawing : ℕ → ℕ → List ℕ → Drawing
drawing at lines out = record { at = at; lines = lines; out = out }

-- a line more, where the pen has gone on
abbrev pub one_more : ℕ → Pen → Drawing
one_more lines p = drawing p.at (lines + 1) p.out

unfoldable pub drew_line : ℕ → Line → Drawing → Drawing
drew_line limit x s = pick (ltb s.lines line_limit) (one_more s.lines (written limit (line_text x) (pen s.at s.out))) s

unfoldable pub drew : ℕ → List Line → Drawing → Drawing
drew limit [] s = s
drew limit (x ∷ xs) s = drew limit xs (drew_line limit x s)

-- a line with a depth and a name
unfoldable pub named_line : List ℕ → ℕ → Name → Line
named_line key d w = record { key = key; value = decimal d ++ (bytes "," ++ w) }

-- its bytes before the LF
unfoldable pub front_of : List ℕ → ℕ → Name → List ℕ
front_of key d w = key ++ (bytes "=" ++ (decimal d ++ (bytes "," ++ w)))
