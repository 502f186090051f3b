-- On a page with room for whatever is printed, what is printed stands whole, and its length is told.
use mathlib.Core.Path.{◌≡◌, sym, ap, ◌∙◌}
use Prim.Native.Nat.{ℕ, ◌+◌, ◌≤◌}
use native.Mathlib.Omega.{arith}
use mathlib.Core.List.{List}
use lib.ListN.{length, take, drop}
use lib.Seq.{take_at}
use Rattle.list_pen.proofs.Laws.{count_fits, laid}
use Rattle.responding.specs.Program.{asfnorm_with, page_room, Responded}

module _ (input work out page : List ℕ) (size : ℕ) (work' out' page' : List ℕ) (r : Responded input work out page size work' out' page')
    (room : length out + page_room ≤ length page) where
  abbrev text : List ℕ
  text = asfnorm_with (length work) (length out) input

  pub page_size : size ≡ length text
  page_size = count_fits (length page) size text page' page r.printed (r.fits room)

  pub page_front : take size page' ≡ text
  page_front =
      let short : length text ≤ length page = omega (arith, page_size, r.fits room) in
      let stands = laid (length page + 1) 0 size text page page' (omega arith) (omega (arith, short)) (omega (arith, short)) r.printed in
      ap (take size) stands ∙ take_at text (drop (0 + length text) page) size (sym page_size)
