-- The answer of a call, what is lent, and what the program prints (document 01, "The numbers that come back" and "The listing").
use Rattle.std.specs.Prelude.{ℕ, ◌+◌, ◌-◌, ◌*◌, Bool, true, false, ◌&&◌, List, [], ◌∷◌, ◌++◌, map, eqb, leb, ltb, length, take, drop, get_or}
use Rattle.meaning.specs.Lists.{pick}
use Rattle.meaning.specs.Names.{bytes, byte, slice, Name, same}
use Rattle.meaning.specs.Numbers.{text_size, name_size, memory_size, program_output, accepted, not_allowed, over_size, lent_short, formal_absent, formal_unpaired}
use Rattle.meaning.specs.Tokens.{run_end}
use Rattle.meaning.specs.Written.{decimal}
use Rattle.meaning.specs.Checks.{Culprit, lone}
use Rattle.meaning.specs.Reached.{Ended, normalised, refused_at, normalise}
use Rattle.meaning.specs.Texts.{Texts, two_texts, Reading, all_read, refused_in, read_texts}
use Rattle.meaning.specs.Listing.{Line, line, lines_text, listing_lines}

-- ---- the answer: its number, the count of modules evaluated, the module evaluated when refused, the culprit and its place, and the
-- listing's lines. On a refusal there is no line

pub record Answer : Type 0 where
  pub number : ℕ
  pub modules : ℕ
  pub evaluating : Name
  pub culprit : Culprit
  pub at : ℕ
  -- whether that place is in the library
  pub in_library : Bool
  pub lines : List Line

abbrev pub listing : Answer → List ℕ
listing r = lines_text r.lines

unfoldable pub refusal : ℕ → ℕ → Name → Culprit → ℕ → Answer
refusal number count m w at = record { number = number; modules = count; evaluating = m; culprit = w; at = at; in_library = false; lines = [] }

-- from 6 up the place is 0
unfoldable pub of_ended : Name → Ended → Answer
of_ended asked (normalised count n) =
    record { number = accepted; modules = count; evaluating = []; culprit = lone []; at = 0; in_library = false; lines = listing_lines asked n }
of_ended asked (refused_at number count m w) = refusal number count m w 0

-- for 1 to 5 the module is blank and the count is 0
unfoldable pub unread : Bool → ℕ → ℕ → Answer
unread in_library number at =
    record { number = number; modules = 0; evaluating = []; culprit = lone []; at = at; in_library = in_library; lines = [] }

unfoldable pub of_read : Name → Reading → Answer
of_read asked (all_read ms) = of_ended asked (normalise asked ms)
of_read asked (refused_in in_library number at) = unread in_library number at

-- ---- what is lent: 19

-- the listing is longer than the lent output
unfoldable pub within : ℕ → Name → Answer → Answer
within output_lent asked r = pick (leb (length (listing r)) output_lent) r (refusal lent_short r.modules asked (lone []) 0)

-- the answer of a call that lends so much working memory and output: before all else, the memory may be too short
unfoldable pub answer : ℕ → ℕ → Name → Texts → Answer
answer memory_lent output_lent asked t =
    let r = within output_lent asked (of_read asked (read_texts t)) in
    pick (ltb memory_lent memory_size) (refusal lent_short 0 asked (lone []) 0) r

-- the lent output after the call: the listing, and the bytes after it unchanged
unfoldable pub output_after : Answer → List ℕ → List ℕ
output_after r output = listing r ++ drop (length (listing r)) output

-- the lent working memory after the call: zero in all cases
unfoldable pub memory_after : List ℕ → List ℕ
memory_after memory = map (λ (x : ℕ). 0) memory

-- ---- what `asfnorm` prints

-- a place in the library is told with a mark for it
unfoldable pub place_text : Answer → List ℕ
place_text r = pick r.in_library (bytes "library:") [] ++ decimal r.at

-- a binding's mistakes, 22 to 27, are told with the actual name
unfoldable pub tells_actual : ℕ → Bool
tells_actual k = pick (leb formal_absent k) (leb k formal_unpaired) false

unfoldable pub names_told : Answer → List Line
names_told r =
    let actual = pick (tells_actual r.number) (line "actual" r.culprit.actual ∷ []) [] in
    line "module" r.evaluating ∷ line "name" r.culprit.name ∷ actual

unfoldable pub printed_lines : Answer → List Line
printed_lines r =
    let told = line "answer" (decimal r.number) ∷ line "modules" (decimal r.modules) ∷ [] in
    let refused_lines = names_told r ++ (line "at" (place_text r) ∷ []) in
    told ++ pick (eqb r.number accepted) r.lines refused_lines

unfoldable pub printed : Answer → List ℕ
printed r = lines_text (printed_lines r)

-- a line goes on at the front of s
abbrev pub in_line : List ℕ → Bool
in_line s = pick (eqb (get_or s 0 0) (byte "\n")) false true

-- the first line is `normalise=NAME`, ended by LF, with a NAME that is not too long: where the name begins, and where it ends
abbrev pub request : List ℕ
request = bytes "normalise="

abbrev pub request_end : List ℕ → ℕ
request_end input = run_end in_line input (length request)

unfoldable pub has_request : List ℕ → Bool
has_request input =
    let e = request_end input in
    same (take (length request) input) request && ltb e (length input) && leb e (length request + name_size)

-- the second line may be `library=N`, ended by LF, N decimal of at most nine digits without leading zeros
abbrev pub library_request : List ℕ
library_request = bytes "library="

abbrev pub library_digits : ℕ
library_digits = 9

abbrev pub library_request_end : List ℕ → ℕ
library_request_end rest = run_end in_line rest (length library_request)

-- what digits say; n is what those before them say
unfoldable pub said_by : ℕ → List ℕ → ℕ
said_by n [] = n
said_by n (d ∷ ds) = said_by (n * 10 + (d - 48)) ds

abbrev pub library_written : List ℕ → List ℕ
library_written rest = slice rest (length library_request) (library_request_end rest)

abbrev pub library_length : List ℕ → ℕ
library_length rest = said_by 0 (library_written rest)

unfoldable pub has_library_line : List ℕ → Bool
has_library_line rest =
    let e = library_request_end rest in
    let short = same (take (length library_request) rest) library_request && ltb e (length rest) && leb e (length library_request + library_digits) in
    let exact = same (library_written rest) (decimal (library_length rest)) in
    pick short exact false

-- a library that is too long, whatever stands behind that line
unfoldable pub library_too_long : List ℕ → Bool
library_too_long rest = pick (has_library_line rest) (ltb text_size (library_length rest)) false

-- with at least N bytes behind that line these are the library, and the customer's text is what follows them; else all is the customer's text
unfoldable pub texts_in : List ℕ → Texts
texts_in rest =
    let from = library_request_end rest + 1 in
    let to = from + library_length rest in
    let both = two_texts (slice rest from to) (drop to rest) in
    let enough = pick (has_library_line rest) (leb to (length rest)) false in
    pick enough both (two_texts [] rest)

-- the answer to an input, where so much is lent: 19, or without the first line 2, at 0; the texts are what follows that line
unfoldable pub answer_to : ℕ → ℕ → List ℕ → Answer
answer_to memory_lent output_lent input =
    let e = request_end input in
    let asked = pick (has_request input) (slice input (length request) e) [] in
    let rest = drop (e + 1) input in
    let told = answer memory_lent output_lent asked (texts_in rest) in
    let read = pick (library_too_long rest) (unread true over_size text_size) told in
    let r = pick (has_request input) read (unread false not_allowed 0) in
    pick (ltb memory_lent memory_size) (refusal lent_short 0 asked (lone []) 0) r

unfoldable pub asfnorm : List ℕ → List ℕ
asfnorm input = printed (answer_to memory_size program_output input)

-- opens every definition of this file
unfoldable pub answer_opened : Unit {0}
unfolding refusal of_ended unread of_read within answer output_after memory_after place_text tells_actual names_told printed_lines printed has_request said_by has_library_line library_too_long texts_in answer_to asfnorm
answer_opened = tt
