-- Tokens by place (document 01, "The text"; 02, request Two): layout and comments, identifiers and keywords, marks, `->`, `=`, implication,
-- operators, or none.
use Rattle.std.specs.Prelude.{ℕ, zero, suc, ◌+◌, ◌-◌, Bool, false, not, ◌&&◌, ◌||◌, List, [], ◌∷◌, eqb, leb, ltb, length, drop, get_or}
use Rattle.types.specs.declared.Token.{Token}
use Rattle.meaning.specs.Lists.{pick}
use Rattle.meaning.specs.Names.{bytes, byte, slice, same, words}

-- ---- which bytes are what

unfoldable pub is_in : List ℕ → ℕ → Bool
is_in [] b = false
is_in (x ∷ xs) b = eqb b x || is_in xs b

-- space, tab, line feed, form feed, carriage return
abbrev pub is_layout : ℕ → Bool
is_layout b = is_in (bytes " \t\n\u{c}\r") b

abbrev pub is_newline : ℕ → Bool
is_newline b = is_in (bytes "\n\r") b

abbrev pub is_mark : ℕ → Bool
is_mark b = is_in (bytes ":,#()[]{}_") b

-- what operators are made of
abbrev pub is_symbol : ℕ → Bool
is_symbol b = is_in (bytes "+-*/&|!@%?~") b

-- letters, digits, the single quote: what an identifier begins and ends with
unfoldable pub is_word : ℕ → Bool
is_word b =
    pick (leb (byte "a") b) (leb b (byte "z"))
    (pick (leb (byte "A") b) (leb b (byte "Z")) (pick (leb (byte "0") b) (leb b (byte "9")) (eqb b (byte "'"))))

-- ---- runs of bytes. A test is asked of what is left of the text: its front byte, and what follows

-- how many bytes at the front pass the test
unfoldable pub run : (List ℕ → Bool) → List ℕ → ℕ
run p [] = 0
run p (b ∷ s) = let r = suc (run p s) in pick (p (b ∷ s)) r 0

-- the first place of the text, from i on, at which the test fails
unfoldable pub run_end : (List ℕ → Bool) → List ℕ → ℕ → ℕ
run_end p text i = i + run p (drop i text)

abbrev pub at_layout : List ℕ → Bool
at_layout s = is_layout (get_or s 0 0)

abbrev pub at_hyphen : List ℕ → Bool
at_hyphen s = eqb (get_or s 0 0) (byte "-")

abbrev pub at_equals : List ℕ → Bool
at_equals s = eqb (get_or s 0 0) (byte "=")

abbrev pub at_symbol : List ℕ → Bool
at_symbol s = is_symbol (get_or s 0 0)

-- an identifier has hyphens inside only: it goes on while the next byte that is no hyphen is a word's. In `A->B` it is `A`
abbrev pub at_word : List ℕ → Bool
at_word s = is_word (get_or s (run at_hyphen s) 0)

unfoldable pub at_dashes : List ℕ → Bool
at_dashes s = eqb (get_or s 0 0) (byte "-") && eqb (get_or s 1 0) (byte "-")

-- a comment goes on up to CR, LF or two hyphens
abbrev pub in_comment : List ℕ → Bool
in_comment s = not (is_newline (get_or s 0 0) || at_dashes s)

-- ---- layout and comments

-- a comment opens at i: two hyphens straight after a layout byte, so not at byte 0 and not after a comment's closing `--`
unfoldable pub opens : List ℕ → ℕ → Bool
opens text i = ltb 0 i && is_layout (get_or text (i - 1) 0) && at_dashes (drop i text)

-- past the comment that opens at i: at the CR or LF that ends it, which counts as layout, or after the next `--`.
-- i itself if none opens there, or if the text ends first: then the first hyphen is no token
unfoldable pub comment_end : List ℕ → ℕ → ℕ
comment_end text i =
    let k = run_end in_comment text (i + 2) in
    let e = pick (ltb k (length text)) (pick (is_newline (get_or text k 0)) k (k + 2)) i in
    pick (opens text i) e i

-- past layout and comments from i on; n bounds the comments, and none is left where it is the length of the text
unfoldable pub skip : List ℕ → ℕ → ℕ → ℕ
skip text zero i = i
skip text (suc n) i =
    let j = run_end at_layout text i in
    let k = comment_end text j in
    let r = skip text n k in
    pick (eqb k j) j r

-- two hyphens at i are a comment's sign, and no operator begins there: at byte 0, after layout, or after a comment's closing `--`. No other
-- token begins straight after a hyphen, since a run of symbols goes on for as long as it can
unfoldable pub comment_sign : List ℕ → ℕ → Bool
comment_sign text i = at_dashes (drop i text) && (eqb i 0 || is_layout (get_or text (i - 1) 0) || eqb (get_or text (i - 1) 0) (byte "-"))

-- ---- tokens

abbrev pub token : ℕ → ℕ → ℕ → Token
token k i e = record { kind = k; start = i; end = e }

-- The kinds. Each of the marks : , # ( ) [ ] { } _ and = is its own byte; the fifteen keywords are numbered behind all these, in the order of
-- `keywords` (Samples: `keyword_kinds`)
abbrev pub end_of_text : ℕ
end_of_text = 0

abbrev pub ident : ℕ
ident = 1

abbrev pub arrow : ℕ
arrow = 2

abbrev pub implies : ℕ
implies = 3

abbrev pub no_token : ℕ
no_token = 4

abbrev pub operator : ℕ
operator = 5

abbrev pub before_keywords : ℕ
before_keywords = 128

abbrev pub begin_key : ℕ
begin_key = 129

abbrev pub bound_key : ℕ
bound_key = 130

abbrev pub by_key : ℕ
by_key = 131

abbrev pub end_key : ℕ
end_key = 132

abbrev pub equations_key : ℕ
equations_key = 133

abbrev pub exports_key : ℕ
exports_key = 134

abbrev pub functions_key : ℕ
functions_key = 135

abbrev pub imports_key : ℕ
imports_key = 136

abbrev pub module_key : ℕ
module_key = 137

abbrev pub parameters_key : ℕ
parameters_key = 138

abbrev pub renamed_key : ℕ
renamed_key = 139

abbrev pub sorts_key : ℕ
sorts_key = 140

abbrev pub to_key : ℕ
to_key = 141

abbrev pub variables_key : ℕ
variables_key = 142

abbrev pub when_key : ℕ
when_key = 143

-- the number of the first of the words that w is, where they are counted from n; 0 if it is none of them
unfoldable pub number_in : List (List ℕ) → ℕ → List ℕ → ℕ
number_in [] n w = 0
number_in (k ∷ ks) n w = let r = number_in ks (n + 1) w in pick (same w k) n r

abbrev pub keywords : List ℕ
keywords = bytes "begin bound by end equations exports functions imports module parameters renamed sorts to variables when"

-- a keyword's kind, or an identifier's
unfoldable pub word_kind : List ℕ → ℕ
word_kind w = let k = number_in (words keywords) 1 w in pick (eqb k 0) ident (before_keywords + k)

-- implication is two or more = and then > or LF; otherwise = stands alone
unfoldable pub equals_at : List ℕ → ℕ → Token
equals_at text i =
    let j = run_end at_equals text i in
    pick (ltb (i + 1) j && is_in (bytes ">\n") (get_or text j 0)) (token implies i (j + 1)) (token (byte "=") i (i + 1))

unfoldable pub word_at : List ℕ → ℕ → Token
word_at text i = let e = run_end at_word text i in token (word_kind (slice text i e)) i e

-- a run of symbols, as long as it can be
unfoldable pub symbols_at : List ℕ → ℕ → Token
symbols_at text i = token operator i (run_end at_symbol text i)

-- an identifier that is no keyword, between dots
unfoldable pub dotted_at : List ℕ → ℕ → Token
dotted_at text i =
    let w = word_at text (i + 1) in
    pick (is_word (get_or text (i + 1) 0) && eqb w.kind ident && eqb (get_or text w.end 0) (byte "."))
    (token operator i (w.end + 1))
    (token no_token i i)

-- the longest token that starts at i; the end of the text is one, and `no_token` says that there is none
unfoldable pub start_at : List ℕ → ℕ → Token
start_at text i =
    let b = get_or text i 0 in
    let w = word_at text i in
    let e = equals_at text i in
    let o = symbols_at text i in
    let d = dotted_at text i in
    pick (ltb i (length text))
    (pick (is_mark b) (token b i (i + 1))
    (pick (is_word b) w
    (pick (eqb b (byte "=")) e
    (pick (eqb b (byte "-") && eqb (get_or text (i + 1) 0) (byte ">")) (token arrow i (i + 2))
    (pick (is_symbol b && not (comment_sign text i)) o
    (pick (eqb b (byte ".")) d
    (token no_token i i)))))))
    (token end_of_text i i)

-- the first token from a place on, past layout and comments
unfoldable pub token_at : List ℕ → ℕ → Token
token_at text at = start_at text (skip text (length text) at)

-- opens every definition of this file
unfoldable pub tokens_opened : Unit {0}
unfolding is_in is_word run run_end at_dashes opens comment_end skip comment_sign number_in word_kind equals_at word_at symbols_at dotted_at start_at token_at
tokens_opened = tt
