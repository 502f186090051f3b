-- Two texts (document 02, One): our library and the customer's. They are read into one sequence of modules, the library's first, and a
-- module's text is fetched from the one that declares it.
use Rattle.std.specs.Prelude.{ℕ, zero, suc, ◌-◌, Bool, true, false, ◌||◌, List, [], ◌++◌, eqb, length}
use Rattle.types.specs.declared.Part.{Part}
use Rattle.meaning.specs.Lists.{pick}
use Rattle.meaning.specs.Names.{slice, Name, same}
use Rattle.meaning.specs.Numbers.{text_size, module_limit}
use Rattle.meaning.specs.Tokens.{end_of_text, no_token, module_key, token_at}
use Rattle.meaning.specs.Syntax.{Module}
use Rattle.meaning.specs.Grammar.{Result, done, refused, read}
use Rattle.meaning.specs.Reached.{module_names}

-- what "specification" means: the pair
pub record Texts : Type 0 where
  pub library : List ℕ
  pub customer : List ℕ

unfoldable pub two_texts : List ℕ → List ℕ → Texts
two_texts library customer = record { library = library; customer = customer }

-- ---- reading: refusals 1 to 5

-- the modules of both in one sequence, or the refusal's number, whether its place is in the library, and the place in its text
pub data Reading : Type 0 where
  all_read : List Module → Reading
  refused_in : (in_library : Bool) (number place : ℕ) → Reading

unfoldable pub behind : List Module → Result (List Module) → Reading
behind ls (done ms s) = all_read (ls ++ ms)
behind ls (refused number place) = refused_in false number place

-- the customer's text behind the library's modules ls: their names are taken, and what they leave of the limit is left
unfoldable pub read_behind : List Module → List ℕ → Reading
read_behind ls customer = behind ls (read customer (module_limit - length ls) (module_names ls))

unfoldable pub library_first : Result (List Module) → List ℕ → Reading
library_first (done ls s) customer = read_behind ls customer
library_first (refused number place) customer = refused_in true number place

-- the library is read first; an empty one is none
unfoldable pub read_texts : Texts → Reading
read_texts t =
    let alone = read_behind [] t.customer in
    let both = library_first (read t.library module_limit []) t.customer in
    pick (eqb (length t.library) 0) alone both

-- ---- fetching: a module's text, from its `module` to the name behind its `end`

-- here no module goes on
unfoldable pub ends_part : ℕ → Bool
ends_part kind = eqb kind module_key || (eqb kind end_of_text || eqb kind no_token)

-- where the last token before such a place ends; one ends at i, and n bounds those that follow
unfoldable pub part_end : List ℕ → ℕ → ℕ → ℕ
part_end text zero i = i
part_end text (suc n) i =
    let t = token_at text i in
    let more = part_end text n t.end in
    pick (ends_part t.kind) i more

unfoldable pub part : Bool → ℕ → ℕ → Part
part marked start end = record { marked = marked; start = start; end = end }

-- where no module is declared so
abbrev pub no_part : Part
no_part = part false 0 0

-- the part of the text that declares the module w, of at most n modules from i on; none where none of them is called so
unfoldable pub part_from : List ℕ → Bool → Name → ℕ → ℕ → Part
part_from text marked w zero i = no_part
part_from text marked w (suc n) i =
    let t = token_at text i in
    let u = token_at text t.end in
    let e = part_end text text_size u.end in
    let later = part_from text marked w n e in
    let here = pick (same w (slice text u.start u.end)) (part marked t.start e) later in
    pick (eqb t.kind module_key) here no_part

unfoldable pub part_of : List ℕ → Bool → Name → Part
part_of text marked w = part_from text marked w module_limit 0

-- of the text that declares it
unfoldable pub fetched : Texts → Name → Part
fetched t w =
    let l = part_of t.library true w in
    let c = part_of t.customer false w in
    pick l.marked l c

-- the bytes of a part: those of the lent text itself
unfoldable pub part_bytes : Texts → Part → List ℕ
part_bytes t p = slice (pick p.marked t.library t.customer) p.start p.end

-- opens every definition of this file
unfoldable pub texts_opened : Unit {0}
unfolding two_texts behind read_behind library_first read_texts ends_part part_end part part_from part_of fetched part_bytes
texts_opened = tt
