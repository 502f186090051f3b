-- What sort a module's text means by a name, by places of the tape and rows of the working memory (meaning/specs/Own.antt).
use Rattle.std.specs.Prelude.{ℕ, ◌+◌, ◌-◌, ◌*◌, ◌≤◌, Bool, true, false, List, eqb, ltb, length, get_or}
use Rattle.meaning.specs.Lists.{pick}
use Rattle.meaning.specs.Names.{Name, same}
use Rattle.meaning.specs.Origins as meant
use Rattle.meaning.specs.Origins.{Sort, visible_sort}
use Rattle.text_names.specs.Word.{name_of}
use Rattle.tape.specs.Tape.{parameter_sort, export_sort, hidden_sort}
use Rattle.form_rows.specs.Entries.{role_at, name_at}
use Rattle.form_rows.specs.Rows.{hidden_origin, row_size}
use Rattle.own_repeats.specs.Scans.{found, first_of}
use Rattle.own_declarations.specs.declared.Own.{Own}

-- the tape lies in the memory, and places double as words
pub record Ready (w : List ℕ) (t : ℕ) (own : Own) : Type 0 where
  pub tape : t ≤ length w
  pub small : own.end ≤ 1073741824

-- the entry at i has the role and the name
unfoldable pub is_named : List ℕ → List ℕ → ℕ → Name → ℕ → Bool
is_named text tape role n i = pick (eqb (role_at tape i) role) (same n (name_at text tape i)) false

-- row i of the table at b is of the kind and has the name
unfoldable pub is_row : List ℕ → List ℕ → ℕ → ℕ → Name → ℕ → Bool
is_row text w b kind n i = pick (eqb (get_or w (b + i * row_size + 2) 0) kind) (same n (name_of text (get_or w (b + i * row_size + 1) 0))) false

-- the first of the module's entries with the role and the name
unfoldable pub place_of : List ℕ → List ℕ → Own → ℕ → Name → ℕ
place_of text tape own role n = first_of (is_named text tape role n) own.from (own.end - own.from)

-- a parameter or the exports declare a sort of the name
unfoldable pub declares_seen : List ℕ → List ℕ → Own → Name → Bool
declares_seen text tape own n =
    pick (ltb (place_of text tape own parameter_sort n) own.end) true (ltb (place_of text tape own export_sort n) own.end)

-- the entry at i declares a sort of the name, in a parameter or in the exports
unfoldable pub declares_at : List ℕ → List ℕ → Name → ℕ → Bool
declares_at text tape n i = pick (is_named text tape parameter_sort n i) true (is_named text tape export_sort n i)

unfoldable pub hidden_place : List ℕ → List ℕ → Own → Name → ℕ
hidden_place text tape own n = place_of text tape own hidden_sort n

-- a visible sort has the name
unfoldable pub is_seen : List ℕ → List ℕ → List ℕ → Own → Name → Bool
is_seen text tape w own n = pick (found (is_row text w own.rows 0 n) 0 own.count) true (declares_seen text tape own n)

-- a visible sort or the module's hidden one has the name
unfoldable pub is_inside : List ℕ → List ℕ → List ℕ → Own → Name → Bool
is_inside text tape w own n = pick (is_seen text tape w own n) true (ltb (hidden_place text tape own n) own.end)

-- the sort that the module's text means by the name
unfoldable pub resolved_in : List ℕ → List ℕ → List ℕ → Own → Name → Sort
resolved_in text tape w own n =
    let d = hidden_place text tape own n in
    let h = meant.hidden_sort (hidden_origin text tape d) in
    pick (is_seen text tape w own n) (visible_sort n) (pick (ltb d own.end) h (visible_sort n))
