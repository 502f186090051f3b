-- What a listing is written as, whatever the words of the form hold: the rows of its tables, visible and hidden.
use Rattle.std.specs.Prelude.{ℕ, ◌+◌, ◌*◌, List, [], ◌++◌, get_or}
use Rattle.meaning.specs.Lists.{pick}
use Rattle.meaning.specs.Names.{bytes, Name}
use Rattle.meaning.specs.Origins.{Section, export_section, parameter_section, same_section}
use Rattle.meaning.specs.Written.{numbered}
use Rattle.text_names.specs.Word.{name_of}
use Rattle.form_rows.specs.Rows.{item_of, row_at, row_size}
use Rattle.form.specs.declared.Form.{Form}
use Rattle.form.specs.Forms.{items_at, equation_row_at, equation_size, slot_size}
use Rattle.list_pen.specs.Pen.{rows_text}
use Rattle.list_terms.specs.Terms.{equation_at}
use Rattle.list_lines.specs.Lines.{line_of, item_text}

-- ---- rows of tables that stand from place b of the memory w on

-- row i, if it stands in the section
unfoldable pub standing_row : (text tape w : List ℕ) (b : ℕ) → Section → (s f : List ℕ) → ℕ → List ℕ
standing_row text tape w b section s f i =
    let item = item_of text tape (row_at w (b + i * row_size)) in
    let there = item_text s f item.name [] item in
    pick (same_section section item.standing) there []

-- of c rows those that stand in the section
unfoldable pub standing_text : (text tape w : List ℕ) (b c : ℕ) → Section → (s f : List ℕ) → List ℕ
standing_text text tape w b c section s f = rows_text (standing_row text tape w b section s f) 0 c

-- the items of a parameter, and the line of its name before them
unfoldable pub formals_text : (text tape w : List ℕ) → Form → Name → List ℕ
formals_text text tape w f p =
    line_of (bytes "parameter") p
    ++ standing_text text tape w f.visible f.visible_count (parameter_section p) (bytes "parameter-sort") (bytes "parameter-function")

unfoldable pub parameter_row : (text tape w : List ℕ) → Form → ℕ → List ℕ
parameter_row text tape w f i = formals_text text tape w f (name_of text (get_or w (f.parameters + i * slot_size) 0))

unfoldable pub hidden_row : (text tape w : List ℕ) → (b c : ℕ) → ℕ → List ℕ
hidden_row text tape w b c i =
    item_text (bytes "hidden-sort") (bytes "hidden-function") (numbered (i + 1)) (items_at text tape w b c) (item_of text tape (row_at w (b + i * row_size)))

unfoldable pub equation_row : (text w : List ℕ) → Form → ℕ → List ℕ
equation_row text w f i =
    line_of (bytes "equation") (equation_at text w f.visible f.nodes (equation_row_at w (f.equations + i * equation_size)))

-- ---- the listing of a form

unfoldable pub visible_text : (text tape w : List ℕ) → Form → List ℕ
visible_text text tape w f =
    standing_text text tape w f.visible f.visible_count export_section (bytes "sort") (bytes "function")
    ++ rows_text (parameter_row text tape w f) 0 f.parameter_count

unfoldable pub hidden_text : (text tape w : List ℕ) → Form → List ℕ
hidden_text text tape w f =
    rows_text (hidden_row text tape w f.hidden f.hidden_count) 0 f.hidden_count
    ++ rows_text (equation_row text w f) 0 f.equation_count
