-- What rows and words of the working memory stand for: sections, origins, sorts, shapes and items of the meaning. Every word stands for
-- something, so nothing has to be known of the memory.
use Rattle.std.specs.Prelude.{ℕ, zero, suc, ◌+◌, ◌-◌, ◌/◌, ◌%◌, List, [], ◌∷◌, map, eqb, get_or, take}
use Rattle.meaning.specs.Lists.{pick}
use Rattle.meaning.specs.Origins as meant
use Rattle.meaning.specs.Origins.{Sort, visible_sort, FunctionType, Shape, sort_shape, function_shape, variable_shape, Item}
use Rattle.text_names.specs.Word.{name_of}
use Rattle.form_sections.specs.declared.Section.{Section}
use Rattle.form_sections.specs.declared.Section.TheVariants.{Export, Hidden, Parameter}
use Rattle.form_sections.specs.Sections.{section_word, word_section}
use Rattle.form_rows.specs.declared.Origin.{Origin}
use Rattle.form_rows.specs.declared.Row.{Row}
use Rattle.form_rows.specs.Entries.{name_at, declared_at, home_at}

-- ---- sections and origins

unfoldable pub section_of : List ℕ → Section → meant.Section
section_of text Export = meant.export_section
section_of text Hidden = meant.hidden_section
section_of text (Parameter p) = meant.parameter_section (name_of text p)

unfoldable pub origin_of : List ℕ → List ℕ → Origin → meant.Origin
origin_of text tape o = record {
  home = name_of text o.home;
  section = section_of text o.section;
  declared = declared_at text tape o.place;
}

-- ---- sorts: a visible one is twice its name's word; a hidden one is twice the place of its declaration, and one more

unfoldable pub hidden_origin : List ℕ → List ℕ → ℕ → meant.Origin
hidden_origin text tape d = record {
  home = name_of text (home_at tape d);
  section = meant.hidden_section;
  declared = meant.declared_sort (name_at text tape d);
}

unfoldable pub sort_of : List ℕ → List ℕ → ℕ → Sort
sort_of text tape w =
    let h = meant.hidden_sort (hidden_origin text tape (w / 2)) in pick (eqb (w % 2) 0) (visible_sort (name_of text (w / 2))) h

-- ---- items

unfoldable pub type_of : List ℕ → List ℕ → ℕ → List ℕ → FunctionType
type_of text tape n sorts = record { inputs = map (sort_of text tape) (take n sorts); output = sort_of text tape (get_or sorts 8 0) }

unfoldable pub shape_of : List ℕ → List ℕ → ℕ → List ℕ → Shape
shape_of text tape kind sorts =
    let v = variable_shape (sort_of text tape (get_or sorts 8 0)) in
    let f = function_shape (type_of text tape (kind - 2) sorts) in
    pick (eqb kind 0) sort_shape (pick (eqb kind 1) v f)

unfoldable pub item_of : List ℕ → List ℕ → Row → Item
item_of text tape r = record {
  standing = section_of text r.standing;
  name = name_of text r.name;
  shape = shape_of text tape r.kind r.sorts;
  origin = origin_of text tape r.origin;
}

-- ---- rows of sixteen words, from place b of a memory on

abbrev pub row_size : ℕ
row_size = 16

-- c words from b on
unfoldable pub words_from : List ℕ → ℕ → ℕ → List ℕ
words_from w b zero = []
words_from w b (suc c) = get_or w b 0 ∷ words_from w (suc b) c

unfoldable pub row_at : List ℕ → ℕ → Row
row_at w b = record {
  standing = word_section (get_or w b 0);
  name = get_or w (b + 1) 0;
  kind = get_or w (b + 2) 0;
  origin = record { home = get_or w (b + 3) 0; section = word_section (get_or w (b + 4) 0); place = get_or w (b + 5) 0 };
  sorts = words_from w (b + 6) 9;
}

unfoldable pub row_words : Row → List ℕ
row_words r =
    section_word r.standing ∷ r.name ∷ r.kind ∷ r.origin.home ∷ section_word r.origin.section ∷ r.origin.place ∷ r.sorts
