-- The visible lines of a listing are those of the visible part: whatever it hides, none of its lines is shown.
use Rattle.std.specs.Prelude.{◌≡◌, ℕ, ◌+◌, Bool}
use Rattle.std.proofs.Math.Path.{refl}
use Rattle.std.proofs.Common.{ap, ◌∙◌}
use Rattle.std.proofs.Math.Bool.{false}
use mathlib.Core.List.{List, [], ◌∷◌, ◌++◌, map, append_assoc}
use Rattle.meaning.specs.Lists.{pick, before}
use Rattle.meaning.specs.Names.{bytes, Name, same, member, words}
use Rattle.meaning.specs.Origins.{Origin, ResolvedEquation, Shape, Item}
use Rattle.meaning.specs.Normal.{Hidden, Normal}
use Rattle.meaning.specs.Listing.{Line, line, origin_line, kind_key, visible_lines, hidden_item_lines, equation_line, hidden_lines, listing_lines, visible_keys, shown, listing_keys}
use Rattle.promises.specs.ListingLaws.{by_kind}

-- ---- lines of which none is shown

-- a line whose key is neither `origin` nor a visible one
record Hides (key : List ℕ) : Type 0 where
  not_origin : same key (bytes "origin") ≡ false
  not_visible : member key visible_keys ≡ false

line_dropped : (key : List ℕ) → Hides key → (value : List ℕ) (ls : List Line) (kept : Bool)
    → shown kept (record { key = key; value = value } ∷ ls) ≡ shown false ls
unfolding shown pick
line_dropped key h value ls kept = rw (h.not_origin, h.not_visible)

origin_dropped : (o : Origin) (ls : List Line) → shown false (origin_line o ∷ ls) ≡ shown false ls
unfolding shown pick origin_line same
origin_dropped o ls = refl

-- opens what the keys are tested by
unfoldable key_opened : Unit {0}
unfolding same member pick visible_keys words listing_keys before
key_opened = tt

item_hides : (s : Shape) → Hides (kind_key "hidden-sort" "hidden-function" "variable" s)
unfolding key_opened
item_hides =
    by_kind Hides "hidden-sort" "hidden-function" "variable" (record { not_origin = refl; not_visible = refl })
    (record { not_origin = refl; not_visible = refl }) (record { not_origin = refl; not_visible = refl })

-- `rest` is what follows the hidden items, or the equations
module _ (rest : List Line) (none_shown : (b : Bool) → shown b rest ≡ []) where
  items_dropped : (hidden : List Item) (k : ℕ) (is : List Item) (kept : Bool) → shown kept (hidden_item_lines hidden k is ++ rest) ≡ []
  unfolding hidden_item_lines
  items_dropped hidden k [] kept = none_shown kept
  items_dropped hidden k (i ∷ is) kept =
      line_dropped _ (item_hides i.shape) _ _ kept ∙ origin_dropped i.origin _ ∙ items_dropped hidden (k + 1) is false

  equations_dropped : (hidden : List Item) (es : List ResolvedEquation) (kept : Bool)
      → shown kept (map (equation_line hidden) es ++ rest) ≡ []
  unfolding equation_line key_opened
  equations_dropped hidden [] kept = none_shown kept
  equations_dropped hidden (e ∷ es) kept =
      line_dropped (bytes "equation") (record { not_origin = refl; not_visible = refl }) _ _ kept ∙ equations_dropped hidden es false

hidden_dropped : (h : Hidden) (m : Name) (kept : Bool) → shown kept (hidden_lines h ++ (line "end" m ∷ [])) ≡ []
unfolding hidden_lines key_opened shown
hidden_dropped h m kept =
    ap (shown kept) (append_assoc (hidden_item_lines h.items 1 h.items) _ (line "end" m ∷ []))
    ∙ items_dropped _
    (equations_dropped _ (line_dropped (bytes "end") (record { not_origin = refl; not_visible = refl }) m []) h.items h.equations) h.items 1 h.items kept

-- ---- the listing

-- what comes after is of no account, if none of it is shown
shown_before : (ls rest : List Line) → ((b : Bool) → shown b rest ≡ []) → (kept : Bool) → shown kept (ls ++ rest) ≡ shown kept ls
unfolding shown
shown_before [] rest h kept = h kept
shown_before (l ∷ ls) rest h kept =
    let keeps = pick (same l.key (bytes "origin")) kept (member l.key visible_keys) in
    ap (λ (more : List Line). pick keeps (l ∷ more) more) (shown_before ls rest h keeps)

pub listing_shown : (m : Name) (n : Normal) → shown false (listing_lines m n) ≡ shown false (line "module" m ∷ visible_lines n.visible)
unfolding listing_lines
listing_shown m n = shown_before (line "module" m ∷ visible_lines n.visible) _ (hidden_dropped n.hidden m) false
