-- From a listing the items of its normal form can be told, and the equations as they are written: stage by stage, from bytes to lines, to
-- items.
use Rattle.std.specs.Prelude.{◌≡◌, ℕ, ◌+◌, ◌^◌, ◌≤◌, ◌<◌, true, false, length}
use Rattle.std.proofs.Math.Path.{refl, sym, ap, ap₂, subst}
use Rattle.std.proofs.Common.{◌∙◌, ⊎_elim, arith, lit<}
use Prim.Native.String.{String}
use Rattle.std.proofs.Math.Bool.{Bool}
use mathlib.Core.List.Memᴰ
use mathlib.Core.List.{List, [], ◌∷◌, ◌++◌, map, map-map, append_assoc, append_cancel_left, Memᴰ}
use Rattle.meaning.specs.Lists.{pick, keep, before, each}
use Rattle.meaning.specs.Tokens.{is_in, is_word}
use Rattle.meaning.specs.Names.{bytes, Name, same, member, words}
use Rattle.meaning.specs.Origins.{Section, export_section, parameter_section, hidden_section, Origin, same_origin, Sort, visible_sort, hidden_sort, Shape, sort_shape, function_shape, variable_shape, is_sort, Item, in_parameter, ResolvedEquation}
use Rattle.meaning.specs.Normal.{Slot, Visible, Normal, slot_names, formals, sorts_among}
use Rattle.meaning.specs.Written.{numbered, sort_text, type_text, function_type_text, origin_text, shape_text, equation_text, shape_rank}
use Rattle.meaning.specs.Listing.{is_exported, visible_lines, Line, origin_line, kind_key, item_line, exported_lines, formal_lines, parameter_lines, hidden_item_lines, line, lines_text, equation_line, hidden_lines, listing_lines, listing_keys}
use Rattle.promises.specs.ListingLaws.{first_of, rest_of, not_empty, Within, StartsOutside, starts, told_run, in_name, Plain, PlainOrigin, told_origin, origins_of, SortIn, ShapeIn, told_shape, PlainLine, told_lines, by_kind, before_map, OneLine, in_line_then, plain_in_line, number_in_line, origin_in_line, shape_in_line}
use Rattle.meaning.specs.OrderLaws.{Every, same_self}
use Rattle.laws.specs.EveryLaws.{every_map, every_made, every_so, every_append, kept_member, member_map_to}
use Rattle.laws.specs.EveryLaws.{every_keep, every_each}
use Rattle.laws.specs.OwnItems.{declared_name}

-- ---- from the listing to the normal form

-- a visible item is no variable, its names are plain, its type has visible sorts alone, and it stands where it was declared
pub record SoundVisible (i : Item) : Type 0 where
  pub standing : i.standing ≡ i.origin.section
  pub kind : shape_rank i.shape ≤ 1
  pub name : Plain i.name
  pub shape : ShapeIn [] i.shape
  pub origin : PlainOrigin i.origin

-- a hidden item has its declared name, and the hidden sorts of its type are among the hidden items `hidden`
pub record SoundHidden (hidden : List Item) (i : Item) : Type 0 where
  pub standing : i.standing ≡ hidden_section
  pub name : i.name ≡ declared_name i.origin.declared
  pub shape : ShapeIn (sorts_among hidden) i.shape
  pub origin : PlainOrigin i.origin

-- exported or inherited, or in one of the parameters, declared by the module that the item comes from
abbrev pub StandsIn : List Slot → Name → Section → Type 0
StandsIn ps home export_section = Unit {0}
StandsIn ps home hidden_section = ⊥
StandsIn ps home (parameter_section p) = Memᴰ (record { name = p; home = home }) ps

abbrev pub Stands : List Slot → Item → Type 0
Stands ps i = StandsIn ps i.origin.home i.standing

pub record Sound (n : Normal) : Type 0 where
  pub parameters : Every (λ p. Plain p.name) n.visible.parameters
  pub standing : Every (Stands n.visible.parameters) n.visible.items
  pub visible : Every SoundVisible n.visible.items
  pub hidden : Every (SoundHidden n.hidden.items) n.hidden.items

-- so few hidden items that a number of ten digits tells each: in what is accepted they are at most 512
abbrev pub Few : Normal → Type 0
Few n = length n.hidden.items + 1 < 10 ^ 10

-- ---- an item from its two lines

module _ (s f v : String) (fs : same (bytes f) (bytes s) ≡ false) (vs : same (bytes v) (bytes s) ≡ false) (vf : same (bytes v) (bytes f) ≡ false) where
  key_rank : List ℕ → ℕ
  key_rank k = pick (same k (bytes s)) 0 (pick (same k (bytes f)) 1 2)

  rank_of : (a : Shape) → key_rank (kind_key s f v a) ≡ shape_rank a
  unfolding kind_key shape_rank key_rank pick
  rank_of sort_shape = rw (same_self (bytes s))
  rank_of (function_shape t) = rw (fs, same_self (bytes f))
  rank_of (variable_shape r) = rw (vs, vf)

  told_key : (a b : Shape) → kind_key s f v a ≡ kind_key s f v b → shape_rank a ≡ shape_rank b
  told_key a b e = sym (rank_of a) ∙ ap key_rank e ∙ rank_of b

-- what follows a name does not go on with it
shape_outside : (hidden : List Item) (s : Shape) → StartsOutside in_name (shape_text hidden s)
unfolding shape_text function_type_text type_text in_name is_word pick is_in
shape_outside hidden sort_shape = tt
shape_outside hidden (function_shape t) = refl
shape_outside hidden (variable_shape s) = refl

told_visible : (a b : Item) → SoundVisible a → SoundVisible b → shape_rank a.shape ≡ shape_rank b.shape
    → a.name ++ shape_text [] a.shape ≡ b.name ++ shape_text [] b.shape → origin_text a.origin ≡ origin_text b.origin → a ≡ b
told_visible a b h k r e o =
    let t =
    told_run in_name a.name b.name (shape_text [] a.shape) (shape_text [] b.shape) h.name.letters k.name.letters
    (shape_outside [] a.shape) (shape_outside [] b.shape) e in
    let shapes = told_shape [] (lit< tt) a.shape b.shape h.shape k.shape r t.1 in
    let origins = told_origin a.origin b.origin h.origin k.origin o in
    let standings = h.standing ∙ ap (λ (p : Origin). p.section) origins ∙ sym k.standing in
    λ x. record { standing = standings x; name = t.0 x; shape = shapes x; origin = origins x }

-- the two lines of a visible item, exported or in a parameter
abbrev pub item_lines : String → String → Item → List Line
item_lines s f i = item_line (kind_key s f "variable" i.shape) i.name [] i.shape ∷ origin_line i.origin ∷ []

told_items : (s f : String) → same (bytes f) (bytes s) ≡ false → same (bytes "variable") (bytes s) ≡ false → same (bytes "variable") (bytes f) ≡ false
    → (is js : List Item) → Every SoundVisible is → Every SoundVisible js → each (item_lines s f) is ≡ each (item_lines s f) js → is ≡ js
unfolding each origin_line
told_items s f fs vs vf [] [] h k e = refl
told_items s f fs vs vf [] (j ∷ js) h k e = not_empty e
told_items s f fs vs vf (i ∷ is) [] h k e = not_empty (sym e)
told_items s f fs vs vf (i ∷ is) (j ∷ js) h k e =
    let kinds = told_key s f "variable" fs vs vf i.shape j.shape (ap (λ (l : Line). l.key) (first_of e)) in
    let origins = ap (λ (l : Line). l.value) (first_of (rest_of e)) in
    ap₂ ◌∷◌ (told_visible i j h.0 k.0 kinds (ap (λ (l : Line). l.value) (first_of e)) origins)
    (told_items s f fs vs vf is js h.1 k.1 (rest_of (rest_of e)))

-- ---- the hidden items from their lines: first their origins, so that a number means the same in both

hidden_origins : (hidden hidden' : List Item) (k : ℕ) (is js : List Item) → Every (λ i. PlainOrigin i.origin) is
    → Every (λ i. PlainOrigin i.origin) js → hidden_item_lines hidden k is ≡ hidden_item_lines hidden' k js → origins_of is ≡ origins_of js
unfolding hidden_item_lines origin_line
hidden_origins hidden hidden' k [] [] h g e = refl
hidden_origins hidden hidden' k [] (j ∷ js) h g e = not_empty e
hidden_origins hidden hidden' k (i ∷ is) [] h g e = not_empty (sym e)
hidden_origins hidden hidden' k (i ∷ is) (j ∷ js) h g e =
    ap₂ ◌∷◌ (told_origin i.origin j.origin h.0 g.0 (ap (λ (l : Line). l.value) (first_of (rest_of e))))
    (hidden_origins hidden hidden' (k + 1) is js h.1 g.1 (rest_of (rest_of e)))

-- ---- more items, more sorts known

module _ (is js : List Item) (wider : (o : Origin) → Memᴰ o (origins_of is) → Memᴰ o (origins_of js)) where
  sort_wider : (s : Sort) → SortIn is s → SortIn js s
  sort_wider (visible_sort a) h = h
  sort_wider (hidden_sort o) h = wider o h

  pub shape_wider : (s : Shape) → ShapeIn is s → ShapeIn js s
  shape_wider sort_shape h = tt
  shape_wider (function_shape t) h = (every_so (SortIn is) (SortIn js) t.inputs sort_wider h.0, sort_wider t.output h.1)
  shape_wider (variable_shape s) h = sort_wider s h

pub item_of_origin : {o : Origin} (is : List Item) → Memᴰ o (origins_of is) → (i : Item) × Memᴰ i is × (o ≡ i.origin)
item_of_origin [] m = elim m [ ]
item_of_origin (i ∷ is) m =
    ⊎_elim (λ e. (i, Memᴰ.head refl, e)) (λ k. let r = item_of_origin is k in (r.0, Memᴰ.tail r.1, r.2)) (Memᴰ.cases_cons m)

pub origin_of_item : {i : Item} {is : List Item} → Memᴰ i is → (o : Origin) → o ≡ i.origin → Memᴰ o (origins_of is)
origin_of_item {is} m o q = subst (λ (p : Origin). Memᴰ p (origins_of is)) (sym q) (member_map_to (λ (i : Item). i.origin) m)

among_hidden : (is : List Item) (o : Origin) → Memᴰ o (origins_of (sorts_among is)) → Memᴰ o (origins_of is)
unfolding sorts_among
among_hidden is o m =
    let r = item_of_origin (sorts_among is) m in origin_of_item (kept_member (λ (i : Item). is_sort i.shape) is r.1).0 o r.2

module _ (hidden hidden' : List Item) (same_origins : origins_of hidden ≡ origins_of hidden') where
  same_sort_text : (s : Sort) → sort_text hidden s ≡ sort_text hidden' s
  unfolding sort_text
  same_sort_text (visible_sort a) = refl
  same_sort_text (hidden_sort o) =
      ap (λ (k : ℕ). numbered (k + 1))
      (before_map (λ (i : Item). i.origin) (same_origin o) hidden ∙ ap (before (same_origin o)) same_origins
      ∙ sym (before_map (λ (i : Item). i.origin) (same_origin o) hidden'))

  same_shape_text : (s : Shape) → shape_text hidden s ≡ shape_text hidden' s
  unfolding shape_text function_type_text
  same_shape_text sort_shape = refl
  same_shape_text (function_shape t) = λ i. type_text (map (λ s. same_sort_text s i) t.inputs) (same_sort_text t.output i)
  same_shape_text (variable_shape s) = rw (same_sort_text s)

  told_hidden : (few : length hidden + 1 < 10 ^ 10) (k : ℕ) (is js : List Item) → Every (SoundHidden hidden) is → Every (SoundHidden hidden') js
      → hidden_item_lines hidden k is ≡ hidden_item_lines hidden' k js → is ≡ js
  unfolding hidden_item_lines origin_line same pick
  told_hidden few k [] [] h g e = refl
  told_hidden few k [] (j ∷ js) h g e = not_empty e
  told_hidden few k (i ∷ is) [] h g e = not_empty (sym e)
  told_hidden few k (i ∷ is) (j ∷ js) h g e =
      let ranks = told_key "hidden-sort" "hidden-function" "variable" refl refl refl i.shape j.shape (ap (λ (l : Line). l.key) (first_of e)) in
      let texts =
      append_cancel_left (numbered k) (shape_text hidden i.shape) (shape_text hidden' j.shape) (ap (λ (l : Line). l.value) (first_of e)) in
      let shapes =
      told_shape hidden few i.shape j.shape (shape_wider (sorts_among hidden) hidden (among_hidden hidden) i.shape h.0.shape)
      (shape_wider (sorts_among hidden') hidden (λ o q. subst (Memᴰ o) (sym same_origins) (among_hidden hidden' o q)) j.shape g.0.shape) ranks
      (texts ∙ sym (same_shape_text j.shape)) in
      let origins = told_origin i.origin j.origin h.0.origin g.0.origin (ap (λ (l : Line). l.value) (first_of (rest_of e))) in
      let names = h.0.name ∙ ap (λ (o : Origin). declared_name o.declared) origins ∙ sym g.0.name in
      let standings = h.0.standing ∙ sym g.0.standing in
      let here : i ≡ j = λ x. record { standing = standings x; name = names x; shape = shapes x; origin = origins x } in
      ap₂ ◌∷◌ here (told_hidden few (k + 1) is js h.1 g.1 (rest_of (rest_of e)))

-- ---- the listing's parts from its lines, by the keys

-- the line has one of these keys
unfoldable pub keyed : String → Line → Bool
keyed ks l = member l.key (words (bytes ks))

outside_append : (p : Line → Bool) (xs ys : List Line) → StartsOutside p xs → StartsOutside p ys → StartsOutside p (xs ++ ys)
outside_append p [] ys h k = k
outside_append p (x ∷ xs) ys h k = h

pub formals_sound : (p : Name) (v : Visible) → Every SoundVisible v.items → Every SoundVisible (formals p v)
unfolding formals
formals_sound p v h = every_keep SoundVisible (λ (i : Item). in_parameter p i.standing) v.items h

module _ (ks : String) where
  -- one of the keys
  abbrev Key : List ℕ → Type 0
  Key k = member k (words (bytes ks)) ≡ true

  -- none of them
  abbrev NoKey : List ℕ → Type 0
  NoKey k = member k (words (bytes ks)) ≡ false

  pub items_keyed : (s f : String) → Key (bytes s) → Key (bytes f) → Key (bytes "origin") → (is : List Item) → Every SoundVisible is
      → Within (keyed ks) (each (item_lines s f) is)
  unfolding each origin_line keyed kind_key shape_rank
  items_keyed s f p q r [] h = tt
  items_keyed s f p q r (i ∷ is) h = (go i.shape h.0.kind, (r, items_keyed s f p q r is h.1))
    where
      go : (a : Shape) → shape_rank a ≤ 1 → Key (kind_key s f "variable" a)
      go sort_shape e = p
      go (function_shape t) e = q
      go (variable_shape v) e = absurd (omega arith)

  -- what comes after the parameters has none of their keys, nor of the keys before
  hidden_outside : (hidden : List Item) (k : ℕ) (is : List Item) → NoKey (bytes "hidden-sort") → NoKey (bytes "hidden-function") → NoKey (bytes "variable")
      → StartsOutside (keyed ks) (hidden_item_lines hidden k is)
  unfolding hidden_item_lines keyed
  hidden_outside hidden k [] s f v = tt
  hidden_outside hidden k (i ∷ is) s f v = by_kind NoKey "hidden-sort" "hidden-function" "variable" s f v i.shape

  equations_outside : (hidden : List Item) (es : List ResolvedEquation) → NoKey (bytes "equation") → StartsOutside (keyed ks) (map (equation_line hidden) es)
  unfolding equation_line keyed
  equations_outside hidden [] e = tt
  equations_outside hidden (r ∷ rs) e = e

  parameters_outside : (v : Visible) (ps : List Name) → NoKey (bytes "parameter") → StartsOutside (keyed ks) (each (parameter_lines v) ps)
  unfolding each parameter_lines keyed
  parameters_outside v [] e = tt
  parameters_outside v (p ∷ ps) e = e

hidden_keyed : (hidden : List Item) (k : ℕ) (is : List Item) → Within (keyed "hidden-sort hidden-function variable origin") (hidden_item_lines hidden k is)
unfolding hidden_item_lines origin_line keyed member words same pick
hidden_keyed hidden k [] = tt
hidden_keyed hidden k (i ∷ is) =
    let ks : String = "hidden-sort hidden-function variable origin" in
    (by_kind (Key ks) "hidden-sort" "hidden-function" "variable" refl refl refl i.shape, (refl, hidden_keyed hidden (k + 1) is))

equations_keyed : (hidden : List Item) (es : List ResolvedEquation) → Within (keyed "equation") (map (equation_line hidden) es)
unfolding equation_line keyed member words same pick
equations_keyed hidden es = every_made _ _ (λ e. refl) es

module _ (v v' : Visible) (sound : Every SoundVisible v.items) (sound' : Every SoundVisible v'.items) where
  told_parameters : (ps qs : List Name) (us us' : List Line) → StartsOutside (keyed "parameter") us → StartsOutside (keyed "parameter") us'
      → StartsOutside (keyed "parameter-sort parameter-function origin") us → StartsOutside (keyed "parameter-sort parameter-function origin") us'
      → each (parameter_lines v) ps ++ us ≡ each (parameter_lines v') qs ++ us'
      → (ps ≡ qs) × Every (λ p. formals p v ≡ formals p v') ps × (us ≡ us')
  unfolding each parameter_lines formal_lines keyed member words same pick
  told_parameters [] [] us us' o o' f f' e = (refl, tt, e)
  told_parameters [] (q ∷ qs) us us' o o' f f' e = starts (keyed "parameter") us _ _ o e refl
  told_parameters (p ∷ ps) [] us us' o o' f f' e = starts (keyed "parameter") us' _ _ o' (sym e) refl
  told_parameters (p ∷ ps) (q ∷ qs) us us' o o' f f' e =
      let ks : String = "parameter-sort parameter-function origin" in
      let F = each formal_lines (formals p v) in
      let F' = each formal_lines (formals q v') in
      let R = each (parameter_lines v) ps in
      let R' = each (parameter_lines v') qs in
      let names : p ≡ q = ap (λ (l : Line). l.value) (first_of e) in
      let kept = formals_sound p v sound in
      let kept' = formals_sound q v' sound' in
      let a =
      told_run (keyed ks) F F' (R ++ us) (R' ++ us') (items_keyed ks "parameter-sort" "parameter-function" refl refl refl (formals p v) kept)
      (items_keyed ks "parameter-sort" "parameter-function" refl refl refl (formals q v') kept')
      (outside_append (keyed ks) R us (parameters_outside ks v ps refl) f) (outside_append (keyed ks) R' us' (parameters_outside ks v' qs refl) f')
      (sym (append_assoc F R us) ∙ rest_of e ∙ append_assoc F' R' us') in
      let here = told_items "parameter-sort" "parameter-function" refl refl refl (formals p v) (formals q v') kept kept' a.0 in
      let more = told_parameters ps qs us us' o o' f f' a.1 in
      (ap₂ ◌∷◌ names more.0, (here ∙ ap (λ w. formals w v') (sym names), more.1), more.2)

-- what holds of each name
pub every_named : (P : Name → Type 0) (ps : List Slot) → Every (λ p. P p.name) ps → Every P (slot_names ps)
unfolding slot_names
every_named P ps h = every_map _ P _ (λ p k. k) ps h

-- ---- what a listing tells

abbrev pub exported_of : Visible → List Item
exported_of v = keep (λ (i : Item). is_exported i.standing) v.items

-- the asked module, the exported or inherited items, the parameters' names, the items of each, the hidden items, and the equations as
-- written: not their modules and positions, and of a visible function at a node its name, not its type
pub record SameListed (m m' : Name) (n n' : Normal) : Type 0 where
  pub asked : m ≡ m'
  pub exported : exported_of n.visible ≡ exported_of n'.visible
  pub parameters : slot_names n.visible.parameters ≡ slot_names n'.visible.parameters
  pub inside : Every (λ p. formals p n.visible ≡ formals p n'.visible) (slot_names n.visible.parameters)
  pub hidden : n.hidden.items ≡ n'.hidden.items
  pub equations : map (equation_text n.hidden.items) n.hidden.equations ≡ map (equation_text n'.hidden.items) n'.hidden.equations

-- the parts of a listing after its first line: exported items, parameters, hidden items, equations, the end
abbrev exported_part : Normal → List Line
exported_part n = each exported_lines (exported_of n.visible)

abbrev parameter_part : Normal → List Line
parameter_part n = each (parameter_lines n.visible) (slot_names n.visible.parameters)

abbrev hidden_part : Normal → List Line
hidden_part n = hidden_item_lines n.hidden.items 1 n.hidden.items

abbrev equation_part : Normal → List Line
equation_part n = map (equation_line n.hidden.items) n.hidden.equations

abbrev end_part : Name → List Line
end_part m = line "end" m ∷ []

listing_parts : (m : Name) (n : Normal)
    → listing_lines m n ≡ line "module" m ∷ (exported_part n ++ (parameter_part n ++ (hidden_part n ++ (equation_part n ++ end_part m))))
unfolding listing_lines visible_lines hidden_lines
listing_parts m n = simp append_assoc

module _ (ks : String) (m : Name) (n : Normal) where
  end_outside : NoKey ks (bytes "equation") → NoKey ks (bytes "end") → StartsOutside (keyed ks) (equation_part n ++ end_part m)
  unfolding keyed
  end_outside e f =
      outside_append (keyed ks) (equation_part n) (end_part m) (equations_outside ks n.hidden.items n.hidden.equations e) f

  after_parameters : NoKey ks (bytes "hidden-sort") → NoKey ks (bytes "hidden-function") → NoKey ks (bytes "variable") → NoKey ks (bytes "equation")
      → NoKey ks (bytes "end") → StartsOutside (keyed ks) (hidden_part n ++ (equation_part n ++ end_part m))
  after_parameters s f v e g =
      outside_append (keyed ks) (hidden_part n) (equation_part n ++ end_part m)
      (hidden_outside ks n.hidden.items 1 n.hidden.items s f v) (end_outside e g)

after_exported : (m : Name) (n : Normal)
    → StartsOutside (keyed "sort function origin") (parameter_part n ++ (hidden_part n ++ (equation_part n ++ end_part m)))
unfolding member words same pick
after_exported m n =
    outside_append (keyed "sort function origin") (parameter_part n) (hidden_part n ++ (equation_part n ++ end_part m))
    (parameters_outside "sort function origin" n.visible (slot_names n.visible.parameters) refl)
    (after_parameters "sort function origin" m n refl refl refl refl refl)

equation_values : (hidden : List Item) (es : List ResolvedEquation)
    → map (λ (l : Line). l.value) (map (equation_line hidden) es) ≡ map (equation_text hidden) es
unfolding equation_line
equation_values hidden es = map-map (λ (l : Line). l.value) (equation_line hidden) es

module _ (m m' : Name) (n n' : Normal) (sound : Sound n) (sound' : Sound n') (few : Few n) where
  -- the lines of a listing tell the normal form, but for the parameters' modules, the equations' modules and positions, and what stands at a
  -- node besides its name
  pub told_by_lines : listing_lines m n ≡ listing_lines m' n' → SameListed m m' n n'
  unfolding exported_lines keyed member words same pick
  told_by_lines e =
      let f = sym (listing_parts m n) ∙ e ∙ listing_parts m' n' in
      let exported : Item → Bool = λ i. is_exported i.standing in
      let kept = every_keep SoundVisible exported n.visible.items sound.visible in
      let kept' = every_keep SoundVisible exported n'.visible.items sound'.visible in
      let a =
      told_run (keyed "sort function origin") (exported_part n) (exported_part n')
      (parameter_part n ++ (hidden_part n ++ (equation_part n ++ end_part m)))
      (parameter_part n' ++ (hidden_part n' ++ (equation_part n' ++ end_part m')))
      (items_keyed "sort function origin" "sort" "function" refl refl refl (exported_of n.visible) kept)
      (items_keyed "sort function origin" "sort" "function" refl refl refl (exported_of n'.visible) kept') (after_exported m n) (after_exported m' n')
      (rest_of f) in
      let b =
      told_parameters n.visible n'.visible sound.visible sound'.visible (slot_names n.visible.parameters)
      (slot_names n'.visible.parameters)
      (hidden_part n ++ (equation_part n ++ end_part m)) (hidden_part n' ++ (equation_part n' ++ end_part m'))
      (after_parameters "parameter" m n refl refl refl refl refl) (after_parameters "parameter" m' n' refl refl refl refl refl)
      (after_parameters "parameter-sort parameter-function origin" m n refl refl refl refl refl)
      (after_parameters "parameter-sort parameter-function origin" m' n' refl refl refl refl refl) a.1 in
      let c =
      told_run (keyed "hidden-sort hidden-function variable origin") (hidden_part n) (hidden_part n') (equation_part n ++ end_part m)
      (equation_part n' ++ end_part m') (hidden_keyed n.hidden.items 1 n.hidden.items) (hidden_keyed n'.hidden.items 1 n'.hidden.items)
      (end_outside "hidden-sort hidden-function variable origin" m n refl refl)
      (end_outside "hidden-sort hidden-function variable origin" m' n' refl refl) b.2 in
      let d =
      told_run (keyed "equation") (equation_part n) (equation_part n') (end_part m) (end_part m')
      (equations_keyed n.hidden.items n.hidden.equations) (equations_keyed n'.hidden.items n'.hidden.equations) refl refl c.1 in
      let origins =
      hidden_origins n.hidden.items n'.hidden.items 1 n.hidden.items n'.hidden.items
      (every_so (SoundHidden n.hidden.items) _ n.hidden.items (λ i h. h.origin) sound.hidden)
      (every_so (SoundHidden n'.hidden.items) _ n'.hidden.items (λ i h. h.origin) sound'.hidden) c.0 in
      record {
        asked = ap (λ (l : Line). l.value) (first_of f);
        exported = told_items "sort" "function" refl refl refl (exported_of n.visible) (exported_of n'.visible) kept kept' a.0;
        parameters = b.0;
        inside = b.1;
        hidden =
            told_hidden n.hidden.items n'.hidden.items origins few 1 n.hidden.items n'.hidden.items sound.hidden
            sound'.hidden c.0;
        equations =
            sym (equation_values n.hidden.items n.hidden.equations) ∙ ap (map (λ (l : Line). l.value)) d.0
            ∙ equation_values n'.hidden.items n'.hidden.equations;
      }

-- ---- and so do its bytes

-- one of the listing's keys
abbrev Known : List ℕ → Type 0
Known k = member k listing_keys ≡ true

plain_line : (k : String) {value : List ℕ} → Known (bytes k) → OneLine value → PlainLine (line k value)
plain_line k e h = record { key = e; value = h.within }

-- an item's first line, of whatever kind
item_plain : (s f v : String) (called : List ℕ) (hidden : List Item) (shape : Shape) → Known (bytes s) → Known (bytes f) → Known (bytes v)
    → OneLine (called ++ shape_text hidden shape) → PlainLine (item_line (kind_key s f v shape) called hidden shape)
item_plain s f v called hidden shape p q r h = record { key = by_kind Known s f v p q r shape; value = h.within }

-- opens what keys are tested by
unfoldable pub keys_opened : Unit {0}
unfolding listing_keys words member same pick
keys_opened = tt

origin_plain : (o : Origin) → PlainOrigin o → PlainLine (origin_line o)
unfolding origin_line keys_opened
origin_plain o h = plain_line "origin" refl (origin_in_line o h)

visible_plain : (s f : String) → Known (bytes s) → Known (bytes f) → (i : Item) → SoundVisible i → Every PlainLine (item_lines s f i)
unfolding keys_opened
visible_plain s f p q i h = (
  item_plain s f "variable" i.name [] i.shape p q refl
      (in_line_then i.name (plain_in_line i.name h.name) (shape_in_line [] i.shape h.shape)),
  (origin_plain i.origin h.origin, tt),
)

parameter_plain : (v : Visible) → Every SoundVisible v.items → (p : Name) → Plain p → Every PlainLine (parameter_lines v p)
unfolding parameter_lines formal_lines keys_opened
parameter_plain v h p g = (
  plain_line "parameter" refl (plain_in_line p g),
  every_each PlainLine SoundVisible _ (visible_plain "parameter-sort" "parameter-function" refl refl) (formals p v) (formals_sound p v h),
)

hidden_plain : (hidden : List Item) (k : ℕ) (is : List Item) → Every (SoundHidden hidden) is → Every PlainLine (hidden_item_lines hidden k is)
unfolding hidden_item_lines keys_opened
hidden_plain hidden k [] h = tt
hidden_plain hidden k (i ∷ is) h = (
  item_plain "hidden-sort" "hidden-function" "variable" (numbered k) hidden i.shape refl refl refl
      (in_line_then (numbered k) (number_in_line k)
      (shape_in_line hidden i.shape (shape_wider (sorts_among hidden) hidden (among_hidden hidden) i.shape h.0.shape))),
  (origin_plain i.origin h.0.origin, hidden_plain hidden (k + 1) is h.1),
)

-- each equation is written in one line
abbrev pub EquationLines : Normal → Type 0
EquationLines n = Every (λ e. OneLine (equation_text n.hidden.items e)) n.hidden.equations

equations_plain : (n : Normal) → EquationLines n → Every PlainLine (equation_part n)
unfolding equation_line keys_opened
equations_plain n h = every_map _ PlainLine _ (λ e k. plain_line "equation" refl k) n.hidden.equations h

pub listing_plain : (m : Name) (n : Normal) → Plain m → Sound n → EquationLines n → Every PlainLine (listing_lines m n)
unfolding exported_lines keys_opened
listing_plain m n g s p =
    subst (Every PlainLine) (sym (listing_parts m n)) (
      plain_line "module" refl (plain_in_line m g),
      every_append PlainLine (exported_part n) _
          (every_each PlainLine SoundVisible _ (visible_plain "sort" "function" refl refl) (exported_of n.visible)
          (every_keep SoundVisible (λ (i : Item). is_exported i.standing) n.visible.items s.visible))
          (every_append PlainLine (parameter_part n) _
          (every_each PlainLine Plain (parameter_lines n.visible) (parameter_plain n.visible s.visible) (slot_names n.visible.parameters)
          (every_named Plain n.visible.parameters s.parameters))
          (every_append PlainLine (hidden_part n) _ (hidden_plain n.hidden.items 1 n.hidden.items s.hidden)
          (every_append PlainLine (equation_part n) (end_part m) (equations_plain n p)
          (plain_line "end" refl (plain_in_line m g), tt)))),
    )

-- normal forms of different visible items, parameters, hidden items or written equations have different listings
pub told_by_bytes : (m m' : Name) (n n' : Normal) → Plain m → Plain m' → Sound n → Sound n' → EquationLines n → EquationLines n' → Few n
    → lines_text (listing_lines m n) ≡ lines_text (listing_lines m' n') → SameListed m m' n n'
told_by_bytes m m' n n' g g' s s' p p' few e =
    told_by_lines m m' n n' s s' few
    (told_lines (listing_lines m n) (listing_lines m' n') (listing_plain m n g s p) (listing_plain m' n' g' s' p') e)
