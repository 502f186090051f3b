-- How many bytes an equation is written with at most, where no head has more than forty-two: forty-four for each node.
use Rattle.std.specs.Prelude.{◌≡◌, Bool, ℕ, suc, ◌+◌, ◌*◌, ◌/◌, ◌%◌, ◌≤◌, eqb, length, take, drop}
use Rattle.std.proofs.Math.Path.{refl}
use Rattle.std.proofs.Common.{ap, subst}
use Rattle.std.proofs.Math.Bool.{true, false}
use mathlib.Core.List.{List, [], ◌∷◌, ◌++◌, map}
use native.Mathlib.Omega.{arith}
use Rattle.std.proofs.Math.ListN.{length-append}
use Rattle.meaning.specs.Lists.{pick, each}
use Rattle.meaning.specs.Names.{bytes}
use Rattle.meaning.specs.Numbers.{node_limit}
use Rattle.meaning.specs.Origins.{ResolvedTerm, var, app, ResolvedTerms, none_left, ◌and_then◌, ResolvedSides, ResolvedEquation, Shape, sort_shape, function_shape, variable_shape, Item}
use Rattle.meaning.specs.Written.{between_marks, argument_text, head_text, variable_text, term_text, term_texts, sides_text, conditions_text, equation_text}
use Rattle.meaning.specs.Checks.{equation_nodes}
use Rattle.meaning.specs.OrderLaws.{Every}
use Rattle.text_names.specs.Word.{name_short}
use Rattle.form_rows.specs.Rows.{item_of}
use Rattle.form.specs.declared.Form.{Form}
use Rattle.form.specs.declared.EquationRow.{EquationRow}
use Rattle.form.specs.Forms.{Node, flat_term, flat_terms, flat_sides, flat_equation, node_row, node_shape, node_of, node_in, nodes_of, EquationStands}
use Rattle.form.specs.FlatMoves.{equation_count}
use Rattle.list_terms.specs.Meant.{head_of_node}
use Rattle.list_texts.specs.Parts.{line_size}
use Rattle.list_texts.specs.Sizes.{numbered_size}

every_split : {A : Type 0} (P : A → Type 0) (xs ys : List A) → Every P (xs ++ ys) → Every P xs × Every P ys
every_split P [] ys h = (tt, h)
every_split P (x ∷ xs) ys h = let r = every_split P xs ys h.1 in ((h.0, r.0), r.1)

module _ (hidden : List Item) where
  abbrev Short : Node → Type 0
  Short x = length (head_of_node hidden x) ≤ 42

  -- ---- terms

  applied_size : (f : List ℕ) (xs : List (List ℕ)) (n : ℕ) → length f ≤ 42 →
      ((x : List ℕ) (ys : List (List ℕ)) → xs ≡ x ∷ ys → length (between_marks (bytes ",") xs) + 1 ≤ n * 44)
      → length (f ++ argument_text xs) + 1 ≤ suc n * 44
  unfolding argument_text
  applied_size f [] n h k = omega (arith, length-append f [])
  applied_size f (x ∷ xs) n h k =
      let inner = between_marks (bytes ",") (x ∷ xs) in
      omega (
        arith,
        k x xs refl,
        length-append f (bytes "(" ++ (inner ++ bytes ")")),
        length-append (bytes "(") (inner ++ bytes ")"),
        length-append inner (bytes ")"),
      )

  mutual
    unfolding flat_term flat_terms term_text term_texts head_of_node between_marks

    term_size : (t : ResolvedTerm) → Every Short (flat_term t) → length (term_text hidden t) + 1 ≤ length (flat_term t) * 44
    term_size (var o s) h = let k : length (variable_text hidden o s) ≤ 42 = h.0 in omega arith
    term_size (app f ts) h = applied_size (head_text hidden f) (term_texts hidden ts) (length (flat_terms ts)) h.0 (λ x ys e. terms_size ts x ys e h.1)

    terms_size : (ts : ResolvedTerms) (x : List ℕ) (ys : List (List ℕ)) → term_texts hidden ts ≡ x ∷ ys → Every Short (flat_terms ts)
        → length (between_marks (bytes ",") (term_texts hidden ts)) + 1 ≤ length (flat_terms ts) * 44
    terms_size none_left x ys e h = let z : length {A = List ℕ} [] ≡ length (x ∷ ys) = ap length e in absurd (omega arith)
    terms_size (t and_then none_left) x ys e h =
        let s = every_split Short (flat_term t) [] h in
        omega (arith, term_size t s.0, length-append (flat_term t) [])
    terms_size (t and_then (u and_then us)) x ys e h =
        let s = every_split Short (flat_term t) (flat_terms (u and_then us)) h in
        let first = term_size t s.0 in
        let rest = terms_size (u and_then us) (term_text hidden u) (term_texts hidden us) refl s.1 in
        let inner = between_marks (bytes ",") (term_text hidden u ∷ term_texts hidden us) in
        omega (
          arith,
          first,
          rest,
          length-append (flat_term t) (flat_terms (u and_then us)),
          length-append (term_text hidden t) (bytes "," ++ inner),
          length-append (bytes ",") inner,
        )

  -- ---- sides and conditions

  sides_size : (s : ResolvedSides) → Every Short (flat_sides s) → length (sides_text hidden s) + 1 ≤ length (flat_sides s) * 44
  unfolding flat_sides sides_text
  sides_size s h =
      let k = every_split Short (flat_term s.left) (flat_term s.right) h in
      omega (
        arith,
        term_size s.left k.0,
        term_size s.right k.1,
        length-append (flat_term s.left) (flat_term s.right),
        length-append (term_text hidden s.left) (bytes "=" ++ term_text hidden s.right),
        length-append (bytes "=") (term_text hidden s.right),
      )

  parted_size : (c : ResolvedSides) (cs : List ResolvedSides) → Every Short (each flat_sides (c ∷ cs))
      → length (between_marks (bytes ",") (map (sides_text hidden) (c ∷ cs))) + 1 ≤ length (each flat_sides (c ∷ cs)) * 44
  unfolding each between_marks
  parted_size c [] h =
      let k = every_split Short (flat_sides c) [] h in
      omega (arith, sides_size c k.0, length-append (flat_sides c) [])
  parted_size c (d ∷ ds) h =
      let k = every_split Short (flat_sides c) (each flat_sides (d ∷ ds)) h in
      let inner = between_marks (bytes ",") (map (sides_text hidden) (d ∷ ds)) in
      omega (
        arith,
        sides_size c k.0,
        parted_size d ds k.1,
        length-append (flat_sides c) (each flat_sides (d ∷ ds)),
        length-append (sides_text hidden c) (bytes "," ++ inner),
        length-append (bytes ",") inner,
      )

  conditions_size : (cs : List ResolvedSides) → Every Short (each flat_sides cs) → length (conditions_text hidden cs) ≤ length (each flat_sides cs) * 44 + 6
  unfolding conditions_text
  conditions_size [] h = omega arith
  conditions_size (c ∷ cs) h =
      let inner = between_marks (bytes ",") (map (sides_text hidden) (c ∷ cs)) in
      omega (arith, parted_size c cs h, length-append (bytes " when ") inner)

  equation_size : (e : ResolvedEquation) → length e.tag ≤ 42 → Every Short (flat_equation e) → equation_nodes e ≤ node_limit
      → length (equation_text hidden e) ≤ line_size
  unfolding flat_equation equation_text
  equation_size e l h m =
      let k = every_split Short (flat_sides e.conclusion) (each flat_sides e.conditions) h in
      let sides = sides_text hidden e.conclusion in
      let conditions = conditions_text hidden e.conditions in
      omega (
        arith,
        l,
        m,
        equation_count e,
        length-append (flat_sides e.conclusion) (each flat_sides e.conditions),
        sides_size e.conclusion k.0,
        conditions_size e.conditions k.1,
        length-append (bytes "[") (e.tag ++ (bytes "] " ++ (sides ++ conditions))),
        length-append e.tag (bytes "] " ++ (sides ++ conditions)),
        length-append (bytes "] ") (sides ++ conditions),
        length-append sides conditions,
      )

-- ---- nodes of a memory have such heads

module _ (hidden : List Item) (text tape w : List ℕ) (b h : ℕ) where
  shape_short : (visible : Bool) (n : ℕ) (i : Item) (s : Shape) → length i.name ≤ 42 → length (head_of_node hidden (node_shape visible n i s)) ≤ 42
  unfolding head_of_node node_shape head_text variable_text pick
  shape_short visible n i sort_shape k = numbered_size _
  shape_short true n i (function_shape t) k = k
  shape_short false n i (function_shape t) k = numbered_size _
  shape_short visible n i (variable_shape s) k = numbered_size _

  node_short : (v : ℕ) → length (head_of_node hidden (node_in text tape w b h v)) ≤ 42
  unfolding node_in node_of item_of
  node_short v =
      let i = item_of text tape (node_row w b h v) in
      shape_short (eqb (v / 16 % 2) 0) (v % 16) i i.shape (name_short text (node_row w b h v).name)

  nodes_short : (vs : List ℕ) → Every (λ (x : Node). length (head_of_node hidden x) ≤ 42) (map (node_in text tape w b h) vs)
  nodes_short [] = tt
  nodes_short (v ∷ vs) = (node_short v, nodes_short vs)

pub line_short : (hidden : List Item) (text tape w : List ℕ) (f : Form) (r : EquationRow) (e : ResolvedEquation) → EquationStands text tape w f r e
    → equation_nodes e ≤ node_limit → length (equation_text hidden e) ≤ line_size
unfolding nodes_of
line_short hidden text tape w f r e s m =
    equation_size hidden e (subst (λ (x : List ℕ). length x ≤ 42) s.tag (name_short text r.tag))
    (subst (λ (xs : List Node). Every (λ (x : Node). length (head_of_node hidden x) ≤ 42) xs) s.nodes
    (nodes_short hidden text tape w f.visible f.hidden (take r.count (drop (f.nodes + r.start) w)))) m
