-- What the words of nodes are written as is the text of the terms and equations that they stand for.
use Rattle.std.specs.Prelude.{◌≡◌, Bool, true, false, ltb, take, drop}
use Rattle.std.proofs.Math.Path.{refl, ap, ap₂}
use Rattle.std.proofs.Common.{sym, subst, ◌∙◌, add-zero, not-suc-le-zero, add-one, length-take, drop_of_length-le, drop-cons}
use Prim.Native.Nat.{ℕ, zero, suc, ◌+◌, ◌%◌, ◌<◌, ◌≤◌}
use native.Mathlib.Omega.{arith}
use mathlib.Core.List.{List, [], ◌∷◌, ◌++◌, map, append-nil, append_assoc}
use borrow.Author.Tests.{lt-ltb, ltb-true, ltb-false, eq-eqb}
use Rattle.std.proofs.Math.Dec.{eqb-suc-zero}
use Rattle.std.proofs.Math.ListN.{length, get_or, length-append}
use Rattle.std.proofs.lemmas.List.{length-map}
use Rattle.meaning.specs.Lists.{pick, each}
use Rattle.meaning.specs.Names.{bytes}
use Rattle.meaning.specs.Origins.{Head, ResolvedTerm, var, app, ResolvedTerms, none_left, ◌and_then◌, ResolvedSides, ResolvedEquation, Item}
use Rattle.meaning.specs.Written.{between_marks, argument_text, head_text, variable_text, term_text, term_texts, sides_text, conditions_text, equation_text}
use Rattle.form.specs.declared.Form.{Form}
use Rattle.form.specs.declared.EquationRow.{EquationRow}
use Rattle.form.specs.Forms.{items_at, Node, function_node, variable_node, how_many, flat_term, flat_terms, flat_sides, flat_equation, node_in, nodes_of, EquationStands}
use Rattle.list_terms.specs.Terms.{Spelt, node_text, listed, term_by, term_at, sides_at, when_at, rule_at, equation_at}

-- what is written at a node, and how many arguments follow
unfoldable pub head_of_node : List Item → Node → List ℕ
head_of_node hidden (function_node f k) = head_text hidden f
head_of_node hidden (variable_node o s) = variable_text hidden o s

unfoldable pub arguments_of : Node → ℕ
arguments_of (function_node f k) = k
arguments_of (variable_node o s) = 0

-- the word v is written as the node that it stands for: the visible items stand from b on, the hidden ones in order are n rows from h on
pub record Told (text tape w : List ℕ) (b h n v : ℕ) : Type 0 where
  pub head : node_text text w b v ≡ head_of_node (items_at text tape w h n) (node_in text tape w b h v)
  pub arguments : v % 16 ≡ arguments_of (node_in text tape w b h v)

-- at place i stands x
pub record Here (text tape w : List ℕ) (b h n i : ℕ) (x : Node) : Type 0 where
  pub within : i < length w
  pub told : Told text tape w b h n (get_or w i 0)
  pub stands : node_in text tape w b h (get_or w i 0) ≡ x

-- nodes from place i on
abbrev pub Lies : (text tape w : List ℕ) (b h n i : ℕ) → List Node → Type 0
Lies text tape w b h n i [] = Unit {0}
Lies text tape w b h n i (x ∷ xs) = Here text tape w b h n i x × Lies text tape w b h n (i + 1) xs

-- s has the bytes, and is followed by the nodes
pub record Meant (text tape w : List ℕ) (b h n : ℕ) (s : Spelt) (bs : List ℕ) (rest : List Node) : Type 0 where
  pub spells : s.bytes ≡ bs
  pub after : Lies text tape w b h n s.next rest

module _ (text tape w : List ℕ) (b h n : ℕ) where
  abbrev hidden : List Item
  hidden = items_at text tape w h n

  abbrev LiesAt : ℕ → List Node → Type 0
  LiesAt i xs = Lies text tape w b h n i xs

  abbrev Means : Spelt → List ℕ → List Node → Type 0
  Means s bs rest = Meant text tape w b h n s bs rest

  -- ---- one node

  node_alone : (d i : ℕ) (x : Node) (rest : List Node) → arguments_of x ≡ 0 → Here text tape w b h n i x → LiesAt (i + 1) rest
      → Means (term_at text w b (suc d) i) (head_of_node hidden x) rest
  unfolding term_at term_by pick
  node_alone d i x rest z e l =
      let count : get_or w i 0 % 16 ≡ 0 = e.told.arguments ∙ ap arguments_of e.stands ∙ z in
      rw (lt-ltb i (length w) e.within, eq-eqb (get_or w i 0 % 16) 0 count) (record { spells = e.told.head ∙ ap (head_of_node hidden) e.stands; after = l })

  node_applied : (d i : ℕ) (x : Node) (k : ℕ) (inner : List ℕ) (rest : List Node) → arguments_of x ≡ suc k → Here text tape w b h n i x
      → Means (listed (term_at text w b d) (suc k) (i + 1)) inner rest
      → Means (term_at text w b (suc d) i) (head_of_node hidden x ++ (bytes "(" ++ (inner ++ bytes ")"))) rest
  unfolding term_at term_by pick
  node_applied d i x k inner rest z e m =
      let count : get_or w i 0 % 16 ≡ suc k = e.told.arguments ∙ ap arguments_of e.stands ∙ z in
      let name : node_text text w b (get_or w i 0) ≡ head_of_node hidden x = e.told.head ∙ ap (head_of_node hidden) e.stands in
      rw (lt-ltb i (length w) e.within, count, eqb-suc-zero k)
      (record { spells = ap₂ (λ (a c : List ℕ). a ++ (bytes "(" ++ (c ++ bytes ")"))) name m.spells; after = m.after })

  applied : (f : Head) (c : ℕ) (xs : List (List ℕ)) (d i : ℕ) (rest : List Node) → c ≡ length xs → Here text tape w b h n i (function_node f c)
      → Means (listed (term_at text w b d) (length xs) (i + 1)) (between_marks (bytes ",") xs) rest
      → Means (term_at text w b (suc d) i) (head_text hidden f ++ argument_text xs) rest
  unfolding argument_text head_of_node arguments_of listed
  applied f c [] d i rest q e m = rw (append-nil (head_text hidden f)) (node_alone d i (function_node f c) rest q e m.after)
  applied f c (x ∷ xs) d i rest q e m = node_applied d i (function_node f c) (length xs) (between_marks (bytes ",") (x ∷ xs)) rest q e m

  -- ---- one more of a list

  more : (one : ℕ → Spelt) (i : ℕ) (x : List ℕ) (xs : List (List ℕ)) (others rest : List Node) → Means (one i) x others
      → ((j : ℕ) → LiesAt j others → Means (listed one (length xs) j) (between_marks (bytes ",") xs) rest)
      → Means (listed one (suc (length xs)) i) (between_marks (bytes ",") (x ∷ xs)) rest
  unfolding listed between_marks pick
  more one i x [] others rest m r = record { spells = m.spells; after = (r (one i).next m.after).after }
  more one i x (y ∷ ys) others rest m r =
      let q = r (one i).next m.after in
      rw (eqb-suc-zero (length ys)) (record { spells = ap₂ (λ (a c : List ℕ). a ++ (bytes "," ++ c)) m.spells q.spells; after = q.after })

  -- ---- terms

  counted : (ts : ResolvedTerms) → how_many ts ≡ length (term_texts hidden ts)
  unfolding how_many term_texts
  counted none_left = refl
  counted (t and_then ts) = ap suc (counted ts)

  mutual
    unfolding flat_term flat_terms term_text term_texts listed between_marks head_of_node arguments_of

    term_meant : (t : ResolvedTerm) (d i : ℕ) (rest : List Node) → length (flat_term t) ≤ d → LiesAt i (flat_term t ++ rest)
        → Means (term_at text w b d i) (term_text hidden t) rest
    term_meant (var o s) zero i rest k l = absurd (not-suc-le-zero k)
    term_meant (var o s) (suc d) i rest k l = node_alone d i (variable_node o s) rest refl l.0 l.1
    term_meant (app f ts) zero i rest k l = absurd (not-suc-le-zero k)
    term_meant (app f ts) (suc d) i rest k l =
        let fewer : length (flat_terms ts) ≤ d = omega arith in
        applied f (how_many ts) (term_texts hidden ts) d i rest (counted ts) l.0 (terms_meant ts d (i + 1) rest fewer l.1)

    terms_meant : (ts : ResolvedTerms) (d i : ℕ) (rest : List Node) → length (flat_terms ts) ≤ d → LiesAt i (flat_terms ts ++ rest)
        → Means (listed (term_at text w b d) (length (term_texts hidden ts)) i) (between_marks (bytes ",") (term_texts hidden ts)) rest
    terms_meant none_left d i rest k l = record { spells = refl; after = l }
    terms_meant (t and_then ts) d i rest k l =
        let sum = length-append (flat_term t) (flat_terms ts) in
        let first : length (flat_term t) ≤ d = omega arith in
        let others : length (flat_terms ts) ≤ d = omega arith in
        more (term_at text w b d) i (term_text hidden t) (term_texts hidden ts) (flat_terms ts ++ rest) rest
        (term_meant t d i (flat_terms ts ++ rest) first (subst (λ (xs : List Node). LiesAt i xs) (append_assoc (flat_term t) (flat_terms ts) rest) l))
        (λ j m. terms_meant ts d j rest others m)

  -- ---- sides and conditions

  sides_meant : (s : ResolvedSides) (d i : ℕ) (rest : List Node) → length (flat_sides s) ≤ d → LiesAt i (flat_sides s ++ rest)
      → Means (sides_at text w b d i) (sides_text hidden s) rest
  unfolding flat_sides sides_at sides_text
  sides_meant s d i rest k l =
      let sum = length-append (flat_term s.left) (flat_term s.right) in
      let first : length (flat_term s.left) ≤ d = omega arith in
      let second : length (flat_term s.right) ≤ d = omega arith in
      let m = term_meant s.left d i (flat_term s.right ++ rest) first (subst (λ (xs : List Node). LiesAt i xs) (append_assoc (flat_term s.left) (flat_term s.right) rest) l) in
      let r = term_meant s.right d (term_at text w b d i).next rest second m.after in
      record { spells = ap₂ (λ (a c : List ℕ). a ++ (bytes "=" ++ c)) m.spells r.spells; after = r.after }

  conditions_meant : (cs : List ResolvedSides) (d i : ℕ) (rest : List Node) → length (each flat_sides cs) ≤ d → LiesAt i (each flat_sides cs ++ rest)
      → Means (listed (sides_at text w b d) (length (map (sides_text hidden) cs)) i) (between_marks (bytes ",") (map (sides_text hidden) cs)) rest
  unfolding each listed between_marks
  conditions_meant [] d i rest k l = record { spells = refl; after = l }
  conditions_meant (c ∷ cs) d i rest k l =
      let sum = length-append (flat_sides c) (each flat_sides cs) in
      let first : length (flat_sides c) ≤ d = omega arith in
      let others : length (each flat_sides cs) ≤ d = omega arith in
      more (sides_at text w b d) i (sides_text hidden c) (map (sides_text hidden) cs) (each flat_sides cs ++ rest) rest
      (sides_meant c d i (each flat_sides cs ++ rest) first (subst (λ (xs : List Node). LiesAt i xs) (append_assoc (flat_sides c) (each flat_sides cs) rest) l))
      (λ j m. conditions_meant cs d j rest others m)

  when_meant : (cs : List ResolvedSides) (c d i : ℕ) → c ≡ length cs → length (each flat_sides cs) ≤ d → LiesAt i (each flat_sides cs ++ [])
      → when_at text w b d c i ≡ conditions_text hidden cs
  unfolding when_at conditions_text pick
  when_meant [] c d i q k l = rw q
  when_meant (s ∷ ss) c d i q k l =
      let e : c ≡ suc (length (map (sides_text hidden) ss)) = q ∙ ap suc (sym (length-map ss (sides_text hidden))) in
      rw (e, eqb-suc-zero (length (map (sides_text hidden) ss))) (ap (λ (a : List ℕ). bytes " when " ++ a) (conditions_meant (s ∷ ss) d i [] k l).spells)

  -- ---- words that stand for nodes

  words_lie : (c i : ℕ) → ((j : ℕ) → j < c → Told text tape w b h n (get_or w (i + j) 0)) → LiesAt i (map (node_in text tape w b h) (take c (drop i w)))
  words_lie zero i t = tt
  words_lie (suc c) i t =
      go (ltb i (length w)) refl (words_lie c (suc i) (λ j m. let s : suc i + j ≡ i + suc j = omega arith in rw s (t (suc j) (omega arith))))
    where
      go : (y : Bool) → ltb i (length w) ≡ y → LiesAt (suc i) (map (node_in text tape w b h) (take c (drop (suc i) w)))
          → LiesAt i (map (node_in text tape w b h) (take (suc c) (drop i w)))
      go true e tail =
          let within = ltb-true i (length w) e in
          let told : Told text tape w b h n (get_or w i 0) = rw add-zero at (t 0 (omega arith)) in
          let nodes = map (node_in text tape w b h) (take c (drop (suc i) w)) in
          rw (drop-cons w i 0 within) ((record { within = within; told = told; stands = refl }), subst (λ (j : ℕ). LiesAt j nodes) (sym (add-one i)) tail)
      go false e tail = rw (drop_of_length-le w (ltb-false i (length w) e)) tt

-- the row of an equation is written as the equation
pub equation_meant : (text tape w : List ℕ) (f : Form) (r : EquationRow) (e : ResolvedEquation) → EquationStands text tape w f r e
    → ((i : ℕ) → i < r.count → Told text tape w f.visible f.hidden f.hidden_count (get_or w (f.nodes + r.start + i) 0))
    → equation_at text w f.visible f.nodes r ≡ equation_text (items_at text tape w f.hidden f.hidden_count) e
unfolding equation_at rule_at equation_text nodes_of flat_equation
equation_meant text tape w f r e s t =
    let b = f.visible in
    let h = f.hidden in
    let n = f.hidden_count in
    let d = r.count in
    let i = f.nodes + r.start in
    let ws = take d (drop i w) in
    let left = flat_sides e.conclusion in
    let right = each flat_sides e.conditions in
    let size : length (left ++ right) ≤ d =
    omega (arith, ap length s.nodes, length-map ws (node_in text tape w b h), length-take d (drop i w)) in
    let sum = length-append left right in
    let first : length left ≤ d = omega arith in
    let second : length right ≤ d = omega arith in
    let lies = subst (λ (xs : List Node). Lies text tape w b h n i xs) s.nodes (words_lie text tape w b h n d i t) in
    let m = sides_meant text tape w b h n e.conclusion d i right first lies in
    let after = subst (λ (xs : List Node). Lies text tape w b h n (sides_at text w b d i).next xs) (sym (append-nil right)) m.after in
    let c = when_meant text tape w b h n e.conditions r.conditions d (sides_at text w b d i).next s.conditions second after in
    ap₂ (λ (a k : List ℕ). bytes "[" ++ (a ++ (bytes "] " ++ k))) s.tag (ap₂ ◌++◌ m.spells c)
