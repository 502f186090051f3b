-- Terms laid flat say all that the terms do: two equations have one content exactly when their nodes are the same in turn.
use Rattle.std.specs.Prelude.{◌≡◌, refl, Bool, true, false, ◌&&◌, List, [], ◌∷◌, ◌++◌, eqb}
use Rattle.std.proofs.Common.{sym, ap, ap₂, ◌∙◌, append_assoc}
use Rattle.std.proofs.Math.Dec.{eqb-zero-suc, eqb-suc-zero, eqb-suc-suc}
use Rattle.meaning.specs.Lists.{pick, agree, each}
use Rattle.meaning.specs.Origins.{same_origin, same_sort, same_head, ResolvedTerm, var, app, ResolvedTerms, none_left, ◌and_then◌, same_term, same_terms, ResolvedSides, same_sides, ResolvedEquation, one_equation}
use Rattle.form.specs.Forms.{Node, function_node, variable_node, how_many, flat_term, flat_terms, flat_sides, flat_equation}

-- a test of two nodes
unfoldable pub same_node : Node → Node → Bool
same_node (function_node f k) (function_node g j) = eqb k j && same_head f g
same_node (function_node f k) (variable_node o s) = false
same_node (variable_node o s) (function_node g j) = false
same_node (variable_node o s) (variable_node p t) = same_origin o p && same_sort s t

-- ---- choices

pick_and : (a b : Bool) → pick a b false ≡ (a && b)
unfolding pick
pick_and true b = refl
pick_and false b = refl

and_assoc : (a b c : Bool) → ((a && b) && c) ≡ (a && (b && c))
and_assoc true b c = refl
and_assoc false b c = refl

and_false : (a : Bool) → (a && false) ≡ false
and_false true = refl
and_false false = refl

-- ---- terms and lists of terms, whatever follows them

-- lists of different length are not the same
terms_differ : (ts us : ResolvedTerms) → eqb (how_many ts) (how_many us) ≡ false → same_terms ts us ≡ false
unfolding same_terms how_many pick
terms_differ none_left none_left e = e
terms_differ none_left (u and_then us) e = refl
terms_differ (t and_then ts) none_left e = refl
terms_differ (t and_then ts) (u and_then us) e = go (same_term t u) (terms_differ ts us (sym (eqb-suc-suc (how_many ts) (how_many us)) ∙ e))
  where
    go : (b : Bool) → same_terms ts us ≡ false → pick b (same_terms ts us) false ≡ false
    go true h = h
    go false h = refl

mutual
  unfolding agree same_node flat_term same_term flat_terms same_terms how_many pick

  term_flat : (t u : ResolvedTerm) (xs ys : List Node) → agree same_node (flat_term t ++ xs) (flat_term u ++ ys) ≡ (same_term t u && agree same_node xs ys)
  term_flat (var o s) (var p r) xs ys = pick_and (same_origin o p && same_sort s r) (agree same_node xs ys)
  term_flat (var o s) (app g us) xs ys = pick_and false (agree same_node (flat_terms us ++ ys) (flat_terms us ++ ys))
  term_flat (app f ts) (var p r) xs ys = pick_and false (agree same_node (flat_terms ts ++ xs) (flat_terms ts ++ xs))
  term_flat (app f ts) (app g us) xs ys = go (eqb (how_many ts) (how_many us)) refl (λ e. terms_flat ts us xs ys e)
    where
      go : (b : Bool) → eqb (how_many ts) (how_many us) ≡ b
          → (eqb (how_many ts) (how_many us) ≡ true → agree same_node (flat_terms ts ++ xs) (flat_terms us ++ ys) ≡ (same_terms ts us && agree same_node xs ys))
          → pick (b && same_head f g) (agree same_node (flat_terms ts ++ xs) (flat_terms us ++ ys)) false ≡ (pick (same_head f g) (same_terms ts us) false && agree same_node xs ys)
      go true e rest =
          pick_and (same_head f g) _ ∙ ap (λ (r : Bool). same_head f g && r) (rest e)
          ∙ sym (and_assoc (same_head f g) (same_terms ts us) (agree same_node xs ys))
          ∙ ap (λ (r : Bool). r && agree same_node xs ys) (sym (pick_and (same_head f g) (same_terms ts us)))
      go false e rest =
          pick_and false (agree same_node (flat_terms ts ++ xs) (flat_terms us ++ ys))
          ∙ ap (λ (r : Bool). r && agree same_node xs ys)
          (sym (pick_and (same_head f g) (same_terms ts us) ∙ ap (λ (r : Bool). same_head f g && r) (terms_differ ts us e) ∙ and_false (same_head f g)))

  terms_flat : (ts us : ResolvedTerms) (xs ys : List Node) → eqb (how_many ts) (how_many us) ≡ true
      → agree same_node (flat_terms ts ++ xs) (flat_terms us ++ ys) ≡ (same_terms ts us && agree same_node xs ys)
  terms_flat none_left none_left xs ys e = refl
  terms_flat none_left (u and_then us) xs ys e = absurd_here (sym (eqb-zero-suc (how_many us)) ∙ e)
    where
      absurd_here : false ≡ true → agree same_node xs ((flat_term u ++ flat_terms us) ++ ys) ≡ false
      absurd_here h = ap (λ (b : Bool). pick b (agree same_node xs ((flat_term u ++ flat_terms us) ++ ys)) false) (sym h)
  terms_flat (t and_then ts) none_left xs ys e = absurd_here (sym (eqb-suc-zero (how_many ts)) ∙ e)
    where
      absurd_here : false ≡ true → agree same_node ((flat_term t ++ flat_terms ts) ++ xs) ys ≡ false
      absurd_here h = ap (λ (b : Bool). pick b (agree same_node ((flat_term t ++ flat_terms ts) ++ xs) ys) false) (sym h)
  terms_flat (t and_then ts) (u and_then us) xs ys e =
      ap₂ (agree same_node) (append_assoc (flat_term t) (flat_terms ts) xs) (append_assoc (flat_term u) (flat_terms us) ys)
      ∙ term_flat t u (flat_terms ts ++ xs) (flat_terms us ++ ys)
      ∙ ap (λ (r : Bool). same_term t u && r) (terms_flat ts us xs ys (sym (eqb-suc-suc (how_many ts) (how_many us)) ∙ e))
      ∙ sym (and_assoc (same_term t u) (same_terms ts us) (agree same_node xs ys))
      ∙ ap (λ (r : Bool). r && agree same_node xs ys) (sym (pick_and (same_term t u) (same_terms ts us)))

-- ---- sides, conditions, equations

sides_flat : (a b : ResolvedSides) (xs ys : List Node) → agree same_node (flat_sides a ++ xs) (flat_sides b ++ ys) ≡ (same_sides a b && agree same_node xs ys)
unfolding flat_sides same_sides
sides_flat a b xs ys =
    ap₂ (agree same_node) (append_assoc (flat_term a.left) (flat_term a.right) xs) (append_assoc (flat_term b.left) (flat_term b.right) ys)
    ∙ term_flat a.left b.left (flat_term a.right ++ xs) (flat_term b.right ++ ys)
    ∙ ap (λ (r : Bool). same_term a.left b.left && r) (term_flat a.right b.right xs ys)
    ∙ sym (and_assoc (same_term a.left b.left) (same_term a.right b.right) (agree same_node xs ys))

-- a term has a node
some_node : (t : ResolvedTerm) (xs : List Node) → agree same_node [] (flat_term t ++ xs) ≡ false
unfolding flat_term agree
some_node (var o s) xs = refl
some_node (app f ts) xs = refl

node_some : (t : ResolvedTerm) (xs : List Node) → agree same_node (flat_term t ++ xs) [] ≡ false
unfolding flat_term agree
node_some (var o s) xs = refl
node_some (app f ts) xs = refl

conditions_flat : (as' bs : List ResolvedSides) → agree same_node (each flat_sides as') (each flat_sides bs) ≡ agree same_sides as' bs
unfolding each agree flat_sides
conditions_flat [] [] = refl
conditions_flat [] (b ∷ bs) = front
  where
    front : agree same_node [] (flat_sides b ++ each flat_sides bs) ≡ false
    front = ap (agree same_node []) (append_assoc (flat_term b.left) (flat_term b.right) (each flat_sides bs)) ∙ some_node b.left _
conditions_flat (a ∷ as') [] = front
  where
    front : agree same_node (flat_sides a ++ each flat_sides as') [] ≡ false
    front = ap (λ (xs : List Node). agree same_node xs []) (append_assoc (flat_term a.left) (flat_term a.right) (each flat_sides as')) ∙ node_some a.left _
conditions_flat (a ∷ as') (b ∷ bs) =
    sides_flat a b (each flat_sides as') (each flat_sides bs) ∙ ap (λ (r : Bool). same_sides a b && r) (conditions_flat as' bs)
    ∙ sym (pick_and (same_sides a b) (agree same_sides as' bs))

-- two equations are one exactly when module and position are, and their nodes in turn
pub one_flat : (a b : ResolvedEquation)
    → one_equation a b ≡ (eqb a.module_number b.module_number && (eqb a.position b.position && agree same_node (flat_equation a) (flat_equation b)))
unfolding one_equation flat_equation
one_flat a b =
    let h = eqb a.module_number b.module_number in
    let p = eqb a.position b.position in
    let c = same_sides a.conclusion b.conclusion in
    let k = agree same_sides a.conditions b.conditions in
    let inner : agree same_node (flat_sides a.conclusion ++ each flat_sides a.conditions) (flat_sides b.conclusion ++ each flat_sides b.conditions) ≡ (c && k) =
    sides_flat a.conclusion b.conclusion (each flat_sides a.conditions) (each flat_sides b.conditions) ∙ ap (λ (r : Bool). c && r) (conditions_flat a.conditions b.conditions) in
    and_assoc (h && p) c k ∙ and_assoc h p (c && k) ∙ ap (λ (r : Bool). h && (p && r)) (sym inner)
