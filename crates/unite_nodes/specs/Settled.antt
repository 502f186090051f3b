-- What settling a copy means: the form's equations are united with the one that the copy stands for.
use Rattle.std.specs.Prelude.{◌≡◌, true, false, List, [], ◌∷◌, ◌++◌, ℕ, ◌+◌, ◌*◌, ◌≤◌, take, drop}
use Rattle.std.proofs.Common.{sym, ◌∙◌, arith, length-drop, length-take-le}
use Rattle.std.proofs.Math.Path.{ap, subst}
use Rattle.std.proofs.Math.Bool.{Bool}
use Rattle.std.proofs.Math.ListN.{length, length-append}
use Rattle.std.proofs.lemmas.List.{length-map}
use Rattle.std.proofs.lemmas.List.Edits.{sets}
use Rattle.meaning.specs.Lists.{pick, any, union}
use Rattle.meaning.specs.Numbers.{node_limit}
use Rattle.meaning.specs.Origins.{ResolvedEquation, one_equation}
use Rattle.meaning.specs.Normal.{Normal}
use Rattle.meaning.specs.Checks.{equation_nodes}
use Rattle.text_names.specs.Word.{name_of}
use Rattle.form.specs.declared.Form.{Form}
use Rattle.form.specs.declared.EquationRow.{EquationRow}
use Rattle.form.specs.Memory.{part}
use Rattle.form.specs.Forms.{node_in, nodes_of, flat_equation, equation_row_at, equation_words, EquationStands, EquationsStand, Pointing, visible_at, Stands, equation_size}
use Rattle.form.specs.FormLaws.{kept_sets, kept_same, items_same}
use Rattle.form.specs.FlatMoves.{equation_count}
use Rattle.form.specs.Blocks.{Outside}
use Rattle.form.specs.Frames.{Stays, points_at, each_points, kept_stays, pointing_stays, equation_stays, equations_stay, visible_stays}
use Rattle.unite_nodes.specs.Joined.{has_equation, with_counts, Out, out, settled}
use Rattle.unite_nodes.specs.Found.{Copy, found_meant}
use Rattle.unite_nodes.specs.More.{points_more, equations_more, row_back, equations_grow}
use Rattle.unite_nodes.specs.Unions.{sum_more, every_more}

-- the form with the copy's nodes
abbrev pub with_copy : Form → EquationRow → Form
with_copy f q = with_counts f f.equation_count (f.node_count + q.count)

-- and with a row more
abbrev pub with_more : Form → EquationRow → Form
with_more f q = with_counts f (f.equation_count + 1) (f.node_count + q.count)

-- the memory with a row more
abbrev pub with_row : List ℕ → Form → EquationRow → List ℕ
with_row w f q = sets w (f.equations + f.equation_count * equation_size) (equation_words q f.node_count)

-- the normal form with other equations
abbrev pub with_equations : Normal → List ResolvedEquation → Normal
with_equations n es = record { visible = n.visible; hidden = record { items = n.hidden.items; equations = es } }

-- c words that stand for an equation's nodes are as many
pub run_count : (text tape w : List ℕ) (f : Form) (b c : ℕ) (e : ResolvedEquation) → b + c ≤ length w
    → nodes_of text tape w f (take c (drop b w)) ≡ flat_equation e → c ≡ equation_nodes e
unfolding nodes_of
run_count text tape w f b c e h s =
    let vs = take c (drop b w) in
    let many : length vs ≡ c = length-take-le c (drop b w) (omega (arith, length-drop b w)) in
    sym many ∙ sym (length-map vs (node_in text tape w f.visible f.hidden)) ∙ ap length s ∙ equation_count e

module _ (text : List ℕ) (t : ℕ) (w : List ℕ) (f : Form) (q : EquationRow) (y : ResolvedEquation) (copy : Copy text t w f q y)
    (n : Normal) (stands : Stands text (part w 0 t) w f n) where
  abbrev ds : List ResolvedEquation
  ds = n.hidden.equations

  found : has_equation text t w f q 0 f.equation_count ≡ any (one_equation y) ds
  found =
      let z : f.equations ≡ f.equations + 0 * equation_size = omega arith in
      ap (has_equation text t w f q 0) stands.equation_count
      ∙ found_meant text t w f q y copy 0 ds (subst (λ (b : ℕ). EquationsStand text (part w 0 t) w f b ds) z stands.equations)

  -- a copy that is there is dropped, another gives a row more: both are the union
  pub settled_cases : (P : Out → List ResolvedEquation → Type 0) → P (out f w) ds → P (out (with_more f q) (with_row w f q)) (ds ++ (y ∷ []))
      → P (settled text t w f q) (union one_equation ds (y ∷ []))
  unfolding settled union pick
  settled_cases P old new =
      subst (λ (b : Bool). P (pick here (out f w) (out (with_more f q) (with_row w f q))) (pick b ds (ds ++ (y ∷ [])))) found (go here)
    where
      here : Bool
      here = has_equation text t w f q 0 f.equation_count

      go : (b : Bool) → P (pick b (out f w) (out (with_more f q) (with_row w f q))) (pick b ds (ds ++ (y ∷ [])))
      go true = old
      go false = new

  module _ (tag : name_of text q.tag ≡ y.tag) (conditions : q.conditions ≡ length y.conditions) (small : equation_nodes y ≤ node_limit)
      (room : f.equations + f.equation_count * equation_size + 6 ≤ length w) (pointing : Pointing text (part w 0 t) w (with_copy f q))
      (outside : Outside (f.equations + f.equation_count * equation_size) (f.equations + f.equation_count * equation_size + 6) (with_copy f q)) where
    row_stays : Stays w (with_row w f q) (with_copy f q)
    unfolding equation_words
    row_stays =
        kept_stays w (with_row w f q) (f.equations + f.equation_count * equation_size) (f.equations + f.equation_count * equation_size + 6)
        (with_copy f q)
        (kept_sets (equation_words q f.node_count) w (f.equations + f.equation_count * equation_size)) outside

    new_row : EquationRow
    new_row = record { home = q.home; position = q.position; tag = q.tag; conditions = q.conditions; start = f.node_count; count = q.count }

    new_stands : EquationStands text (part w 0 t) (with_row w f q) (with_copy f q) new_row y
    unfolding with_counts nodes_of new_row
    new_stands =
        equation_stays text (part w 0 t) w (with_row w f q) (with_copy f q) row_stays pointing new_row y
        (record { home = copy.home; position = copy.position; tag = tag; conditions = conditions; within = omega arith; nodes = copy.nodes })

    old_stand : EquationsStand text (part w 0 t) (with_row w f q) (with_copy f q) f.equations ds
    old_stand =
        let kept = kept_sets (equation_words q f.node_count) w (f.equations + f.equation_count * equation_size) in
        equations_stay text (part w 0 t) w (with_row w f q) (with_copy f q) row_stays pointing f.equations ds
        (λ i h l. kept.below i (omega (arith, stands.equation_count)))
        (equations_more text (part w 0 t) w f f.equation_count (f.node_count + q.count) f.equations ds (omega arith) stands.equations)

    grown_stand : EquationsStand text (part w 0 t) (with_row w f q) (with_more f q) f.equations (ds ++ (y ∷ []))
    unfolding new_row with_counts
    grown_stand =
        let row : equation_row_at (with_row w f q) (f.equations + length ds * equation_size) ≡ new_row =
        ap (λ (k : ℕ). equation_row_at (with_row w f q) (f.equations + k * equation_size)) (sym stands.equation_count)
        ∙ row_back w (f.equations + f.equation_count * equation_size) q f.node_count room in
        equations_more text (part w 0 t) (with_row w f q) (with_copy f q) (f.equation_count + 1) (f.node_count + q.count)
        f.equations (ds ++ (y ∷ [])) (omega arith)
        (equations_grow text (part w 0 t) (with_row w f q) (with_copy f q) f.equations ds y old_stand
        (subst (λ (r : EquationRow). EquationStands text (part w 0 t) (with_row w f q) (with_copy f q) r y) (sym row) new_stands))

    grown_pointing : Pointing text (part w 0 t) (with_row w f q) (with_more f q)
    unfolding with_counts
    grown_pointing =
        let p = pointing_stays text (part w 0 t) w (with_row w f q) (with_copy f q) row_stays pointing in
        each_points text (part w 0 t) (with_row w f q) (with_more f q)
        (λ i h. points_more text (part w 0 t) (with_row w f q) (with_copy f q) (f.equation_count + 1) (f.node_count + q.count) _
        (points_at text (part w 0 t) (with_row w f q) (with_copy f q) p i h))

    -- the form with the copy, where it is new
    pub grown_stands : Stands text (part w 0 t) (with_row w f q) (with_more f q) (with_equations n (ds ++ (y ∷ [])))
    unfolding with_counts visible_at equation_words
    grown_stands =
        let b = f.equations + f.equation_count * equation_size in
        let kept = kept_sets (equation_words q f.node_count) w b in
        let parameters = kept_same b (b + 6) _ _ w (with_row w f q) outside.parameters kept in
        let nodes = run_count text (part w 0 t) w f (f.nodes + f.node_count) q.count y copy.fits copy.nodes in
        record {
          visible = visible_stays text (part w 0 t) w (with_row w f q) (with_copy f q) row_stays parameters ∙ stands.visible;
          hidden = items_same w (with_row w f q) text (part w 0 t) f.hidden f.hidden_count row_stays.hidden ∙ stands.hidden;
          equation_count = omega (arith, stands.equation_count, length-append ds (y ∷ []));
          node_count = omega (arith, stands.node_count, nodes, sum_more equation_nodes ds y);
          equations = grown_stand;
          small = every_more (λ (e : ResolvedEquation). equation_nodes e ≤ node_limit) ds y stands.small small;
          pointing = grown_pointing;
        }
