-- One more normal form is kept: what lies below the cursor stays, the new one lies behind it, and its module is evaluated.
use Rattle.std.specs.Prelude.{◌≡◌, ◌⊎◌, Bool, ℕ, zero, suc, ◌+◌, ◌*◌, ◌≤◌, ◌<◌, List, [], ◌∷◌, length, get_or}
use Rattle.std.proofs.Math.Path.{refl, ap}
use Rattle.std.proofs.Common.{sym, subst, ◌∙◌, ⊎_elim, inl, inr, arith}
use Rattle.std.proofs.Math.Bool.{true, false}
use Rattle.std.proofs.lemmas.Bool.{false≢true}
use Rattle.meaning.specs.Lists.{pick}
use Rattle.meaning.specs.Names.{Name, same}
use Rattle.meaning.specs.Numbers.{module_limit}
use Rattle.meaning.specs.OrderLaws.{same_self, same_equal}
use Rattle.meaning.specs.Normal.{Normal}
use Rattle.meaning.specs.Evaluate.{Evaluated, normal_of}
use Rattle.form.specs.declared.Form.{Form}
use Rattle.form.specs.Memory.{part}
use Rattle.form.specs.Forms.{Stands, form_size}
use Rattle.form.specs.FormLaws.{tape_same}
use Rattle.form.specs.Blocks.{Fits}
use Rattle.form.specs.Frames.{Stays, stands_stays}
use Rattle.modules.specs.ReachedLaws.{found_name}
use Rattle.form_layout.specs.Layout.{kept_start, table_start}
use Rattle.form_keeping.specs.Keeping.{form_same}
use Rattle.form_keeping.specs.Environment.{Between, kept_form, TableBelow, number_of, EnvStands}
use Rattle.form_keeping.specs.Growing.{between_around, Grown, RowThere}

other_number : (j k : ℕ) → (j ≡ k → ⊥) → (j < k) ⊎ (k < j)
other_number zero zero h = absurd (h refl)
other_number zero (suc k) h = inl (omega arith)
other_number (suc j) zero h = inr (omega arith)
other_number (suc j) (suc k) h = ⊎_elim (λ l. inl (omega arith)) (λ l. inr (omega arith)) (other_number j k (λ e. h (ap suc e)))

same_number : (j k : ℕ) → (j ≡ k) ⊎ (j ≡ k → ⊥)
same_number zero zero = inl refl
same_number zero (suc k) = inr (λ e. omega arith)
same_number (suc j) zero = inr (λ e. omega arith)
same_number (suc j) (suc k) = ⊎_elim (λ e. inl (ap suc e)) (λ h. inr (λ e. h (omega arith))) (same_number j k)

module _ (from to k : ℕ) (w w' : List ℕ) (start : kept_start ≤ from) (order : from ≤ to) (end : to ≤ table_start) (grown : Grown from to k w w') where
  other_row : (j : ℕ) → j ≤ module_limit → (j ≡ k → ⊥) → kept_form w' j ≡ kept_form w j
  other_row j l h =
      form_same w w' (table_start + j * form_size)
      (λ i p q. ⊎_elim (λ b. grown.between i (omega arith) (omega arith)) (λ b. grown.rows i (omega arith) (omega arith)) (other_number j k h))

  pub table_more : RowThere from to k w' → TableBelow w from → TableBelow w' to
  table_more row below = record {
    between = λ j l. ⊎_elim
        (λ (e : j ≡ k). subst (λ (m : ℕ). Between kept_start to (kept_form w' m)) (sym e)
        (between_around from to kept_start to (kept_form w' k) start (omega arith) row.between))
        (λ (h : j ≡ k → ⊥). subst (Between kept_start to) (sym (other_row j l h))
        (between_around kept_start from _ to (kept_form w j) (omega arith) order (below.between j l)))
        (same_number j k);
    fits = λ j l. ⊎_elim
        (λ (e : j ≡ k). subst (λ (m : ℕ). Fits (kept_form w' m)) (sym e) row.fits)
        (λ (h : j ≡ k → ⊥). subst Fits (sym (other_row j l h)) (below.fits j l))
        (same_number j k);
  }

  -- a form below the cursor stands for what it stood for
  stands_below : (text : List ℕ) (t : ℕ) (f : Form) (n : Normal) → t ≤ kept_start → Between kept_start from f
      → Stands text (part w 0 t) w f n → Stands text (part w' 0 t) w' f n
  stands_below text t f n h b s =
      let stays : Stays w w' f = record {
        size = grown.size;
        visible = λ i p q. grown.below i (omega (arith, b.visible_end));
        hidden = λ i p q. grown.below i (omega (arith, b.hidden_end));
        nodes = λ i p q. grown.below i (omega (arith, b.nodes_end));
      } in
      subst (λ (tape : List ℕ). Stands text tape w' f n) (sym (tape_same w w' t grown.size (λ i p q. grown.below i (omega arith))))
      (stands_stays text (part w 0 t) w w' f stays n
      (λ i p q. grown.below i (omega (arith, b.parameters_end))) (λ i p q. grown.below i (omega (arith, b.equations_end))) s)

  -- the module x, number k, has the normal form that row k stands for
  module _ (text : List ℕ) (t : ℕ) (ds : List Name) (env : List Evaluated) (x : Name) (n : Normal) (tape : t ≤ kept_start)
      (number : number_of ds x ≡ k) (found : k < length ds) (few : (y : Name) → number_of ds y ≤ module_limit) (below : TableBelow w from)
      (row : Stands text (part w' 0 t) w' (kept_form w' k) n) (stands : EnvStands text (part w 0 t) w ds env) where
    others_differ : (y : Name) → same y x ≡ false → number_of ds y ≡ k → ⊥
    others_differ y e h =
        let there : get_or ds (number_of ds x) [] ≡ x = found_name ds x (omega (arith, number)) in
        let here : get_or ds (number_of ds y) [] ≡ y = found_name ds y (omega (arith, h)) in
        let one : y ≡ x = sym here ∙ ap (λ (j : ℕ). get_or ds j []) (h ∙ sym number) ∙ there in
        false≢true (sym e ∙ ap (λ (z : Name). same z x) one ∙ same_self x)

    pub env_more : EnvStands text (part w' 0 t) w' ds (record { name = x; normal = n } ∷ env)
    unfolding normal_of pick
    env_more = record { stands = λ y. go y (same y x) refl }
      where
        go : (y : Name) (b : Bool) → same y x ≡ b → Stands text (part w' 0 t) w' (kept_form w' (number_of ds y)) (pick (same y x) n (normal_of env y))
        go y true e =
            let one : number_of ds y ≡ k = ap (number_of ds) (same_equal y x e) ∙ number in
            rw e (subst (λ (j : ℕ). Stands text (part w' 0 t) w' (kept_form w' j) n) (sym one) row)
        go y false e =
            let j = number_of ds y in
            rw e (subst (λ (f : Form). Stands text (part w' 0 t) w' f (normal_of env y)) (sym (other_row j (few y) (others_differ y e)))
            (stands_below text t (kept_form w j) (normal_of env y) tape (below.between j (few y)) (stands.stands y)))
