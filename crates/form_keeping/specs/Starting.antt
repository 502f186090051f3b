-- Before the first module no normal form is kept, and each row of the cleared table stands for the empty one.
use Rattle.std.specs.Prelude.{refl, ℕ, ◌+◌, ◌≤◌, List, []}
use Rattle.std.proofs.Common.{sym, arith}
use Rattle.std.proofs.Math.Path.{subst}
use Rattle.meaning.specs.Lists.{sum}
use Rattle.meaning.specs.Names.{Name}
use Rattle.meaning.specs.Numbers.{module_limit}
use Rattle.meaning.specs.Normal.{empty, nothing_visible, nothing_hidden}
use Rattle.meaning.specs.Evaluate.{normal_of}
use Rattle.form.specs.declared.Form.{Form}
use Rattle.form.specs.Blocks.{Fits}
use Rattle.form.specs.Forms.{slots_at, items_at, visible_at, Stands}
use Rattle.form_layout.specs.Layout.{kept_start, table_start}
use Rattle.form_keeping.specs.Keeping.{nothing_at, Cleared}
use Rattle.form_keeping.specs.Environment.{Between, TableBelow, number_of, EnvStands}

nothing_stands : (text tape w : List ℕ) (b : ℕ) → Stands text tape w (nothing_at b) empty
unfolding nothing_at empty nothing_visible nothing_hidden visible_at slots_at items_at sum
nothing_stands text tape w b = record {
  visible = refl;
  hidden = refl;
  equation_count = refl;
  node_count = refl;
  equations = tt;
  small = tt;
  pointing = record { visible = λ i h. absurd (omega arith); hidden = λ i h. absurd (omega arith) };
}

nothing_fits : (b : ℕ) → Fits (nothing_at b)
unfolding nothing_at
nothing_fits b = omega arith

nothing_between : (b : ℕ) → Between b b (nothing_at b)
unfolding nothing_at
nothing_between b = omega arith

module _ (w w' : List ℕ) (cleared : Cleared table_start (module_limit + 1) kept_start w w') where
  pub table_none : TableBelow w' kept_start
  table_none = record {
    between = λ k l. subst (Between kept_start kept_start) (sym (cleared.rows k (omega arith))) (nothing_between kept_start);
    fits = λ k l. subst Fits (sym (cleared.rows k (omega arith))) (nothing_fits kept_start);
  }

  pub env_none : (text tape : List ℕ) (ds : List Name) → ((x : Name) → number_of ds x ≤ module_limit) → EnvStands text tape w' ds []
  unfolding normal_of
  env_none text tape ds few = record {
    stands = λ x.
        let row = cleared.rows (number_of ds x) (omega (arith, few x)) in
        subst (λ (f : Form). Stands text tape w' f empty) (sym row) (nothing_stands text tape w' kept_start);
  }
