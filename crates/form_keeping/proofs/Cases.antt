-- One law for each way through the code.
use mathlib.Core.Path.{◌≡◌, ◌∙◌}
use mathlib.Core.Logic.{⊎_elim}
use mathlib.Core.List.{List, [], ◌∷◌}
use Prim.Native.Nat.{ℕ, suc, ◌+◌, ◌*◌, ◌≤◌, ◌<◌}
use native.Mathlib.Omega.{arith}
use native.Mathlib.Nat.{eq-or-lt_of_le}
use borrow.Author.Rules.{rules}
use lib.ListN.{length, get_or}
use lib.Seq.{sets}
use Rattle.form.specs.declared.Form.{Form}
use Rattle.form.specs.Memory.{Kept}
use Rattle.form.specs.FormLaws.{kept_sets}
use Rattle.form.specs.Forms.{form_size}
use Rattle.form_frames.specs.Changes.{onward, wider}
use Rattle.form_keeping.specs.Keeping.{form_at, form_words, nothing_at, Cleared, form_back, form_same}

pub form_read : (w : List ℕ) (b p pn v vn h hn e en s sn : ℕ) → p ≡ get_or w b 0 → pn ≡ get_or w (b + 1) 0 → v ≡ get_or w (b + 2) 0 → vn ≡ get_or w (b + 3) 0
    → h ≡ get_or w (b + 4) 0 → hn ≡ get_or w (b + 5) 0 → e ≡ get_or w (b + 6) 0 → en ≡ get_or w (b + 7) 0 → s ≡ get_or w (b + 8) 0 → sn ≡ get_or w (b + 9) 0
    → record {
      parameters = p;
      parameter_count = pn;
      visible = v;
      visible_count = vn;
      hidden = h;
      hidden_count = hn;
      equations = e;
      equation_count = en;
      nodes = s;
      node_count = sn;
    }
    ≡ form_at w b
unfolding form_at
form_read w b p pn v vn h hn e en s sn c₀ c₁ c₂ c₃ c₄ c₅ c₆ c₇ c₈ c₉ = rw (c₀, c₁, c₂, c₃, c₄, c₅, c₆, c₇, c₈, c₉)

pub form_written : (w w₁ w₂ w₃ : List ℕ) (table k b : ℕ) (f : Form) → b ≡ table + k * form_size
    → w₁ ≡ sets w b (f.parameters ∷ f.parameter_count ∷ f.visible ∷ f.visible_count ∷ [])
    → w₂ ≡ sets w₁ (b + 4) (f.hidden ∷ f.hidden_count ∷ f.equations ∷ f.equation_count ∷ [])
    → w₃ ≡ sets w₂ (b + 8) (f.nodes ∷ f.node_count ∷ []) → w₃ ≡ sets w (table + k * form_size) (form_words f)
unfolding form_words
form_written w w₁ w₂ w₃ table k b f e c₁ c₂ c₃ =
    let a₄ : b + 4 ≡ suc (suc (suc (suc b))) = omega arith in
    let a₈ : b + 8 ≡ suc (suc (suc (suc (suc (suc (suc (suc b))))))) = omega arith in
    rw (← e, c₃, c₂, c₁, a₄, a₈)

-- ---- clearing

-- k of n rows have nothing
pub record Clearing (table n start : ℕ) (w₀ w : List ℕ) (k : ℕ) (f : Form) : Type 0 where
  pub inside : k ≤ n
  pub room : table + n * form_size ≤ length w₀
  pub nothing : f ≡ nothing_at start
  pub cleared : Cleared table k start w₀ w

pub cleared_one : (table n k start : ℕ) (w w₁ w₂ : List ℕ) (f : Form) → k < n → w₂ ≡ sets w₁ (table + k * form_size) (form_words f)
    → Clearing table n start w w₁ k f → Clearing table n start w w₂ (k + 1) f
unfolding form_words
cleared_one table n k start w w₁ w₂ f less put s =
    let c = s.cleared in
    let b = table + k * form_size in
    let size = c.kept.size in
    let here : Kept b (b + 10) w₁ w₂ = rw put (kept_sets (form_words f) w₁ b) in
    record {
      inside = omega arith;
      room = s.room;
      nothing = s.nothing;
      cleared = record {
        rows = λ j h. ⊎_elim
            (λ (l : j ≡ k). rw (l, put) (form_back w₁ b f (omega (arith, size, s.room)) ∙ s.nothing))
            (λ (l : j < k). form_same w₁ w₂ (table + j * form_size) (λ i p q. here.below i (omega arith)) ∙ c.rows j l)
            (eq-or-lt_of_le {n = j} {m = k} (omega arith));
        kept = onward (wider (omega arith) c.kept) (wider (omega arith) here);
      };
    }

pub ruleset cases = (form_read, form_written, cleared_one, rules)
