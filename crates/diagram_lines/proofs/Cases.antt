-- One law for each way through the code, in the code's terms: p is where the pen stands before, q after.
use mathlib.Core.Path.{◌≡◌, sym, ap, ◌∙◌}
use mathlib.Core.List.{List, [], ◌∷◌, ◌++◌, append_assoc}
use Prim.Native.Nat.{ℕ, ◌+◌, ◌<◌, ◌≤◌}
use borrow.Author.Rules.{rules}
use Rattle.meaning.specs.Names.{bytes, Name}
use Rattle.meaning.specs.Written.{decimal}
use Rattle.meaning.specs.Listing.{Line, line_text}
use Rattle.list_pen.specs.Pen.{Pen, pen, written}
use Rattle.list_pen.proofs.Laws.{then}
use Rattle.diagram_meaning.specs.Diagram.{bind_line}
use Rattle.diagram_lines.specs.Sheet.{line_limit, drawing, drew, named_line, front_of}
use Rattle.diagram_lines.specs.Laws.{drew_full, line_on}

pub front_done : (l : ℕ) (p q : Pen) (key : List ℕ) (d : ℕ) (w : Name) (a b c e : Pen) → a ≡ written l key p → b ≡ written l (bytes "=") a
    → c ≡ written l (decimal d) b → e ≡ written l (bytes ",") c → q ≡ written l w e → q ≡ written l (front_of key d w) p
unfolding front_of
front_done l p q key d w a b c e f g h i j =
    then l key (bytes "=" ++ (decimal d ++ (bytes "," ++ w))) p a q f
    (then l (bytes "=") (decimal d ++ (bytes "," ++ w)) a b q g
    (then l (decimal d) (bytes "," ++ w) b c q h (then l (bytes ",") w c e q i j)))

module _ (l at lines : ℕ) (o : List ℕ) where
  -- no line more is counted
  pub line_past : (xs : List Line) → line_limit ≤ lines → drawing at lines o ≡ drew l xs (drawing at lines o)
  line_past xs h = sym (drew_full l xs (drawing at lines o) h)

  module _ (h : lines < line_limit) (a : ℕ) (o₁ : List ℕ) where
    pub named_drawn : (key : List ℕ) (d : ℕ) (w : Name) (b : ℕ) (o₂ : List ℕ) → pen a o₁ ≡ written l (front_of key d w) (pen at o)
        → pen b o₂ ≡ written l (bytes "\n") (pen a o₁) → drawing b (lines + 1) o₂ ≡ drew l (named_line key d w ∷ []) (drawing at lines o)
    unfolding front_of named_line line_text
    named_drawn key d w b o₂ e f =
        line_on l (named_line key d w) at lines b o o₂ h
        (then l (front_of key d w) (bytes "\n") (pen at o) (pen a o₁) (pen b o₂) e f
        ∙ ap (λ (xs : List ℕ). written l xs (pen at o)) (append_assoc key (bytes "=" ++ (decimal d ++ (bytes "," ++ w))) (bytes "\n")))

    pub bind_drawn : (d : ℕ) (v w : Name) (b c e : ℕ) (o₂ o₃ o₄ : List ℕ) → pen a o₁ ≡ written l (front_of (bytes "bind") d v) (pen at o)
        → pen b o₂ ≡ written l (bytes ",") (pen a o₁) → pen c o₃ ≡ written l w (pen b o₂) → pen e o₄ ≡ written l (bytes "\n") (pen c o₃)
        → drawing e (lines + 1) o₄ ≡ drew l (bind_line d (record { parameter = v; actual = w }) ∷ []) (drawing at lines o)
    unfolding front_of bind_line line_text
    bind_drawn d v w b c e o₂ o₃ o₄ f g i j =
        let rest = bytes "," ++ (w ++ bytes "\n") in
        let shown : (decimal d ++ (bytes "," ++ v)) ++ rest ≡ (decimal d ++ (bytes "," ++ (v ++ (bytes "," ++ w)))) ++ bytes "\n" =
        append_assoc (decimal d) (bytes "," ++ v) rest
        ∙ sym (append_assoc (decimal d) (bytes "," ++ (v ++ (bytes "," ++ w))) (bytes "\n")
        ∙ ap (λ (xs : List ℕ). decimal d ++ (bytes "," ++ xs)) (append_assoc v (bytes "," ++ w) (bytes "\n"))) in
        line_on l (bind_line d (record { parameter = v; actual = w })) at lines e o o₄ h
        (then l (front_of (bytes "bind") d v) rest (pen at o) (pen a o₁) (pen e o₄) f
        (then l (bytes ",") (w ++ bytes "\n") (pen a o₁) (pen b o₂) (pen e o₄) g (then l w (bytes "\n") (pen b o₂) (pen c o₃) (pen e o₄) i j))
        ∙ ap (λ (xs : List ℕ). written l (bytes "bind" ++ (bytes "=" ++ xs)) (pen at o)) shown)

pub ruleset cases = (front_done, line_past, named_drawn, bind_drawn, rules)
