-- What a renaming, a binding and a union ask of places, and what comes of each (meaning/specs/Clauses.antt, Evaluate.antt).
use Rattle.std.specs.Prelude.{ℕ, ◌+◌, ◌≤◌, List}
use Rattle.meaning.specs.Normal.{Normal, unite, move}
use Rattle.meaning.specs.Checks.{checked}
use Rattle.meaning.specs.Clauses.{renaming, rename, bind}
use Rattle.text_names.specs.Word.{name_of}
use Rattle.form.specs.declared.Form.{Form}
use Rattle.form.specs.declared.Block.{Block}
use Rattle.form.specs.Verdicts.{Made}
use Rattle.form.specs.Memory.{part, Kept}
use Rattle.form.specs.Forms.{Stands}
use Rattle.form.specs.Blocks.{BlockLaid, Outside, Fits, Makes, MadeThere, MadeIn}
use Rattle.clause_pairs.specs.Pairs.{pairs_at}

-- the block has room for two forms that fit, united, and for the notes of both
pub record BlockRoom (size t : ℕ) (b : Block) : Type 0 where
  pub names : ℕ
  pub rows : ℕ
  pub hidden_rows : ℕ
  pub sources : ℕ
  pub laid : BlockLaid size t b names rows hidden_rows sources
  pub names_room : 16 ≤ names
  pub few_names : names ≤ 65536
  pub rows_room : 1024 ≤ rows
  pub few_rows : rows ≤ 65536
  pub hidden_room : 1024 ≤ hidden_rows
  pub few_hidden : hidden_rows ≤ 65536
  pub sources_room : 2048 ≤ sources
  pub equations_room : 512 ≤ b.equation_room

-- a form that fits, outside the block
pub record MakeRoom (size t : ℕ) (g : Form) (b : Block) : Type 0 where
  pub room : BlockRoom size t b
  pub outside : Outside b.low b.high g
  pub fits : Fits g
  pub nodes : g.nodes + g.node_count ≤ size

-- what is made in the block of the form g
module _ (text : List ℕ) (t : ℕ) (w : List ℕ) where
  pub record Renamed (pairs : ℕ) (g : Form) (b : Block) (r : Made) (w' : List ℕ) : Type 0 where
    pub kept : Kept b.low b.high w w'
    pub made_in : MadeIn b r
    pub made : (n : Normal) → Stands text (part w 0 t) w g n → Makes text (part w' 0 t) w' r (rename (pairs_at text (part w 0 t) pairs) n)

  -- the same, the pairs' check left out
  pub record RenamedForm (pairs : ℕ) (g : Form) (b : Block) (r : Made) (w' : List ℕ) : Type 0 where
    pub kept : Kept b.low b.high w w'
    pub made_in : MadeIn b r
    pub made : (n : Normal) → Stands text (part w 0 t) w g n
        → Makes text (part w' 0 t) w' r (checked (move (renaming (pairs_at text (part w 0 t) pairs)) (λ f s. renaming (pairs_at text (part w 0 t) pairs) f) n))

  pub record Bound (p pairs : ℕ) (g actual : Form) (b : Block) (r : Made) (w' : List ℕ) : Type 0 where
    pub kept : Kept b.low b.high w w'
    pub made_in : MadeIn b r
    pub made : (n a : Normal) → Stands text (part w 0 t) w g n → Stands text (part w 0 t) w actual a
        → Makes text (part w' 0 t) w' r (bind (name_of text p) (pairs_at text (part w 0 t) pairs) n a)

-- a form that fits, outside the block, and one in it
pub record JoinRoom (size t : ℕ) (g f : Form) (b : Block) : Type 0 where
  pub room : BlockRoom size t b
  pub outside : Outside b.low b.high g
  pub fits : Fits g
  pub nodes : g.nodes + g.node_count ≤ size
  pub there : MadeThere b f

pub record JoinedForm (text : List ℕ) (t : ℕ) (w : List ℕ) (g f : Form) (b : Block) (r : Made) (w' : List ℕ) : Type 0 where
  pub kept : Kept b.low b.high w w'
  pub made_in : MadeIn b r
  pub made : (from to : Normal) → Stands text (part w 0 t) w g from → Stands text (part w 0 t) w f to
      → Makes text (part w' 0 t) w' r (checked (unite to from))
