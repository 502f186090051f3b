-- What is said of what reading gives (document 01, "The text"): names of which holds what is asked, lists within their limits, equations within
-- their nodes. What is not read is refused by 1 to 5.
use Rattle.std.specs.Prelude.{◌≡◌, Bool, true, ◌||◌, eqb, leb, length}
use Prim.Native.Nat.{ℕ, ◌+◌, ◌-◌, ◌≤◌}
use mathlib.Core.List.{List}
use Rattle.types.specs.declared.Token.{Token}
use Rattle.meaning.specs.Lists.{sum}
use Rattle.meaning.specs.Names.{slice, Name, prefix_name, infix_name}
use Rattle.meaning.specs.Numbers.{name_size, import_limit, pair_limit, argument_limit, node_limit}
use Rattle.meaning.specs.Syntax.{Function, Signature, Parameter, Pair, Clause, renamed_by, bound_by, Import, VariableGroup, Term, node, Terms, no_terms, ◌then◌, Sides, Equation, conditions_of, Module}
use Rattle.meaning.specs.Tokens.{ident, operator, token_at}
use Rattle.meaning.specs.OrderLaws.{Every}
use Rattle.meaning.specs.Grammar.{Result, done, refused}

-- ---- nodes as they are read: a name is a node

unfoldable mutual
  pub source_nodes : Term → ℕ
  source_nodes (node f ts) = 1 + all_source_nodes ts

  pub all_source_nodes : Terms → ℕ
  all_source_nodes no_terms = 0
  all_source_nodes (t then ts) = source_nodes t + all_source_nodes ts

unfoldable pub source_sides : Sides → ℕ
source_sides s = source_nodes s.left + source_nodes s.right

unfoldable pub source_equation : Equation → ℕ
source_equation e = source_sides e.conclusion + sum source_sides (conditions_of e)

-- ---- what is said of lists, of nodes and of tokens

-- items that pass, at most n
pub record Listed {A : Type 0} (P : A → Type 0) (n : ℕ) (xs : List A) : Type 0 where
  pub each_one : Every P xs
  pub few : length xs ≤ n

abbrev pub Any : {A : Type 0} → A → Type 0
Any a = Unit {0}

-- a token that a name is read from
unfoldable pub is_spelled : ℕ → Bool
is_spelled kind = eqb kind ident || eqb kind operator

-- `Spelled` is asked of a name that is one token, `Called` of what a function may be called: an operator's name has its underlines
module _ (Spelled Called : Name → Type 0) where
  -- ---- what is read

  pub record ReadFunction (f : Function) : Type 0 where
    pub name : Called f.name
    pub inputs : Listed Spelled argument_limit f.inputs
    pub output : Spelled f.output

  pub record ReadSignature (g : Signature) : Type 0 where
    pub sorts : Every Spelled g.sorts
    pub functions : Every ReadFunction g.functions

  pub record ReadParameter (p : Parameter) : Type 0 where
    pub name : Spelled p.name
    pub signature : ReadSignature p.signature

  abbrev pub ReadPair : Pair → Type 0
  ReadPair r = Called r.old × Called r.new

  abbrev pub ReadClause : Clause → Type 0
  ReadClause (renamed_by rs) = Listed ReadPair pair_limit rs
  ReadClause (bound_by p rs m) = Listed ReadPair pair_limit rs

  abbrev pub ReadImport : Import → Type 0
  ReadImport i = Every ReadClause i.clauses

  pub record ReadGroup (g : VariableGroup) : Type 0 where
    pub names : Every Spelled g.names
    pub sort : Spelled g.sort

  pub record ReadEquation (e : Equation) : Type 0 where
    pub tag : Spelled e.tag
    pub nodes : source_equation e ≤ node_limit

  pub record ReadModule (m : Module) : Type 0 where
    pub name : Spelled m.name
    pub parameters : Every ReadParameter m.parameters
    pub exports : ReadSignature m.exports
    pub imports : Listed ReadImport import_limit m.imports
    pub hidden : ReadSignature m.hidden
    pub groups : Every ReadGroup m.groups
    pub equations : Every ReadEquation m.equations

  module _ (text : List ℕ) where
    -- if a name is read from the token, it passes
    abbrev pub Passes : Token → Type 0
    Passes t = is_spelled t.kind ≡ true → leb (t.end - t.start) name_size ≡ true → Spelled (slice text t.start t.end)

    -- the names of the text do
    pub record Named : Type 0 where
      pub token : (i : ℕ) → Passes (token_at text i)
      pub as_plain : (w : Name) → Spelled w → Called w
      pub as_prefix : (o : Name) → Spelled o → Called (prefix_name o)
      pub as_infix : (o : Name) → Spelled o → Called (infix_name o)

-- ---- what is refused, whatever is asked of names

abbrev pub UpToFive : Result (List Module) → Type 0
UpToFive (done ms s) = Unit {0}
UpToFive (refused k p) = k ≤ 5
