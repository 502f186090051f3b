-- The trials that document 01 marks proved: L and eleven of 004's appendix, each with all that the program prints, as one table under one
-- theorem.
use Rattle.std.specs.Prelude.{◌≡◌, refl}
use Rattle.std.proofs.Common.{sym, subst, inl, inr}
use Prim.Native.String.{String}
use mathlib.Core.List.Memᴰ
use mathlib.Core.List.{List, [], ◌∷◌, Memᴰ}
use Rattle.meaning.specs.Names.{bytes}
use Rattle.meaning.specs.Answer.{asfnorm}
use Rattle.meaning.specs.Opened.{all_opened}

-- what the program reads and what it prints
pub record Trial : Type 0 where
  pub label : String
  pub input : String
  pub output : String

unfoldable pub Every : {A : Type 0} → (A → Type 0) → List A → Type 0
Every P [] = Unit {0}
Every P (x ∷ xs) = P x × Every P xs

unfoldable pub Right : Trial → Type 0
Right t = asfnorm (bytes t.input) ≡ bytes t.output

unfoldable pub table : List Trial
table =
    record {
      label = "L";
      input =
          "normalise=M2\nmodule M1 begin exports begin sorts A functions f : A -> A end\nfunctions g : A -> A variables x : -> A\nequations [e] g(x) = f(x) end M1\nmodule M2 begin imports M1 { renamed by [ A -> C ] } end M2\n";
      output =
          "answer=0\nmodules=2\nmodule=M2\nsort=C\norigin=[M1,export,sort,A]\nfunction=f:C->C\norigin=[M1,export,function,f:A->A]\nhidden-function={1}:C->C\norigin=[M1,hidden,function,g:A->A]\nvariable={2}:C\norigin=[M1,hidden,variable,x:->A]\nequation=[e] {1}({2})=f({2})\nend=M2\n";
    }
    ∷
    record {
      label = "1.2";
      input =
          "normalise=M2\nmodule M1\nbegin\n  sorts A\nend M1\nmodule M2\nbegin\n  imports M1\n  functions f : A -> A\n  -- A is hidden in M1,\n  -- so it is no sort of M2\nend M2\n";
      output =
          "answer=13\nmodules=2\nmodule=M2\nname=f\nat=0\n";
    }
    ∷
    record {
      label = "1.3";
      input =
          "normalise=M\nmodule M\nbegin\n  exports begin functions f : A # A -> A end\n  sorts A\nend M\n";
      output =
          "answer=13\nmodules=1\nmodule=M\nname=f\nat=0\n";
    }
    ∷
    record {
      label = "1.7";
      input =
          "normalise=M1\nmodule M1\nbegin\n   exports\n      begin sorts A\n            functions f : A -> B\n      end\n   imports M2\nend M1\nmodule M2\nbegin\n   exports\n      begin sorts B\n            functions g : B -> A\n      end\n   imports M1\n   -- M1 and M2 name each other\nend M2\n";
      output =
          "answer=8\nmodules=1\nmodule=M1\nname=M2\nat=0\n";
    }
    ∷
    record {
      label = "1.8";
      input =
          "normalise=M3\nmodule M1\nbegin\n   exports\n      begin sorts A\n            functions a : -> A\n      end\nend M1\n\nmodule M2\nbegin\n   exports\n      begin sorts B\n            functions a : -> B\n      end\nend M2\n\nmodule M3\nbegin\n   imports M1, M2\n   -- a : -> A and a : -> B meet here\nend M3\n";
      output =
          "answer=11\nmodules=3\nmodule=M3\nname=a\nat=0\n";
    }
    ∷
    record {
      label = "1.9";
      input =
          "normalise=M3\nmodule M1\nbegin\n   exports\n      begin sorts A\n            functions f : A -> A\n      end\nend M1\nmodule M2\nbegin\n   exports\n      begin sorts B\n            functions f : B -> B\n      end\nend M2\nmodule M3\nbegin\n   imports M1, M2\n   -- two functions f, told apart by their input\nend M3\n";
      output =
          "answer=0\nmodules=3\nmodule=M3\nsort=A\norigin=[M1,export,sort,A]\nsort=B\norigin=[M2,export,sort,B]\nfunction=f:A->A\norigin=[M1,export,function,f:A->A]\nfunction=f:B->B\norigin=[M2,export,function,f:B->B]\nend=M3\n";
    }
    ∷
    record {
      label = "1.10";
      input =
          "normalise=M3\nmodule M1\nbegin\n   exports\n      begin sorts A\n             functions f : A -> A\n      end\nend M1\nmodule M2\nbegin\n   exports\n      begin sorts A\n             functions f : A -> A\n       end\nend M2\nmodule M3\nbegin\n   imports M1, M2\n   -- two sorts A and two functions f,\n   -- each pair of two origins\nend M3\n";
      output =
          "answer=10\nmodules=3\nmodule=M3\nname=A\nat=0\n";
    }
    ∷
    record {
      label = "1.12";
      input =
          "normalise=M2\nmodule M1\nbegin\n   exports\n      begin sorts A\n             functions f : A -> A\n      end\nend M1\nmodule M2\nbegin\n   imports M1\n   functions f : A -> A\nend M2\n";
      output =
          "answer=10\nmodules=2\nmodule=M2\nname=f\nat=0\n";
    }
    ∷
    record {
      label = "1.15";
      input =
          "normalise=M2\nmodule M1\nbegin\n   exports begin sorts A end\n   sorts B\n   functions f : A -> B\nend M1\nmodule M2\nbegin\n   imports M1 { renamed by [ B -> C,\n                             f -> g ] }\nend M2\n";
      output =
          "answer=14\nmodules=2\nmodule=M2\nname=B\nat=0\n";
    }
    ∷
    record {
      label = "1.16";
      input =
          "normalise=M2\nmodule M1\nbegin\n   exports begin sorts A, B end\nend M1\nmodule M2\nbegin\n   imports M1 { renamed by [ A -> C,\n                             B -> C ] }\n    -- both sorts are now called C\nend M2\n";
      output =
          "answer=10\nmodules=2\nmodule=M2\nname=C\nat=0\n";
    }
    ∷
    record {
      label = "1.17";
      input =
          "normalise=M3\nmodule M1\nbegin\n   exports begin sorts A end\nend M1\nmodule M2\nbegin\n   imports M1, M1 { renamed by [ A -> B ] }\nend M2\nmodule M3\nbegin\n   imports M2 { renamed by [ A -> C,\n                             B -> C ] }\n   -- both are the sort A of M1\nend M3\n";
      output =
          "answer=0\nmodules=3\nmodule=M3\nsort=C\norigin=[M1,export,sort,A]\nend=M3\n";
    }
    ∷
    record {
      label = "1.18";
      input =
          "normalise=M2\nmodule M1\nbegin\n   exports begin sorts A, B end\nend M1\nmodule M2\nbegin\n   imports M1 { renamed by [ A -> B,\n                             B -> A ] }\n   -- the two names are exchanged\nend M2\n";
      output =
          "answer=0\nmodules=2\nmodule=M2\nsort=A\norigin=[M1,export,sort,B]\nsort=B\norigin=[M1,export,sort,A]\nend=M2\n";
    }
    ∷
    []

pub trials : Every Right table
unfolding Every Right table all_opened
trials = (refl, (refl, (refl, (refl, (refl, (refl, (refl, (refl, (refl, (refl, (refl, (refl, tt))))))))))))

pub every_member : {A : Type 0} (P : A → Type 0) (xs : List A) → Every P xs → (x : A) → Memᴰ x xs → P x
unfolding Every
every_member P [] e x h = absurd (Memᴰ.not-nil h)
every_member P (y ∷ ys) e x h = elim (Memᴰ.cases_cons h) [ inl p ↦ subst P (sym p) e.0 | inr k ↦ every_member P ys e.1 x k ]

-- so each trial of the table is right
pub each_trial : (t : Trial) → Memᴰ t table → asfnorm (bytes t.input) ≡ bytes t.output
unfolding Right
each_trial t h = every_member Right table trials t h
