-- Demand 3's premises can be met: two texts that differ in hidden sorts, functions, variables and equations of an imported module and in a
-- module that is not reached, with the record of the premises, and what both answers are.
use Rattle.std.specs.Prelude.{◌≡◌, refl, ◌⊎◌, ℕ, List, []}
use Rattle.std.proofs.Common.{inl, inr, arith}
use Rattle.meaning.specs.Names.{bytes, Name}
use Rattle.meaning.specs.Numbers.{memory_size, program_output, accepted, lent_short}
use Rattle.meaning.specs.Syntax.{Module}
use Rattle.meaning.specs.Texts.{Texts, two_texts, Reading, all_read, refused_in, read_texts}
use Rattle.meaning.specs.Reached.{reached}
use Rattle.meaning.specs.Answer.{Answer, listing, answer}
use Rattle.meaning.specs.Opened.{all_opened}
use Rattle.promises.specs.VisiblePart.{visible_part, visible_part_opened}
use Rattle.promises.specs.Demand.{ReadAs, Counterparts, InTurn, InTheCall, ByItself, Comparable, SameAnswer, ShortOfRoom, placed_among, all_placed, Enough}
use Rattle.promises.specs.Proof.{if_accepted}
use Rattle.promises.proofs.Demanded.{demand_3}
use Rattle.promises.specs.Stored.{UpToDate}
use Rattle.promises.proofs.Stored.{may_be_kept_alone}

-- what was read
unfoldable pub modules_in : Reading → List Module
modules_in (all_read ms) = ms
modules_in (refused_in l k p) = []

-- M2 is asked. It reaches M1, which hides different things in the two, and stands in the library in the one; M0 is not reached, and would not be accepted
unfoldable pub one_pair : Texts
one_pair = two_texts (bytes "module M1 begin exports begin sorts A functions f : A -> A end sorts H functions g : A -> H variables x : -> A equations [e] g(x) = g(f(x)) end M1") (bytes "module M2 begin imports M1 { renamed by [ A -> C ] } end M2")

unfoldable pub other_pair : Texts
other_pair = two_texts [] (bytes "module M1 begin exports begin sorts A functions f : A -> A end sorts C, D functions h : C # D -> A k : -> D variables y, z : -> C equations [i] h(y, k) = h(z, k) [ii] f(h(y, k)) = h(y, k) end M1 module M0 begin imports M2 sorts S, S end M0 module M2 begin imports M1 { renamed by [ A -> C ] } end M2")

unfoldable pub asked : Name
asked = bytes "M2"

abbrev pub one_modules : List Module
one_modules = modules_in (read_texts one_pair)

abbrev pub other_modules : List Module
other_modules = modules_in (read_texts other_pair)

one_read : ReadAs one_pair one_modules
unfolding all_opened modules_in one_pair
one_read = record { reads = refl }

other_read : ReadAs other_pair other_modules
unfolding all_opened modules_in other_pair
other_read = record { reads = refl }

-- M1 is not the asked module
pub not_m1 : {X : Type 0} → bytes "M1" ≡ bytes "M2" → X
not_m1 e = let z : ◌≡◌ {A = ℕ} 49 50 = cc in absurd (omega arith)

same_but_hidden : InTurn (Counterparts asked one_modules other_modules) (reached asked one_modules) (reached asked other_modules)
unfolding all_opened modules_in one_pair other_pair asked
same_but_hidden = (
  record { alike = record { name = refl; parameters = refl; exports = refl; imports = refl }; asked_same = not_m1; both_missing = tt; both_late = tt },
  (
    record {
      alike = record { name = refl; parameters = refl; exports = refl; imports = refl };
      asked_same = λ e. refl;
      both_missing = (refl, tt);
      both_late = (refl, tt);
    },
    tt,
  ),
)

pub comparable : Comparable InTheCall asked one_pair other_pair one_modules other_modules
unfolding all_opened modules_in one_pair other_pair asked
comparable = record { read_as = one_read; read_as' = other_read; stands = refl; stands' = refl; same_order = same_but_hidden; accepted = tt; accepted' = tt }

-- M1 is accepted when it is asked by itself, too
pub comparable_alone : Comparable ByItself asked one_pair other_pair one_modules other_modules
unfolding all_opened modules_in one_pair other_pair asked
comparable_alone = record {
  read_as = one_read;
  read_as' = other_read;
  stands = refl;
  stands' = refl;
  same_order = same_but_hidden;
  accepted = (inr tt, (inl refl, tt));
  accepted' = (inr tt, (inl refl, tt));
}

-- and it is enough to find M1 and M2 in the other text, with M0 between them
pub enough : Enough ByItself asked one_pair other_pair one_modules other_modules
unfolding all_opened modules_in one_pair other_pair asked placed_among all_placed
enough = record {
  read_as = one_read;
  read_as' = other_read;
  stands = refl;
  same_order = inl (same_but_hidden.0, inr (inl (same_but_hidden.1.0, tt)));
  accepted = comparable_alone.accepted;
  accepted' = comparable_alone.accepted';
}

-- ---- so the answers agree in what is visible

abbrev pub one_answer : Answer
one_answer = answer memory_size program_output asked one_pair

abbrev pub other_answer : Answer
other_answer = answer memory_size program_output asked other_pair

pub both_accepted : (one_answer.number ≡ accepted) × (other_answer.number ≡ accepted)
unfolding all_opened one_pair other_pair asked
both_accepted = (refl, refl)

pub agrees : SameAnswer one_answer other_answer
agrees =
    if_accepted one_answer other_answer both_accepted.0 both_accepted.1
    (demand_3 asked one_pair other_pair one_modules other_modules comparable memory_size memory_size program_output program_output)

-- and the one visible part, once stored, may be kept for the other text
pub kept : ShortOfRoom other_answer ⊎ UpToDate (visible_part (listing one_answer)) other_answer
kept =
    may_be_kept_alone asked one_pair other_pair one_modules other_modules enough memory_size memory_size program_output program_output _
    (record { is_accepted = both_accepted.0; shows = refl })

-- ---- computed: the visible parts are the same bytes, the listings are not

unfoldable pub visible_text : List ℕ
visible_text = bytes "module=M2\nsort=C\norigin=[M1,export,sort,A]\nfunction=f:C->C\norigin=[M1,export,function,f:A->A]\n"

pub listings :
    (listing one_answer ≡ bytes "module=M2\nsort=C\norigin=[M1,export,sort,A]\nfunction=f:C->C\norigin=[M1,export,function,f:A->A]\nhidden-sort={1}\norigin=[M1,hidden,sort,H]\nhidden-function={2}:C->{1}\norigin=[M1,hidden,function,g:A->H]\nvariable={3}:C\norigin=[M1,hidden,variable,x:->A]\nequation=[e] {2}({3})={2}(f({3}))\nend=M2\n")
    × (listing other_answer ≡ bytes "module=M2\nsort=C\norigin=[M1,export,sort,A]\nfunction=f:C->C\norigin=[M1,export,function,f:A->A]\nhidden-sort={1}\norigin=[M1,hidden,sort,C]\nhidden-sort={2}\norigin=[M1,hidden,sort,D]\nhidden-function={3}:{1}#{2}->C\norigin=[M1,hidden,function,h:C#D->A]\nhidden-function={4}:->{2}\norigin=[M1,hidden,function,k:->D]\nvariable={5}:{1}\norigin=[M1,hidden,variable,y:->C]\nvariable={6}:{1}\norigin=[M1,hidden,variable,z:->C]\nequation=[i] {3}({5},{4})={3}({6},{4})\nequation=[ii] f({3}({5},{4}))={3}({5},{4})\nend=M2\n")
unfolding all_opened one_pair asked other_pair
listings = (refl, refl)

pub visible_parts : (visible_part (listing one_answer) ≡ visible_text) × (visible_part (listing other_answer) ≡ visible_text)
unfolding all_opened visible_part_opened one_pair asked visible_text other_pair
visible_parts = (refl, refl)

-- ---- why the demand leaves 18 and 19 out: where 350 bytes of output are lent, the one listing has room and the other has none

pub other_has_none : ((answer memory_size 350 asked one_pair).number ≡ accepted) × ((answer memory_size 350 asked other_pair).number ≡ lent_short)
unfolding all_opened one_pair asked other_pair
other_has_none = (refl, refl)
